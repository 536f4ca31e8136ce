use Rattle.bal_base.proofs.tests.steps_are_counted_by_whoever_has_a_ledger.Given as goal

-- the ledger of the steps is the blank one that is passed
abbrev pub ghosts-two_steps : goal.ghosts-two_steps
ghosts-two_steps g a = record { name = a.blank.name; parts = a.blank.parts }
