use Rattle.bal_gather.proofs.tests.what_holds_objects_from_outside_is_gathered.Given as goal

-- the ledger of the steps is the blank one that is passed
abbrev pub ghosts-gathers : goal.ghosts-gathers
ghosts-gathers g a = record { name = a.blank.name; parts = a.blank.parts }
