use Rattle.bal_gather.proofs.tests.references_outside_are_read_by_card.Given as goal

-- the ledger of the steps is the blank one that is passed
abbrev pub ghosts-reads_around : goal.ghosts-reads_around
ghosts-reads_around g a = record { name = a.blank.name; parts = a.blank.parts }
