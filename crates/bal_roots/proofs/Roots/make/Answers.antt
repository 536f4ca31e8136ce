use Rattle.bal_roots.proofs.Roots.make.Goals as goal

pub returns : goal.returns
returns c = c.in_ok-words.ensures
