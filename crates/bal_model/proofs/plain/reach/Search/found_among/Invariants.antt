use Rattle.std.proofs.Common.{◌≡◌, take, filter, not}
use Rattle.bal_model.specs.Marks.{is_marked}
use Rattle.bal_model.proofs.plain.reach.Search.found_among.Given as goal

-- those below this one were gone over
abbrev pub invariant-loop-index : goal.invariant-loop-index
invariant-loop-index l = l.found.list ≡ filter (λ x. not (is_marked l.self.unfound x)) (take l.index l.names)
