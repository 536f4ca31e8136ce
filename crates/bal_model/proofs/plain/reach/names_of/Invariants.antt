use Rattle.std.proofs.Common.{◌≡◌, flat_map}
use Rattle.std.specs.List.{range_with_len}
use Rattle.bal_model.proofs.NameFacts.{names_by}
use Rattle.bal_model.proofs.plain.reach.names_of.Given as goal

-- the names of the threads below this one
abbrev pub invariant-loop-thread : goal.invariant-loop-thread
invariant-loop-thread l = l.names.list ≡ flat_map (names_by l.state) (range_with_len 0 l.thread)
