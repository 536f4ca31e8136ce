use Rattle.std.proofs.Common.{◌≡◌, map, replicate}
use Rattle.bal_model.specs.Plain.{idle}
use Rattle.bal_model.specs.Graph.{mutator_of}
use Rattle.bal_model.proofs.plain.make.start_plain.Given as goal

abbrev pub invariant-loop : goal.invariant-loop
invariant-loop l = map mutator_of l.mutators.items ≡ replicate l.counter idle
