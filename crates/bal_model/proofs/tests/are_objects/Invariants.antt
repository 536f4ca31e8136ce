use Rattle.std.proofs.Common.{take}
use Rattle.std.specs.Prelude.{All, IsSome}
use Rattle.bal_model.specs.Plain.{object}
use Rattle.bal_model.proofs.tests.are_objects.Given as goal

abbrev pub invariant-loop-index : goal.invariant-loop-index
invariant-loop-index l = All (λ x. IsSome (object l.state x)) (take l.index l.names)
