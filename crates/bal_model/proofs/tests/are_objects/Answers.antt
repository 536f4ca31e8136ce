use Rattle.std.proofs.Common.{◌≡◌, ◌∙◌, Bor, Option, None, Some, IsTrue, ap, sym, arith, take_all, subst, refl}
use Rattle.std.specs.Prelude.{All, IsSome}
use Rattle.std.specs.Option.{is_some, option_copied, option_map}
use Rattle.std.proofs.lemmas.Bool.{false≢true}
use Rattle.std.proofs.lemmas.List.Elements.{All-more}
use Rattle.bal_model.specs.Graph.{object_of}
use Rattle.bal_model.specs.Plain.{object}
use Rattle.bal_model.proofs.tests.are_objects.Goals as goal

some-copied : {A B : Type 0} (f : A → B) (o : Option (Bor A)) → IsTrue (is_some o) → IsTrue (is_some (option_map f (option_copied o)))
some-copied f None h = absurd (false≢true h)
some-copied f (Some a) h = refl

pub loop-index-preserved : goal.loop-index-preserved
loop-index-preserved c =
    All-more (λ x. IsSome (object c.args.state.now x)) c.args.names.now c.loop-index.index _ c.loop-index-test.true c.loop-index.invariant
    (ap is_some (sym c.node.ensures) ∙ some-copied object_of c.node.result c.if-is_none.ensures)

pub returns : goal.returns
returns c = λ is. subst (All (λ x. IsSome (object c.args.state.now x))) (take_all c.loop-index.index c.args.names.now (omega (arith, c.loop-index-test.false))) c.loop-index.invariant
