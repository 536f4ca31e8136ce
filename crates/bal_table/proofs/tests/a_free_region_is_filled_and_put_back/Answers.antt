use Rattle.std.proofs.Common.{subst, sym, ap, ◌∙◌}
use Rattle.bal_layout.specs.declared.region_state.Role.TheVariants.{Free, Object}
use Rattle.std.specs.Prelude.{IfSome}
use Rattle.bal_table.specs.Trials.{AreOut}
use Rattle.bal_table.specs.Occupied.{MayPutBack, Occupied}
use Rattle.bal_table.proofs.OutTrials.{none-left, other-may}
use Rattle.bal_table.proofs.tests.a_free_region_is_filled_and_put_back.Goals as goal

pub put_back-requires-2 : goal.put_back-requires-2
put_back-requires-2 g c =
    subst (λ (o : Occupied). MayPutBack o c.in-Some.high Free) (sym c.put_back.ensures)
    (other-may c.in-Some.occupied c.in-Some.low c.in-Some.high c.fill.new.region (Object 1) (subst (λ o. IfSome o (λ split. AreOut split.0 split.1 split.2)) c.in-Some.is c.in_ok-occupied.ensures) c.fill.ensures.number)

pub whole-table-requires : goal.whole-table-requires
whole-table-requires g c =
    ap (λ (o : Occupied). o.out) c.put_back-2.ensures
    ∙ none-left c.in-Some.occupied c.in-Some.low c.in-Some.high c.fill.new.region (Object 1) (subst (λ o. IfSome o (λ split. AreOut split.0 split.1 split.2)) c.in-Some.is c.in_ok-occupied.ensures) c.fill.ensures.number c.put_back.new.self c.put_back.ensures
