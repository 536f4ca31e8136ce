use Rattle.std.proofs.Common.{ap, subst, sym}
use Rattle.bal_compact.specs.Trials.{IsTrial}
use Rattle.bal_compact.proofs.Trials.{trial-empty, trial-taken}
use Rattle.bal_layout.specs.Shape.{IsShape}
use Rattle.bal_table.specs.Table.{Table}
use Rattle.bal_compact.proofs.tests.empty_heap.Goals as goal

pub loop-age-init : goal.loop-age-init
loop-age-init c =
    let shape = subst IsShape (ap (λ (t : Table). t.shape) c.in_ok-table.ensures) c.geometry.ensures.limits.shape in
    subst IsTrial (sym c.in_ok-table.ensures) (trial-empty c.in_ok-new.field-0 shape (c.a_new_table_is_covered.ensures.found c.in_ok-new.field-0 shape))

pub loop-age-preserved : goal.loop-age-preserved
loop-age-preserved c =
    trial-taken c.states_say_nothing_of_references.ensures.found c.loop-age.table c.take_free.new.self c.take_free.result _ c.take_free.ensures.table c.loop-age.invariant
