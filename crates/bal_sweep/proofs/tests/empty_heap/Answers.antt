use Rattle.std.proofs.Common.{ap, subst, sym}
use Rattle.bal_layout.specs.Shape.{IsShape}
use Rattle.bal_table.specs.Table.{Table}
use Rattle.bal_sweep.specs.Trials.{IsTrial}
use Rattle.bal_sweep.proofs.Trials.{trial-empty, trial-taken}
use Rattle.bal_sweep.proofs.tests.empty_heap.Goals as goal

pub loop-age-init : goal.loop-age-init
loop-age-init c =
    subst IsTrial (sym c.in_ok-table.ensures) (trial-empty c.in_ok-new.field-0 (subst IsShape (ap (λ (t : Table). t.shape) c.in_ok-table.ensures) c.geometry.ensures.limits.shape))

pub loop-age-preserved : goal.loop-age-preserved
loop-age-preserved c = trial-taken c.loop-age.table c.take_free.new.self c.take_free.result _ c.take_free.ensures.table c.loop-age.invariant
