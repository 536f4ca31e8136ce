use Rattle.std.proofs.Common.{ap, subst}
use Rattle.bal_layout.specs.Shape.{IsShape}
use Rattle.bal_layout.specs.declared.region_state.Role.TheVariants.{Object}
use Rattle.bal_table.specs.Table.{Table}
use Rattle.bal_mark.proofs.FoundAfter.{found-empty}
use Rattle.bal_mark.proofs.tests.empty_heap.Goals as goal

pub returns : goal.returns
returns c =
    found-empty c.in_ok-new.field-0 c.in_ok-table.table c.take_free.new.self (Object 0) c.take_free.result c.in_ok-make.field-0
    (subst IsShape (ap (λ (t : Table). t.shape) c.in_ok-table.ensures) c.geometry-geometry.ensures.limits.shape)
    c.in_ok-table.ensures c.take_free.ensures.table c.in_ok-make.ensures
