use Rattle.std.proofs.Common.{ap, subst}
use Rattle.bal_fixup.proofs.References.{references-empty, references-opened}
use Rattle.bal_fixup.proofs.tests.empty_heap.Goals as goal
use Rattle.bal_layout.specs.Shape.{IsShape}
use Rattle.bal_layout.specs.declared.region_state.Role.TheVariants.{Object}
use Rattle.bal_table.specs.Table.{Table}

pub returns : goal.returns
returns c =
    references-opened c.take_free.new.self c.take_free-2.new.self c.take_free-2.result (Object 1) c.take_free-2.ensures.table
    (references-opened c.in_ok-table.table c.take_free.new.self c.take_free.result (Object 0) c.take_free.ensures.table
    (references-empty c.in_ok-new.field-0 c.in_ok-table.table
    (subst IsShape (ap (λ (t : Table). t.shape) c.in_ok-table.ensures) c.geometry-geometry.ensures.limits.shape) c.in_ok-table.ensures))
