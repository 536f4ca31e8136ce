use Rattle.std.proofs.Common.{ap, arith}
use Rattle.bal_layout.specs.Shape.{Shape}
use Rattle.bal_rebuild.proofs.Emptied.{empty-all, empty-more}
use Rattle.bal_table.specs.Table.{Table}
use Rattle.bal_rebuild.proofs.empty_lists.Goals as goal

pub empty_list-requires : goal.empty_list-requires
empty_list-requires c =
    omega (
      arith,
      c.loop-region-test.true,
      c.regions-region-end.ensures.number,
      ap (λ (s : Shape). s.regions) c.geometry.ensures.shape,
      ap (λ (t : Table). t.shape.regions) c.loop-region.invariant,
    )

pub loop-region-preserved : goal.loop-region-preserved
loop-region-preserved c =
    empty-more c.args.table.now c.loop-region.table c.empty_list.new.self c.loop-region.region c.geometry.ensures.limits
    (omega (arith, c.loop-region-test.true, c.regions-region-end.ensures.number, ap (λ (s : Shape). s.regions) c.geometry.ensures.shape))
    c.loop-region.invariant c.empty_list.ensures

pub returns : goal.returns
returns c =
    empty-all c.args.table.now c.loop-region.table c.loop-region.region c.geometry.ensures.limits
    (omega (arith, c.loop-region-test.false, c.regions-region-end.ensures.number, ap (λ (s : Shape). s.regions) c.geometry.ensures.shape))
    c.loop-region.invariant
