use Rattle.std.proofs.Common.{◌++◌, List, arith, ap, sym, ◌∙◌}
use Rattle.bal_choose.specs.declared.rows.ChoiceRow.{ChoiceRow}
use Rattle.bal_choose.proofs.OfHeap.{rows-more, row-of}
use Rattle.bal_choose.proofs.rows.rows_in.Goals as goal

pub loop-region-preserved : goal.loop-region-preserved
loop-region-preserved c =
    let i = c.loop-region.invariant in
    let room = c.add_row.ensures.room in
    let left = i.1 in (
      c.add_row.ensures.row
          ∙ (ap (λ (l : List ChoiceRow). l ++ row-of c.args.table.now.regions c.loop-region.region) i.0
          ∙ sym (rows-more c.args.table.now.regions c.loop-region.region)),
      omega (arith, room, left),
    )
