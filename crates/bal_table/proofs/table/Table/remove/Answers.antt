use Rattle.bal_region.specs.Changes.{without}
use Rattle.bal_table.specs.Kept.{table_of}
use Rattle.bal_table.proofs.Parts.{IsTable-changed}
use Rattle.bal_table.proofs.Tables.{IsTable-removed}
use Rattle.bal_table.proofs.table.Table.remove.Goals as goal

pub invariant_of-self : goal.invariant_of-self
invariant_of-self c =
    let a = c.self.inside in
    let kept = c.self.invariant in
    record {
      table = IsTable-changed a kept c.args.address c.region_of-number.result c.index_mut.result.now c.region_of-number.ensures.region c.region_of-number.ensures.within c.index_mut.ensures.value
          without c.offset_of-offset.result c.remove.new.self c.offset_of-offset.ensures.offset c.remove.ensures (IsTable-removed (table_of a) c.args.address kept.table);
      counts = kept.counts;
    }
