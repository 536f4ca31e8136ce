use Rattle.std.proofs.Common.{◌∙◌, ap, sym, subst}
use Rattle.bal_layout.specs.Addresses.{offset_of}
use Rattle.bal_region.specs.Changes.{with_slid}
use Rattle.bal_table.specs.Changes.{MayMoveDown}
use Rattle.bal_table.specs.Kept.{table_of}
use Rattle.bal_table.specs.Table.{Table}
use Rattle.bal_table.proofs.Parts.{IsTable-changed}
use Rattle.bal_table.proofs.Slid.{IsTable-slid}
use Rattle.bal_table.proofs.table.Table.slide.Goals as goal

pub invariant_of-self : goal.invariant_of-self
invariant_of-self c =
    let a = c.self.inside in
    let kept = c.self.invariant in
    let may = subst (λ (t : Table). MayMoveDown t c.args.from c.args.to) (sym c.self.view_is) c.requires in
    record {
      table = IsTable-changed a kept c.args.from c.region_of-number.result c.index_mut.result.now c.region_of-number.ensures.region c.region_of-number.ensures.within c.index_mut.ensures.value
          (λ l at. with_slid l at (offset_of a.geometry c.args.to)) c.offset_of-offset.result c.slide.new.self c.offset_of-offset.ensures.offset
          (c.slide.ensures ∙ ap (with_slid c.index_mut.result.now c.offset_of-offset.result) c.offset_of-place.ensures.offset) (IsTable-slid (table_of a) c.args.from c.args.to kept.table may);
      counts = kept.counts;
    }
