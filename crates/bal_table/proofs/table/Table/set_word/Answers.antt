use Rattle.std.proofs.Common.{subst, sym}
use Rattle.bal_layout.specs.Addresses.{IsAddress, region_of}
use Rattle.bal_region.specs.Changes.{with_word}
use Rattle.bal_region.specs.Land.{IsBehindHeaders, Land}
use Rattle.bal_table.specs.Changes.{MayBeWritten}
use Rattle.bal_table.specs.Kept.{table_of}
use Rattle.bal_table.specs.Table.{Table, land_at}
use Rattle.bal_table.proofs.Parts.{IsTable-changed, land-found}
use Rattle.bal_table.proofs.Tables.{IsTable-written}
use Rattle.bal_table.proofs.table.Table.set_word.Goals as goal

pub set_word-requires-clause-behind : goal.set_word-requires-clause-behind
set_word-requires-clause-behind c =
    let a = c.self.inside in
    let land = land-found a c.self.invariant c.args.address c.region_of-number.result c.index_mut.result.now c.region_of-number.ensures.region c.region_of-number.ensures.within c.index_mut.ensures.value in
    subst (λ (l : Land). IsBehindHeaders l c.offset_of-offset.result) (sym land)
    (subst (IsBehindHeaders (land_at (table_of a) (region_of a.geometry c.args.address))) (sym c.offset_of-offset.ensures.offset)
    (subst (λ (t : Table). MayBeWritten t c.args.address) (sym c.self.view_is) c.requires.behind))

pub invariant_of-self : goal.invariant_of-self
invariant_of-self c =
    let a = c.self.inside in
    let kept = c.self.invariant in
    let within = subst (λ (t : Table). IsAddress t.shape c.args.address) (sym c.self.view_is) c.requires.within in
    let behind = subst (λ (t : Table). MayBeWritten t c.args.address) (sym c.self.view_is) c.requires.behind in
    record {
      table = IsTable-changed a kept c.args.address c.region_of-number.result c.index_mut.result.now c.region_of-number.ensures.region c.region_of-number.ensures.within c.index_mut.ensures.value
          (λ (l : Land) o. with_word l o c.args.value) c.offset_of-offset.result c.set_word.new.self c.offset_of-offset.ensures.offset c.set_word.ensures
          (IsTable-written (table_of a) c.args.address c.args.value kept.table within behind);
      counts = kept.counts;
    }
