use Rattle.std.proofs.Common.{◌∙◌, List, ap, length, subst, sym, ℕ}
use Rattle.std.proofs.lemmas.List.{with_items_is}
use Rattle.bal_layout.specs.Regions.{region_at, region_with_object}
use Rattle.bal_layout.specs.declared.region_state.RegionState.{RegionState}
use Rattle.bal_table.specs.Changes.{MayCarry}
use Rattle.bal_table.specs.Kept.{table_of}
use Rattle.bal_table.specs.Table.{IsTable, Table, role_at}
use Rattle.bal_table.proofs.Carried.{IsTable-carried}
use Rattle.bal_table.proofs.Copied.{with_copy}
use Rattle.bal_table.proofs.Parts.{counts-kept, state-read, table-carried, words-read}
use Rattle.bal_table.proofs.Tables.{role-placed}
use Rattle.bal_table.proofs.table.Table.carry.Goals as goal

pub invariant_of-self : goal.invariant_of-self
invariant_of-self c =
    let a = c.self.inside in
    let from = c.args.from in
    let q = c.args.region in
    let kept = c.self.invariant in
    let may = subst (λ (t : Table). MayCarry t from q) (sym c.self.view_is) c.requires in
    let number = c.region_of-number.result in
    let offset = c.offset_of-offset.result in
    let is = c.region_of-number.ensures.region in
    let at = c.offset_of-offset.ensures.offset in
    let words = words-read a kept from q number offset may is at c.index.result.now c.object.result.now c.region_of-number.ensures.within c.index.ensures c.object.ensures.words in
    let state = c.add_object.ensures
    ∙ (ap (region_with_object (length c.object.result.now)) (state-read a kept q may.within c.index_mut.result.now c.index_mut.ensures.value)
    ∙ ap (λ (ws : List ℕ). region_with_object (length ws) (region_at a.states.items q)) words) in
    let copied = with_items_is a.regions c.copy_object-place.new.regions (c.copy_object-place.auto.regions ∙ c.deref_mut.ensures.len)
    ∙ (c.copy_object-place.ensures.regions ∙ ap (λ ls. with_copy ls number offset q) c.deref_mut.ensures.value) in
    let table = table-carried a kept from q number offset may is at _ c.index_mut-2.result.now c.remove.new.self c.add_object.new.self
    c.region_of-number.ensures.within copied c.index_mut-2.ensures.value c.remove.ensures state in
    record {
      table = subst IsTable (sym table) (IsTable-carried (table_of a) from q kept.table may);
      counts = counts-kept a kept q may.within c.add_object.new.self (ap (λ (r : RegionState). r.role) state ∙ role-placed (role_at (table_of a) q) may.objects);
    }
