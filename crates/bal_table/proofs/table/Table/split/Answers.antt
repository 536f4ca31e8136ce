use Rattle.std.proofs.Common.{◌≡◌, ◌∙◌, ℕ, List, ap, length, subst, sym}
use Rattle.std.specs.Vec.{with_items}
use Rattle.std.proofs.lemmas.List.{with_items_is}
use Rattle.bal_base.specs.Numbering.{numbers_from}
use Rattle.bal_layout.specs.Regions.{free_regions}
use Rattle.bal_layout.specs.declared.region_state.RegionState.{RegionState}
use Rattle.bal_region.specs.Land.{Land}
use Rattle.bal_table.specs.Kept.{table_of}
use Rattle.bal_table.specs.KeptOccupied.{is_hollow}
use Rattle.bal_table.specs.Occupied.{vacated}
use Rattle.bal_table.specs.Table.{IsTable, Table}
use Rattle.bal_table.specs.Taken.{AreTaken}
use Rattle.bal_table.specs.declared.table.Table.TheInside.{Inside}
use Rattle.bal_table.proofs.Hollow.{are-hollow, lands-taken, out-taken}
use Rattle.bal_table.proofs.Vacant.{IsTable-vacated}
use Rattle.bal_table.proofs.table.Table.split.Goals as goal

-- the regions were taken out of the table
taken : (a : Inside) (lands after : List Land) (states : List RegionState) → lands ≡ a.regions.items → states ≡ a.states.items → AreTaken lands states after
    → length after ≡ a.regions.len → AreTaken a.regions.items a.states.items (with_items a.regions after).items
taken a lands after states one two are long =
    subst (AreTaken a.regions.items a.states.items) (sym (with_items_is a.regions after long))
    (subst (λ (ls : List Land). AreTaken ls a.states.items after) one (subst (λ (rs : List RegionState). AreTaken lands rs after) two are))

pub invariant_of-occupied : goal.invariant_of-occupied
invariant_of-occupied c =
    let a = c.self.inside in
    let after = (with_items a.regions c.take_free.new.regions).items in
    let table = c.self.invariant.table in
    let are = taken a c.deref_mut.result.now c.take_free.new.regions c.deref.result.now c.deref_mut.ensures.value c.deref.ensures.value c.take_free.ensures.regions
    (c.take_free.auto.regions ∙ c.deref_mut.ensures.len) in
    record {
      table = subst (λ (ls : List Land). IsTable (record (table_of a) { lands = ls })) (sym (lands-taken (table_of a) table after are)) (IsTable-vacated (table_of a) table);
      counts = c.self.invariant.counts;
      hollow = are-hollow (table_of a) table after are;
    }

pub returns-clause-occupied : goal.returns-clause-occupied
returns-clause-occupied c =
    let a = c.self.inside in
    let after = (with_items a.regions c.take_free.new.regions).items in
    let table = c.self.invariant.table in
    let are = taken a c.deref_mut.result.now c.take_free.new.regions c.deref.result.now c.deref_mut.ensures.value c.deref.ensures.value c.take_free.ensures.regions
    (c.take_free.auto.regions ∙ c.deref_mut.ensures.len) in
    ap (λ (ls : List Land). record { table = record (table_of a) { lands = ls }; out = numbers_from 0 is_hollow after }) (lands-taken (table_of a) table after are)
    ∙ (ap (λ (out : List ℕ). record { table = vacated (table_of a); out = out }) (out-taken (table_of a) table after are)
    ∙ ap (λ (u : Table). record { table = vacated u; out = free_regions u.regions }) c.self.view_is)
