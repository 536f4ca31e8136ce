use Rattle.std.proofs.Common.{◌≡◌, ◌<◌, ◌≤◌, ◌∙◌, ap, arith, get_or, length, length-set, get_or-set_same, set, subst, sym}
use Rattle.std.proofs.lemmas.List.{get_or_read}
use Rattle.bal_layout.specs.Regions.{region_at}
use Rattle.bal_layout.specs.declared.region_state.RegionState.{RegionState}
use Rattle.bal_region.specs.Changes.{cut_short, empty_land}
use Rattle.bal_region.specs.Land.{Land}
use Rattle.bal_table.specs.Changes.{with_land, with_region}
use Rattle.bal_table.specs.Kept.{table_of}
use Rattle.bal_table.specs.Table.{IsTable, Table, estimate_at, land_at}
use Rattle.bal_table.proofs.Cut.{IsTable-cut}
use Rattle.bal_table.proofs.Parts.{counts-kept, land-read, state-read}
use Rattle.bal_table.proofs.table.Table.cut.Goals as goal

pub invariant_of-self : goal.invariant_of-self
invariant_of-self c =
    let a = c.self.inside in
    let q = c.args.region in
    let kept = c.self.invariant in
    let within = subst (λ (t : Table). q < t.shape.regions) (sym c.self.view_is) c.requires.within in
    let alive = subst (λ (t : Table). estimate_at t q ≤ (cut_short (land_at t q)).used) (sym c.self.view_is) c.requires.alive in
    let land = c.cut.ensures ∙ ap cut_short (land-read a kept q c.index_mut.result.now within c.index_mut.ensures.value) in
    let read = state-read a kept q within c.index_mut-2.result.now c.index_mut-2.ensures.value in
    let inside : q < length a.regions.items = omega (arith, within, kept.table.lands) in
    let again : c.index.result.now ≡ get_or (set a.regions.items q c.cut.new.self) q (empty_land 0 0) = get_or_read (set a.regions.items q c.cut.new.self) q c.index.result.now
    (omega (arith, inside, length-set a.regions.items q c.cut.new.self)) c.index.ensures (empty_land 0 0) in
    let used = c.used.ensures.number ∙ ap (λ (l : Land). l.used) (again ∙ (get_or-set_same a.regions.items q c.cut.new.self (empty_land 0 0) inside ∙ land)) in
    let cut = with_land (table_of a) q (cut_short (land_at (table_of a) q)) in
    record {
      table = subst (λ (l : Land). IsTable (with_region (with_land (table_of a) q l) q (record c.index_mut-2.result.now { used = c.used.result }))) (sym land)
          (subst (λ (r : RegionState). IsTable (with_region cut q (record r { used = c.used.result }))) (sym read)
          (subst (λ n. IsTable (with_region cut q (record (region_at a.states.items q) { used = n }))) (sym used) (IsTable-cut (table_of a) q kept.table within alive)));
      counts = counts-kept a kept q within (record c.index_mut-2.result.now { used = c.used.result }) (ap (λ (r : RegionState). r.role) read);
    }
