use Rattle.std.proofs.Common.{◌≡◌, ◌<◌, ◌≤◌, ◌+◌, ◌∙◌, true, ap, subst, sym}
use Rattle.bal_layout.specs.Regions.{is_object, region_with_object}
use Rattle.bal_layout.specs.declared.region_state.RegionState.{RegionState}
use Rattle.bal_region.specs.Changes.{blank_words, with_object}
use Rattle.bal_region.specs.Land.{Land}
use Rattle.bal_table.specs.Changes.{with_land, with_region}
use Rattle.bal_table.specs.Kept.{table_of}
use Rattle.bal_table.specs.Table.{IsPiece, IsTable, Table, land_at, role_at}
use Rattle.bal_table.proofs.Parts.{counts-kept, land-read, state-read}
use Rattle.bal_table.proofs.Tables.{IsTable-placed, role-placed}
use Rattle.bal_table.proofs.table.Table.place_new.Goals as goal

pub invariant_of-self : goal.invariant_of-self
invariant_of-self c =
    let a = c.self.inside in
    let q = c.args.region in
    let words = c.args.words in
    let kept = c.self.invariant in
    let within = subst (λ (t : Table). q < t.shape.regions) (sym c.self.view_is) c.requires.within in
    let piece = subst (λ (t : Table). IsPiece t.shape c.args.first c.args.second words) (sym c.self.view_is) c.requires.object in
    let objects = subst (λ (t : Table). is_object (role_at t q) ≡ true) (sym c.self.view_is) c.requires.objects in
    let fits = subst (λ (t : Table). (land_at t q).used + words ≤ t.shape.words) (sym c.self.view_is) c.requires.fits in
    let land = c.place_new-offset.ensures.land
    ∙ ap (λ (l : Land). with_object l (blank_words c.args.first c.args.second words)) (land-read a kept q c.index_mut.result.now within c.index_mut.ensures.value) in
    let state = c.add_object.ensures ∙ ap (region_with_object words) (state-read a kept q within c.index_mut-2.result.now c.index_mut-2.ensures.value) in
    record {
      table = subst (λ (l : Land). IsTable (with_region (with_land (table_of a) q l) q c.add_object.new.self)) (sym land)
          (subst (λ (r : RegionState). IsTable (with_region (with_land (table_of a) q (with_object (land_at (table_of a) q) (blank_words c.args.first c.args.second words))) q r)) (sym state)
          (IsTable-placed (table_of a) q c.args.first c.args.second words piece kept.table within objects fits));
      counts = counts-kept a kept q within c.add_object.new.self (ap (λ (r : RegionState). r.role) state
          ∙ role-placed (role_at (table_of a) q) objects);
    }
