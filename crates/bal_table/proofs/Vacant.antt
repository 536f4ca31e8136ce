-- A table with zeros in its free regions.
use Rattle.std.proofs.Common.{◌≡◌, ℕ, ◌<◌, inl, inr, Bool, true, false, cond, eqb, List, [], ◌∷◌, length, get_or, None, Some, refl, ap, sym, subst, ◌∙◌, arith}
use Rattle.std.specs.List.{list_any}
use Rattle.std.proofs.lemmas.Bool.{cases_lt}
use Rattle.std.proofs.lemmas.List.{get_or_past}
use Rattle.std.proofs.lemmas.List.FromFn.{get_or-map-range_with_len, length-map-range_with_len}
use Rattle.bal_base.proofs.Lemmas.{among-first}
use Rattle.bal_layout.specs.Addresses.{offset_of, region_of}
use Rattle.bal_layout.specs.Regions.{free_region, free_regions, is_free, is_in, region_at}
use Rattle.bal_layout.specs.declared.region_state.RegionState.{RegionState}
use Rattle.bal_layout.specs.declared.region_state.Role.TheVariants.{Free}
use Rattle.bal_region.specs.Changes.{empty_land}
use Rattle.bal_region.specs.Land.{IsLand, Laid, Land, object_at, object_in}
use Rattle.bal_region.proofs.Lemmas.{laid-each, size-two}
use Rattle.bal_table.specs.Occupied.{IsOccupied, IsVacant, is_free_at, vacated}
use Rattle.bal_table.specs.Table.{IsRegion, IsTable, Table, land_at, objects_of}
use Rattle.bal_table.proofs.Numbered.{numbered}
use Rattle.bal_table.proofs.Tables.{IsRegion-empty}

-- where no word was given out, no object starts
starts-none : (l : Land) → IsLand l → l.used ≡ 0 → l.starts ≡ []
starts-none l land none = by l.starts land.laid
  where
    by : (ss : List ℕ) → Laid l.words 0 ss l.used → ss ≡ []
    by [] laid = refl
    by (s ∷ ss) laid =
        let each = laid-each l.words 0 (s ∷ ss) l.used s laid (among-first s ss) in
        absurd (omega (arith, each.2, size-two l.words s each.1, none))

-- and so none is there
objects-none : (l : Land) (at : ℕ) → l.starts ≡ [] → object_at l at ≡ None
objects-none l at none = ap (λ ss. cond (list_any (λ s. eqb s at) ss) (Some (object_in l.words at)) None) none

module _ (t : Table) (table : IsTable t) where
  -- the state of a free region
  pub state-free : (q : ℕ) → q < t.shape.regions → is_free_at t q ≡ true → region_at t.regions q ≡ free_region
  state-free q within free = (table.each q within).free free

  -- a free region has no object
  pub vacant : (q : ℕ) → q < t.shape.regions → is_free_at t q ≡ true → IsVacant t q (land_at t q)
  vacant q within free =
      let region = table.each q within in
      let none : (land_at t q).used ≡ 0 = sym region.used ∙ ap (λ (r : RegionState). r.used) (state-free q within free) in
      record { number = region.number; words = region.words; starts = starts-none (land_at t q) region.land none; used = none }

  pub free-numbered : (q : ℕ) → is_in q (free_regions t.regions) ≡ true → (q < t.shape.regions) × (is_free_at t q ≡ true)
  free-numbered q among =
      let n = numbered 0 (λ (r : RegionState). is_free r.role) t.regions free_region q among in
      let same : n.place ≡ q = omega (arith, n.number) in
      (omega (arith, n.within, same, table.regions), subst (λ k. is_free_at t k ≡ true) same n.passes)

  -- What is seen in the place of a region.
  pub land-vacated : (q : ℕ) (d : Land) → q < t.shape.regions → get_or (vacated t).lands q d ≡ cond (is_free_at t q) (empty_land q t.shape.words) (land_at t q)
  land-vacated q d within =
      get_or-map-range_with_len (λ p. cond (is_free_at t p) (empty_land p t.shape.words) (land_at t p)) 0 t.shape.regions q q d within (omega arith)

  pub lands-vacated : length (vacated t).lands ≡ t.shape.regions
  lands-vacated = length-map-range_with_len (λ p. cond (is_free_at t p) (empty_land p t.shape.words) (land_at t p)) 0 t.shape.regions

  -- the objects of each region are the same
  object-vacated : (q at : ℕ) → object_at (land_at (vacated t) q) at ≡ object_at (land_at t q) at
  object-vacated q at = elim (cases_lt q t.shape.regions) [
    | inl within ↦ by (is_free_at t q) refl within
    | inr past ↦
        ap (λ (l : Land). object_at l at) (get_or_past (vacated t).lands q (empty_land 0 0) (omega (arith, past, lands-vacated)))
        ∙ sym (ap (λ (l : Land). object_at l at) (get_or_past t.lands q (empty_land 0 0) (omega (arith, past, table.lands))))
  ]
    where
      by : (free : Bool) → is_free_at t q ≡ free → q < t.shape.regions → object_at (land_at (vacated t) q) at ≡ object_at (land_at t q) at
      by true is within =
          ap (λ (l : Land). object_at l at) (land-vacated q (empty_land 0 0) within ∙ ap (λ b. cond b (empty_land q t.shape.words) (land_at t q)) is)
          ∙ sym (objects-none (land_at t q) at (vacant q within is).starts)
      by false is within =
          ap (λ (l : Land). object_at l at) (land-vacated q (empty_land 0 0) within ∙ ap (λ b. cond b (empty_land q t.shape.words) (land_at t q)) is)

  pub objects-vacated : (a : ℕ) → objects_of (vacated t) a ≡ objects_of t a
  objects-vacated a = object-vacated (region_of t.shape a) (offset_of t.shape a)

  -- so it is a table
  pub IsTable-vacated : IsTable (vacated t)
  IsTable-vacated = record {
    shape = table.shape;
    lands = lands-vacated;
    regions = table.regions;
    each = λ q within. subst (IsRegion t.shape q (region_at t.regions q)) (sym (land-vacated q (empty_land 0 0) within)) (by q within (is_free_at t q) refl);
    current = table.current;
  }
    where
      by : (q : ℕ) → q < t.shape.regions → (free : Bool) → is_free_at t q ≡ free
          → IsRegion t.shape q (region_at t.regions q) (cond free (empty_land q t.shape.words) (land_at t q))
      by q within true is =
          subst (λ (r : RegionState). IsRegion t.shape q r (empty_land q t.shape.words)) (sym (state-free q within is)) (IsRegion-empty t.shape q Free tt)
      by q within false is = table.each q within

  pub IsOccupied-vacated : IsOccupied (record { table = vacated t; out = free_regions t.regions })
  IsOccupied-vacated = record { table = IsTable-vacated; out = free-numbered }
