-- The states of the regions after the lists were emptied and the heap was swept.
use Rattle.std.proofs.Common.{◌≡◌, ℕ, ◌<◌, inl, inr, Bool, true, false, cond, List, [], length, map, Some, refl, ap, subst, sym, ◌∙◌, arith}
use Rattle.std.proofs.Math.ListN.{get_or-map}
use Rattle.std.proofs.lemmas.Bool.{cases_lt, false≢true}
use Rattle.std.proofs.lemmas.List.{get_or_past, length-map}
use Rattle.std.proofs.lemmas.List.FromFn.{get_or-map-range_with_len, length-map-range_with_len}
use Rattle.bal_layout.specs.Addresses.{region_of}
use Rattle.bal_layout.specs.Regions.{all_regions, free_region, is_in, is_object, region_at, without_cards_of}
use Rattle.bal_layout.specs.Shape.{Shape}
use Rattle.bal_layout.specs.declared.region_state.RegionState.{RegionState}
use Rattle.bal_layout.proofs.Lemmas.{freed-is, length-freed}
use Rattle.bal_rebuild.specs.Rebuilt.{with_empty_list, with_empty_lists}
use Rattle.bal_remember.specs.Remembered.{cards}
use Rattle.bal_sweep.specs.Sweep.{IsSwept, deserted, state_after}
use Rattle.bal_table.specs.Table.{IsTable, Table, role_at, things_of}
use Rattle.bal_table.proofs.Lemmas.{address-is, object-region, object-within, seen}
use Rattle.bal_words.specs.Things.{Thing}

-- an empty list is the only change of a region
pub emptied-at : (regions : List RegionState) (q : ℕ) → region_at (map with_empty_list regions) q ≡ with_empty_list (region_at regions q)
emptied-at regions q = get_or-map with_empty_list regions q free_region

-- an object lies in a region of objects
pub object-role : (t : Table) (a : ℕ) (x : Thing) → IsTable t → things_of t a ≡ Some x → is_object (role_at t (region_of t.shape a)) ≡ true
object-role t a x table is = by (is_object (role_at t (region_of t.shape a))) refl
  where
    by : (b : Bool) → is_object (role_at t (region_of t.shape a)) ≡ b → b ≡ true
    by true object = refl
    by false none =
        let s = seen t a x table is in
        let region = table.each (region_of t.shape a) (object-region t a s.object table s.is) in
        absurd (omega (arith, region.empty none, region.used, (object-within t a s.object table s.is).1, address-is t.shape a, s.size))

module _ (marked : List ℕ) (t u : Table) (now : IsTable u) (s : IsSwept marked (with_empty_lists t) u) where
  abbrev states : List RegionState
  states = map (state_after marked (with_empty_lists t)) (all_regions (with_empty_lists t).regions)

  count : length states ≡ length t.regions
  count = length-map-range_with_len (state_after marked (with_empty_lists t)) 0 (length (with_empty_lists t).regions) ∙ length-map t.regions with_empty_list

  pub regions-left : length u.regions ≡ length t.regions
  regions-left = ap (λ (rs : List RegionState). length rs) s.regions ∙ (length-freed t.shape (deserted marked (with_empty_lists t)) states ∙ count)

  -- the state of a region before some were freed
  state-is : (q : ℕ) → q < length t.regions → region_at states q ≡ state_after marked (with_empty_lists t) q
  state-is q within =
      get_or-map-range_with_len (state_after marked (with_empty_lists t)) 0 (length (with_empty_lists t).regions) q q free_region
      (omega (arith, within, length-map t.regions with_empty_list)) (omega arith)

  abbrev left_at : ℕ → Bool → RegionState
  left_at q gone = cond gone free_region
      (record (region_at states q) { remembered = without_cards_of t.shape (deserted marked (with_empty_lists t)) (region_at states q).remembered })

  region-is : (q : ℕ) → q < length t.regions → region_at u.regions q ≡ left_at q (is_in q (deserted marked (with_empty_lists t)))
  region-is q within =
      ap (λ (rs : List RegionState). region_at rs q) s.regions
      ∙ freed-is t.shape (deserted marked (with_empty_lists t)) states q free_region (omega (arith, within, count))

  -- nothing is remembered of a region
  pub lists-empty : (q : ℕ) → (region_at u.regions q).remembered ≡ cards []
  lists-empty q = elim (cases_lt q (length t.regions)) [
    | inl within ↦ ap (λ (r : RegionState). r.remembered) (region-is q within) ∙ by within (is_in q (deserted marked (with_empty_lists t)))
    | inr past ↦ ap (λ (r : RegionState). r.remembered) (get_or_past u.regions q free_region (omega (arith, past, regions-left)))
  ]
    where
      by : q < length t.regions → (gone : Bool) → (left_at q gone).remembered ≡ cards []
      by within true = refl
      by within false =
          ap (λ (r : RegionState). without_cards_of t.shape (deserted marked (with_empty_lists t)) r.remembered) (state-is q within)
          ∙ ap (λ (r : RegionState). without_cards_of t.shape (deserted marked (with_empty_lists t)) r.remembered) (emptied-at t.regions q)

  -- the region of an object that is left is used as before
  pub role-left : (a : ℕ) (x : Thing) → things_of u a ≡ Some x → role_at u (region_of u.shape a) ≡ role_at t (region_of t.shape a)
  role-left a x is = ap (λ (h : Shape). role_at u (region_of h a)) s.shape ∙ (ap (λ (r : RegionState). r.role) (region-is q within) ∙ by (is_in q (deserted marked (with_empty_lists t))) refl)
    where
      q : ℕ
      q = region_of t.shape a

      within : q < length t.regions
      within =
          let o = seen u a x now is in
          let inside = object-region u a o.object now o.is in
          omega (arith, subst (λ (h : Shape). region_of h a < length u.regions) s.shape (omega (arith, inside, now.regions)), regions-left)

      by : (gone : Bool) → is_in q (deserted marked (with_empty_lists t)) ≡ gone → (left_at q gone).role ≡ role_at t q
      by true gone =
          let free : is_object (role_at u q) ≡ false = ap (λ (r : RegionState). is_object r.role) (region-is q within) ∙ ap (λ b. is_object (left_at q b).role) gone in
          absurd (false≢true (sym free ∙ subst (λ (h : Shape). is_object (role_at u (region_of h a)) ≡ true) s.shape (object-role u a x now is)))
      by false kept = ap (λ (r : RegionState). r.role) (state-is q within) ∙ ap (λ (r : RegionState). r.role) (emptied-at t.regions q)
