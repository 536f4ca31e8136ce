-- What freeing a region means for the states of all regions: its own is that of a free one, and the others forget its cards.
use Rattle.std.proofs.Common.{◌≡◌, ℕ, suc, zero, ◌+◌, ◌*◌, ◌/◌, ◌<◌, ◌≤◌, ◌⊎◌, inl, inr, ◌||◌, Bool, true, false, cond, eqb, not, List, [], ◌∷◌, length, map, get_or, set, refl, ap, sym, subst, ◌∙◌, arith, length-set, get_or-set_other, get_or-set_same}
use Rattle.std.specs.Prelude.{◌&&◌, nat_le, nat_lt}
use Rattle.std.proofs.Math.Nat.{div-eq_of_lt-le, div-mul-le_self}
use Rattle.std.proofs.lemmas.Bool.{eq-eqb, eqb-true, false≢true, leb-false, leb-true, ltb-false, ltb-true, ne_eqb}
use Rattle.std.proofs.lemmas.Nat.{le-div}
use Rattle.std.proofs.lemmas.List.{get_or-map, length-map, same_lists}
use Rattle.std.proofs.lemmas.List.Elements.{filter_agree}
use Rattle.bal_layout.proofs.Lemmas.{freed-is, length-freed}
use Rattle.bal_layout.specs.Regions.{free_region, freed, is_eden, is_free, is_in, region_at, region_of_card, without_cards_of}
use Rattle.bal_layout.specs.Shape.{IsShape, Shape}
use Rattle.bal_base.specs.Numbering.{numbers_from}
use Rattle.bal_layout.specs.declared.region_state.RegionState.{RegionState}
use Rattle.bal_layout.specs.declared.region_state.Role.{Role}
use Rattle.bal_region.specs.Land.{Land}
use Rattle.bal_remember.specs.Remembered.{Remembered, cards, overflowed, without_between}
use Rattle.bal_words.proofs.Lemmas.{same-or}
use Rattle.bal_table.specs.Changes.{without_cards_between}
use Rattle.bal_table.specs.Kept.{AreCounted}
use Rattle.bal_table.specs.Table.{IsRegion, IsTable, Table, land_at}

-- The cards of a region.

-- each region has some
pub cards-in-region : (s : Shape) → IsShape s → 0 < s.words / 64
cards-in-region s shape = let some = shape.fewest_words in le-div 1 s.words 64 (omega arith) (omega arith)

-- those from its first one up to the next region's first one
of-region : (w q card : ℕ) → 0 < w → is_in (card / w) (q ∷ []) ≡ nat_le (q * w) card && nat_lt card ((q + 1) * w)
of-region w q card some = by (eqb q (card / w)) refl (nat_le (q * w) card) refl (nat_lt card ((q + 1) * w)) refl
  where
    by : (here : Bool) → eqb q (card / w) ≡ here → (from : Bool) → nat_le (q * w) card ≡ from → (to : Bool) → nat_lt card ((q + 1) * w) ≡ to → here || false ≡ from && to
    by true here true from true to = refl
    by true here false from to e =
        let low = leb-false (q * w) card from in
        let own = subst (λ n. n * w ≤ card) (sym (eqb-true q (card / w) here)) (div-mul-le_self card w) in
        absurd (omega arith)
    by true here true from false to =
        let same = eqb-true q (card / w) here in
        let next = le-div (q + 1) card w some (ltb-false card ((q + 1) * w) to) in
        absurd (omega arith)
    by false here true from true to =
        let same = div-eq_of_lt-le {k = q} w {m = card} (leb-true (q * w) card from) (ltb-true card ((q + 1) * w) to) in
        absurd (false≢true (sym here ∙ eq-eqb q (card / w) (sym same)))
    by false here false from to e = refl
    by false here true from false to = refl

list-same : (s : Shape) (q : ℕ) (r : Remembered) → 0 < s.words / 64
    → without_cards_of s (q ∷ []) r ≡ without_between (q * (s.words / 64)) ((q + 1) * (s.words / 64)) r
list-same s q (cards cs) some = ap cards (filter_agree (λ card. not (is_in (region_of_card s card) (q ∷ []))) _ (λ card. ap not (of-region (s.words / 64) q card some)) cs)
list-same s q overflowed some = refl

-- The states once a region is freed.

pub freed-forgotten : (s : Shape) (q : ℕ) (rs : List RegionState) → 0 < s.words / 64 → q < length rs
    → freed s (q ∷ []) rs ≡ map (without_cards_between (q * (s.words / 64)) ((q + 1) * (s.words / 64))) (set rs q free_region)
freed-forgotten s q rs some within =
    same_lists (freed s (q ∷ []) rs) (map forget (set rs q free_region))
    (length-freed s (q ∷ []) rs ∙ sym (length-map (set rs q free_region) forget ∙ length-set rs q free_region))
    (λ k d less. each k d (omega (arith, less, length-freed s (q ∷ []) rs)) (same-or k q))
  where
    forget : RegionState → RegionState
    forget = without_cards_between (q * (s.words / 64)) ((q + 1) * (s.words / 64))

    each : (k : ℕ) (d : RegionState) → k < length rs → (k ≡ q) ⊎ (k ≡ q → ⊥) → get_or (freed s (q ∷ []) rs) k d ≡ get_or (map forget (set rs q free_region)) k d
    each k d less which =
        freed-is s (q ∷ []) rs k d less
        ∙ (by k less which ∙ sym (get_or-map forget (set rs q free_region) k free_region d (omega (arith, less, length-set rs q free_region))))
      where
        by : (k : ℕ) → k < length rs → (k ≡ q) ⊎ (k ≡ q → ⊥)
            → cond (is_in k (q ∷ [])) free_region (record (region_at rs k) { remembered = without_cards_of s (q ∷ []) (region_at rs k).remembered })
            ≡ forget (get_or (set rs q free_region) k free_region)
        by k less (inl same) =
            let here = ap (λ n. get_or (set rs q free_region) n free_region) same ∙ get_or-set_same rs q free_region free_region within in
            rw (eq-eqb q k (sym same)) (ap forget (sym here))
        by k less (inr other) =
            rw (ne_eqb q k (λ e. other (sym e)), get_or-set_other rs q k free_region free_region other)
            (ap (λ (l : Remembered). record (region_at rs k) { remembered = l }) (list-same s q (region_at rs k).remembered some))

-- What stays if cards are forgotten.

-- with another remembered list a region is one still
pub IsRegion-remembered : (s : Shape) (q : ℕ) (r : RegionState) (list : Remembered) (l : Land) → IsRegion s q r l → (is_free r.role ≡ true → list ≡ cards [])
    → IsRegion s q (record r { remembered = list }) l
IsRegion-remembered s q r list l region none = record {
  land = region.land;
  number = region.number;
  words = region.words;
  role = region.role;
  used = region.used;
  estimate = region.estimate;
  empty = region.empty;
  free = λ free. ap (λ (m : Remembered). record r { remembered = m }) (none free) ∙ ap (λ (u : RegionState). record u { remembered = cards [] }) (region.free free);
  pieces = region.pieces;
}

-- a state is read as it was, without the cards
forgot-is : (from to : ℕ) (rs : List RegionState) (q : ℕ) → region_at (map (without_cards_between from to) rs) q ≡ without_cards_between from to (region_at rs q)
forgot-is from to [] q = refl
forgot-is from to (r ∷ rs) zero = refl
forgot-is from to (r ∷ rs) (suc q) = forgot-is from to rs q

pub IsTable-forgot : (from to : ℕ) (t : Table) → IsTable t → IsTable (record t { regions = map (without_cards_between from to) t.regions })
IsTable-forgot from to t table = record {
  shape = table.shape;
  lands = table.lands;
  regions = length-map t.regions (without_cards_between from to) ∙ table.regions;
  each = λ q within. subst (λ (r : RegionState). IsRegion t.shape q r (land_at t q)) (sym (forgot-is from to t.regions q))
      (IsRegion-remembered t.shape q (region_at t.regions q) (without_between from to (region_at t.regions q).remembered) (land_at t q) (table.each q within)
      (λ free. ap (λ (r : RegionState). without_between from to r.remembered) ((table.each q within).free free)));
  current = λ q is. ((table.current q is).0, ap (λ (r : RegionState). r.role) (forgot-is from to t.regions q) ∙ (table.current q is).1);
}

-- the regions with some role are the same ones
numbers-forgot : (from to : ℕ) (test : Role → Bool) (n : ℕ) (rs : List RegionState)
    → numbers_from n (λ (r : RegionState). test r.role) (map (without_cards_between from to) rs) ≡ numbers_from n (λ (r : RegionState). test r.role) rs
numbers-forgot from to test n [] = refl
numbers-forgot from to test n (r ∷ rs) = ap (λ (ns : List ℕ). cond (test r.role) (n ∷ ns) ns) (numbers-forgot from to test (n + 1) rs)

pub AreCounted-forgot : (from to : ℕ) (rs : List RegionState) (lowest free eden : ℕ) → AreCounted rs lowest free eden → AreCounted (map (without_cards_between from to) rs) lowest free eden
AreCounted-forgot from to rs lowest free eden are = record {
  lowest = record {
    within = omega (arith, are.lowest.within, length-map rs (without_cards_between from to));
    below = λ q less. ap (λ (r : RegionState). is_free r.role) (forgot-is from to rs q) ∙ are.lowest.below q less;
    free = λ less. ap (λ (r : RegionState). is_free r.role) (forgot-is from to rs lowest) ∙ are.lowest.free (omega (arith, less, length-map rs (without_cards_between from to)));
  };
  free = are.free ∙ ap (λ (ns : List ℕ). length ns) (sym (numbers-forgot from to is_free 0 rs));
  eden = are.eden ∙ ap (λ (ns : List ℕ). length ns) (sym (numbers-forgot from to is_eden 0 rs));
}
