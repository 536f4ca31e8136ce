-- A new table is one, and stays one after each change.
use Rattle.std.proofs.Common.{◌≡◌, ℕ, ◌+◌, ◌*◌, ◌/◌, ◌<◌, ◌≤◌, ◌⊎◌, inl, inr, true, false, cond, List, [], length, set, get_or, Option, Some, None, refl, ap, sym, subst, ◌∙◌, arith, length-set, get_or-set_other, get_or-set_same}
use Rattle.std.specs.Prelude.{IfSome}
use Rattle.std.proofs.lemmas.Bool.{cases_lt, false≢true}
use Rattle.std.proofs.lemmas.List.{get_or-replicate, length-replicate, set_past}
use Rattle.std.proofs.lemmas.Nat.{div_below}
use Rattle.std.proofs.lemmas.List.FromFn.{get_or-map-range_with_len, length-map-range_with_len}
use Rattle.std.proofs.lemmas.Option.{none-some, same_Some}
use Rattle.bal_layout.specs.Addresses.{IsAddress, offset_of, region_of}
use Rattle.bal_layout.specs.Regions.{emptied, free_region, is_free, is_object, region_at, region_with_object}
use Rattle.bal_layout.specs.Shape.{IsShape, Shape}
use Rattle.bal_layout.specs.declared.header.Header.{Header}
use Rattle.bal_layout.specs.declared.region_state.RegionState.{RegionState}
use Rattle.bal_layout.specs.declared.region_state.Role.{Role}
use Rattle.bal_layout.specs.declared.region_state.Role.TheVariants.{Free, Leaf, Object}
use Rattle.bal_remember.specs.Remembered.{Remembered, cards}
use Rattle.bal_words.specs.Pieces.{header_in}
use Rattle.bal_words.specs.Things.{Updated}
use Rattle.bal_words.proofs.Lemmas.{same-or}
use Rattle.bal_region.specs.Changes.{blank_words, empty_land, overwrite, with_object, with_word, without}
use Rattle.bal_region.specs.Land.{IsBehindHeaders, IsObject, Land, header_at, object_at, object_in, starts_at}
use Rattle.bal_region.proofs.Lemmas.{IsLand-placed, IsLand-removed, IsLand-written, header-placed, header-same, laid-each, length-overwrite, object-placed, object-removed, object-starts, object-there, overwrite-before, size-two}
use Rattle.bal_table.specs.Changes.{MayBeCurrent, MayBeWritten, empty_table, with_current, with_estimate, with_freed, with_land, with_new, with_placed, with_region, with_remembered, with_role, with_word_at, without_object}
use Rattle.bal_table.specs.Table.{IsPiece, IsRegion, IsRole, IsTable, MayStart, Table, land_at, role_at}
use Rattle.bal_table.proofs.Forgotten.{IsRegion-remembered, IsTable-forgot, cards-in-region, freed-forgotten}
use Rattle.bal_table.proofs.Pieces.{IsObject-piece, length-piece}

-- One region.

-- a region of objects isn't free
pub object-not_free : (role : Role) → is_object role ≡ true → is_free role ≡ true → ⊥
object-not_free Free object free = false≢true object
object-not_free (Object age) object free = false≢true free
object-not_free Leaf object free = false≢true object

-- and is a region of objects with one object more
pub role-placed : (role : Role) → is_object role ≡ true → cond (is_free role) (Object 0) role ≡ role
role-placed Free object = absurd (false≢true object)
role-placed (Object age) object = refl
role-placed Leaf object = absurd (false≢true object)

-- there is one role of free regions
free-role : (role : Role) → is_free role ≡ true → role ≡ Free
free-role Free free = refl
free-role (Object age) free = absurd (false≢true free)
free-role Leaf free = absurd (false≢true free)

-- a region whose words stay has another state
IsRegion-state : (s : Shape) (q : ℕ) (r u : RegionState) (l : Land) → IsRegion s q r l → u.used ≡ r.used → IsRole u.role → u.estimate ≤ u.used
    → (is_object u.role ≡ false → u.used ≡ 0) → (is_free u.role ≡ true → u ≡ free_region) → IsRegion s q u l
IsRegion-state s q r u l region used role estimate empty free = record {
  land = region.land;
  number = region.number;
  words = region.words;
  role = role;
  used = used ∙ region.used;
  estimate = estimate;
  empty = empty;
  free = free;
  pieces = region.pieces;
}

-- it is used for something else
IsRegion-role : (s : Shape) (q : ℕ) (r : RegionState) (role : Role) (l : Land) → IsRegion s q r l → IsRole role → (is_object role ≡ false → r.used ≡ 0)
    → (is_free role ≡ true → emptied r ≡ r) → IsRegion s q (record r { role = role }) l
IsRegion-role s q r role l region is empty free = IsRegion-state s q r (record r { role = role }) l region refl is region.estimate empty
    (λ none. ap (λ (u : RegionState). record u { role = role }) (sym (free none)) ∙ ap (λ n. record free_region { role = n }) (free-role role none))

-- so many of its words are thought to be alive
IsRegion-estimate : (s : Shape) (q : ℕ) (r : RegionState) (words : ℕ) (l : Land) → IsRegion s q r l → words ≤ l.used → IsRegion s q (record r { estimate = words }) l
IsRegion-estimate s q r words l region less = IsRegion-state s q r (record r { estimate = words }) l region refl region.role (omega (arith, less, region.used)) region.empty free
  where
    free : is_free r.role ≡ true → record r { estimate = words } ≡ free_region
    free is =
        let state = region.free is in
        let none : words ≡ 0 = omega (arith, less, region.used, ap (λ (u : RegionState). u.used) state) in
        ap (λ (u : RegionState). record u { estimate = words }) state ∙ ap (λ n. record free_region { estimate = n }) none

-- a region in which nothing is left
pub IsRegion-empty : (s : Shape) (q : ℕ) (role : Role) → IsRole role → IsRegion s q (record free_region { role = role }) (empty_land q s.words)
IsRegion-empty s q role is = record {
  land = record { laid = omega arith; within = omega arith };
  number = refl;
  words = length-replicate {A = ℕ} s.words 0;
  role = is;
  used = refl;
  estimate = omega arith;
  empty = λ _. refl;
  free = λ free. ap (λ r. record free_region { role = r }) (free-role role free);
  pieces = λ at h starts _. absurd (false≢true starts);
}

-- an object that starts elsewhere than where a region was changed started there before
pub stood : (l m : Land) (place : ℕ) (now : Option (List ℕ)) → Updated (object_at l) (object_at m) place now
    → (at : ℕ) → (at ≡ place → ⊥) → starts_at m at ≡ true → starts_at l at ≡ true
stood l m place now change at other starts = (object-starts l at (object_in m.words at) (sym (change.elsewhere at other) ∙ object-there m at starts)).0

module _ (s : Shape) (q : ℕ) (r : RegionState) (l : Land) (region : IsRegion s q r l) where
  -- a word is written after all headers
  pub IsRegion-written : (offset word : ℕ) → IsBehindHeaders l offset → IsRegion s q r (with_word l offset word)
  IsRegion-written offset word behind = record {
    land = IsLand-written l offset word region.land behind;
    number = region.number;
    words = length-set l.words offset word ∙ region.words;
    role = region.role;
    used = region.used;
    estimate = region.estimate;
    empty = region.empty;
    free = region.free;
    pieces = λ at h starts is. region.pieces at h starts (sym (same at starts) ∙ is);
  }
    where
      same : (at : ℕ) → starts_at l at ≡ true → header_at (set l.words offset word) at ≡ header_at l.words at
      same at starts = header-same (set l.words offset word) l.words at
          (get_or-set_other l.words offset at word 0 (λ e. (behind at starts).0 (sym e)))
          (get_or-set_other l.words offset (at + 1) word 0 (λ e. (behind at starts).1 (sym e)))

  -- an object is taken away
  pub IsRegion-removed : (offset : ℕ) → IsRegion s q r (without l offset)
  IsRegion-removed offset = record {
    land = IsLand-removed l offset region.land;
    number = region.number;
    words = region.words;
    role = region.role;
    used = region.used;
    estimate = region.estimate;
    empty = region.empty;
    free = region.free;
    pieces = λ at h starts is. region.pieces at h (by at starts (same-or at offset)) is;
  }
    where
      change : Updated (object_at l) (object_at (without l offset)) offset None
      change = object-removed l offset

      by : (at : ℕ) → starts_at (without l offset) at ≡ true → (at ≡ offset) ⊎ (at ≡ offset → ⊥) → starts_at l at ≡ true
      by at starts (inl same) =
          absurd (none-some (object_in l.words at) (sym (subst (λ o. object_at (without l offset) o ≡ None) (sym same) change.here) ∙ object-there (without l offset) at starts))
      by at starts (inr other) = stood l (without l offset) offset None change at other starts

-- An object is placed.

module _ (s : Shape) (q : ℕ) (r : RegionState) (l : Land) (region : IsRegion s q r l) (object : List ℕ) (is : IsObject s.words object)
    (may : (h : Header) → header_in object ≡ Some h → MayStart s h) (objects : is_object r.role ≡ true) (fits : l.used + length object ≤ s.words) where
  object-is : IsObject (length l.words) object
  object-is = subst (λ n. IsObject n object) (sym region.words) is

  inside : l.used + length object ≤ length l.words
  inside = omega (arith, fits, region.words)

  -- what is used for objects stays so
  role-same : (region_with_object (length object) r).role ≡ r.role
  role-same = role-placed r.role objects

  may-start : (at : ℕ) (h : Header) → starts_at (with_object l object) at ≡ true → header_at (with_object l object).words at ≡ Some h
      → (at ≡ l.used) ⊎ (at ≡ l.used → ⊥) → MayStart s h
  may-start at h starts is (inl same) =
      may h (sym (header-placed l object region.land object-is inside) ∙ (ap (header_at (overwrite l.words l.used object)) (sym same) ∙ is))
  may-start at h starts is (inr other) =
      let change = object-placed l object region.land object-is inside in
      let before = stood l (with_object l object) l.used (Some object) change at other starts in
      let each = laid-each l.words 0 l.starts l.used at region.land.laid before in
      let two = size-two l.words at each.1 in
      let kept = header-same (overwrite l.words l.used object) l.words at
      (overwrite-before l.words l.used object at inside (omega (arith, each.2, two)))
      (overwrite-before l.words l.used object (at + 1) inside (omega (arith, each.2, two))) in
      region.pieces at h before (sym kept ∙ is)

  -- where it is placed, the region is one
  pub IsRegion-placed : IsRegion s q (region_with_object (length object) r) (with_object l object)
  IsRegion-placed = record {
    land = IsLand-placed l object region.land object-is inside;
    number = region.number;
    words = length-overwrite l.words l.used object inside ∙ region.words;
    role = subst IsRole (sym role-same) region.role;
    used = omega (arith, region.used);
    estimate = omega (arith, region.estimate);
    empty = λ none. absurd (false≢true (sym none ∙ (ap is_object role-same ∙ objects)));
    free = λ free. absurd (object-not_free r.role objects (sym (ap is_free role-same) ∙ free));
    pieces = λ at h starts is. may-start at h starts is (same-or at l.used);
  }

-- All regions.

-- other words or another state of one region alone
IsTable-set : (t : Table) (ls : List Land) (rs : List RegionState) (q : ℕ) → IsTable t → length ls ≡ length t.lands → length rs ≡ length t.regions
    → ((p : ℕ) → (p ≡ q → ⊥) → (get_or ls p (empty_land 0 0) ≡ land_at t p) × (region_at rs p ≡ region_at t.regions p))
    → (q < t.shape.regions → IsRegion t.shape q (region_at rs q) (get_or ls q (empty_land 0 0))) → (t.current ≡ Some q → (region_at rs q).role ≡ Object 0)
    → IsTable (record { shape = t.shape; lands = ls; regions = rs; current = t.current })
IsTable-set t ls rs q table lands regions others region current = record {
  shape = table.shape;
  lands = lands ∙ table.lands;
  regions = regions ∙ table.regions;
  each = λ p within. each p within (same-or p q);
  current = λ p is. ((table.current p is).0, eden p is (same-or p q));
}
  where
    each : (p : ℕ) → p < t.shape.regions → (p ≡ q) ⊎ (p ≡ q → ⊥) → IsRegion t.shape p (region_at rs p) (get_or ls p (empty_land 0 0))
    each p within (inl same) = subst (λ n. IsRegion t.shape n (region_at rs n) (get_or ls n (empty_land 0 0))) (sym same) (region (omega (arith, within, same)))
    each p within (inr other) =
        let stay = others p other in
        subst (λ (r : RegionState). IsRegion t.shape p r (get_or ls p (empty_land 0 0))) (sym stay.1) (subst (IsRegion t.shape p (region_at t.regions p)) (sym stay.0) (table.each p within))

    eden : (p : ℕ) → t.current ≡ Some p → (p ≡ q) ⊎ (p ≡ q → ⊥) → (region_at rs p).role ≡ Object 0
    eden p is (inl same) = subst (λ n. (region_at rs n).role ≡ Object 0) (sym same) (current (is ∙ ap Some same))
    eden p is (inr other) = ap (λ (r : RegionState). r.role) (others p other).1 ∙ (table.current p is).1

-- other words in the place of a region's
pub IsTable-land : (t : Table) (q : ℕ) (l : Land) → IsTable t → q < t.shape.regions → IsRegion t.shape q (region_at t.regions q) l → IsTable (with_land t q l)
IsTable-land t q l table within region =
    let here : land_at (with_land t q l) q ≡ l = get_or-set_same t.lands q l (empty_land 0 0) (omega (arith, within, table.lands)) in
    IsTable-set t (set t.lands q l) t.regions q table (length-set t.lands q l) refl (λ p apart. (get_or-set_other t.lands q p l (empty_land 0 0) apart, refl))
    (λ _. subst (IsRegion t.shape q (region_at t.regions q)) (sym here) region) (λ is. (table.current q is).1)

-- another state in the place of a region's
IsTable-region : (t : Table) (q : ℕ) (r : RegionState) → IsTable t → q < t.shape.regions → IsRegion t.shape q r (land_at t q) → (t.current ≡ Some q → r.role ≡ Object 0)
    → IsTable (with_region t q r)
IsTable-region t q r table within region current =
    let here : region_at (set t.regions q r) q ≡ r = get_or-set_same t.regions q r free_region (omega (arith, within, table.regions)) in
    IsTable-set t t.lands (set t.regions q r) q table refl (length-set t.regions q r) (λ p apart. (refl, get_or-set_other t.regions q p r free_region apart))
    (λ _. subst (λ (u : RegionState). IsRegion t.shape q u (land_at t q)) (sym here) region) (λ is. ap (λ (u : RegionState). u.role) here ∙ current is)

-- and both
pub IsTable-both : (t : Table) (q : ℕ) (l : Land) (r : RegionState) → IsTable t → q < t.shape.regions → IsRegion t.shape q r l → (t.current ≡ Some q → r.role ≡ Object 0)
    → IsTable (with_region (with_land t q l) q r)
IsTable-both t q l r table within region current =
    let there : land_at (with_land t q l) q ≡ l = get_or-set_same t.lands q l (empty_land 0 0) (omega (arith, within, table.lands)) in
    let here : region_at (set t.regions q r) q ≡ r = get_or-set_same t.regions q r free_region (omega (arith, within, table.regions)) in
    IsTable-set t (set t.lands q l) (set t.regions q r) q table (length-set t.lands q l) (length-set t.regions q r)
    (λ p apart. (get_or-set_other t.lands q p l (empty_land 0 0) apart, get_or-set_other t.regions q p r free_region apart))
    (λ _. subst (IsRegion t.shape q (region_at (set t.regions q r) q)) (sym there) (subst (λ (u : RegionState). IsRegion t.shape q u l) (sym here) region))
    (λ is. ap (λ (u : RegionState). u.role) here ∙ current is)

-- a region is used for something else
pub IsTable-role : (t : Table) (q : ℕ) (role : Role) → IsTable t → q < t.shape.regions → IsRole role → (t.current ≡ Some q → role ≡ Object 0)
    → (is_object role ≡ false → (region_at t.regions q).used ≡ 0) → (is_free role ≡ true → emptied (region_at t.regions q) ≡ region_at t.regions q)
    → IsTable (with_role t q role)
IsTable-role t q role table within is current empty free =
    IsTable-region t q (record (region_at t.regions q) { role = role }) table within
    (IsRegion-role t.shape q (region_at t.regions q) role (land_at t q) (table.each q within) is empty free) current

-- so many words of a region are thought to be alive
pub IsTable-estimate : (t : Table) (q words : ℕ) → IsTable t → q < t.shape.regions → words ≤ (land_at t q).used → IsTable (with_estimate t q words)
IsTable-estimate t q words table within less =
    IsTable-region t q (record (region_at t.regions q) { estimate = words }) table within
    (IsRegion-estimate t.shape q (region_at t.regions q) words (land_at t q) (table.each q within) less) (λ is. (table.current q is).1)

-- another region is current
pub IsTable-current : (t : Table) (current : Option ℕ) → IsTable t → IfSome current (MayBeCurrent t) → IsTable (with_current t current)
IsTable-current t current table may = record {
  shape = table.shape;
  lands = table.lands;
  regions = table.regions;
  each = table.each;
  current = λ q is. subst (λ c. IfSome c (MayBeCurrent t)) is may;
}

-- a word is written after all headers
pub IsTable-written : (t : Table) (address word : ℕ) → IsTable t → IsAddress t.shape address → MayBeWritten t address → IsTable (with_word_at t address word)
IsTable-written t address word table within behind =
    let q = region_of t.shape address in
    let inside : q < t.shape.regions = div_below address t.shape.words t.shape.regions (omega (arith, table.shape.fewest_words)) within in
    IsTable-land t q (with_word (land_at t q) (offset_of t.shape address) word) table inside
    (IsRegion-written t.shape q (region_at t.regions q) (land_at t q) (table.each q inside) (offset_of t.shape address) word behind)

-- an object is placed
pub IsTable-appended : (t : Table) (q : ℕ) (object : List ℕ) → IsObject t.shape.words object → ((h : Header) → header_in object ≡ Some h → MayStart t.shape h)
    → IsTable t → q < t.shape.regions → is_object (role_at t q) ≡ true → (land_at t q).used + length object ≤ t.shape.words → IsTable (with_placed t q object)
IsTable-appended t q object is may table within objects fits =
    let r = region_at t.regions q in
    IsTable-both t q (with_object (land_at t q) object) (region_with_object (length object) r) table within
    (IsRegion-placed t.shape q r (land_at t q) (table.each q within) object is may objects fits)
    (λ is. role-placed r.role objects ∙ (table.current q is).1)

-- and a new one
pub IsTable-placed : (t : Table) (q first second words : ℕ) → IsPiece t.shape first second words → IsTable t → q < t.shape.regions
    → is_object (role_at t q) ≡ true → (land_at t q).used + words ≤ t.shape.words → IsTable (with_new t q first second words)
IsTable-placed t q first second words piece table within objects fits =
    let object = blank_words first second words in
    let long = length-piece t.shape first second words piece in
    subst (λ n. IsTable (with_region (with_land t q (with_object (land_at t q) object)) q (region_with_object n (region_at t.regions q)))) long
    (IsTable-appended t q object (IsObject-piece t.shape first second words piece t.shape.words refl)
    (λ h is. subst (MayStart t.shape) (same_Some piece.header h (sym piece.read ∙ is)) piece.may) table within objects (omega (arith, fits, long)))

-- an object is taken away
pub IsTable-removed : (t : Table) (a : ℕ) → IsTable t → IsTable (without_object t a)
IsTable-removed t a table = elim (cases_lt q t.shape.regions) [
  | inr past ↦ subst (λ ls. IsTable (record t { lands = ls })) (sym (set_past t.lands q l (omega (arith, past, table.lands)))) table
  | inl within ↦ IsTable-land t q l table within (IsRegion-removed t.shape q (region_at t.regions q) (land_at t q) (table.each q within) (offset_of t.shape a))
]
  where
    q : ℕ
    q = region_of t.shape a

    l : Land
    l = without (land_at t q) (offset_of t.shape a)

-- nothing is left in a region
pub IsTable-emptied : (t : Table) (q : ℕ) → IsTable t → q < t.shape.regions
    → IsTable (with_region (with_land t q (empty_land q t.shape.words)) q (emptied (region_at t.regions q)))
IsTable-emptied t q table within =
    IsTable-both t q (empty_land q t.shape.words) (emptied (region_at t.regions q)) table within
    (IsRegion-empty t.shape q (role_at t q) (table.each q within).role) (λ is. (table.current q is).1)

-- and it is given back
pub IsTable-freed : (t : Table) (q : ℕ) → IsTable t → q < t.shape.regions → (t.current ≡ Some q → ⊥) → IsTable (with_freed t q)
IsTable-freed t q table within other =
    subst (λ (rs : List RegionState). IsTable (record (with_land t q (empty_land q t.shape.words)) { regions = rs }))
    (sym (freed-forgotten t.shape q t.regions (cards-in-region t.shape table.shape) (omega (arith, within, table.regions))))
    (IsTable-forgot (q * (t.shape.words / 64)) ((q + 1) * (t.shape.words / 64)) (with_region (with_land t q (empty_land q t.shape.words)) q free_region)
    (IsTable-both t q (empty_land q t.shape.words) free_region table within (IsRegion-empty t.shape q Free tt) (λ is. absurd (other is))))

-- a region's list is another. Of a free one nothing is remembered
pub IsTable-remembered : (t : Table) (q : ℕ) (r : Remembered) → IsTable t → q < t.shape.regions → (is_free (role_at t q) ≡ true → r ≡ cards [])
    → IsTable (with_remembered t q r)
IsTable-remembered t q r table within none =
    IsTable-region t q (record (region_at t.regions q) { remembered = r }) table within
    (IsRegion-remembered t.shape q (region_at t.regions q) r (land_at t q) (table.each q within) none) (λ is. (table.current q is).1)

-- free regions alone
pub IsTable-empty : (s : Shape) → IsShape s → IsTable (empty_table s)
IsTable-empty s shape = record {
  shape = shape;
  lands = length-map-range_with_len (λ q. empty_land q s.words) 0 s.regions;
  regions = length-replicate s.regions free_region;
  each = each;
  current = λ q is. absurd (none-some q is);
}
  where
    each : (q : ℕ) → q < s.regions → IsRegion s q (region_at (empty_table s).regions q) (land_at (empty_table s) q)
    each q within =
        let land : land_at (empty_table s) q ≡ empty_land q s.words = get_or-map-range_with_len (λ p. empty_land p s.words) 0 s.regions q q (empty_land 0 0) within (omega arith) in
        let free : region_at (empty_table s).regions q ≡ free_region = get_or-replicate s.regions q free_region free_region within in
        subst (IsRegion s q (region_at (empty_table s).regions q)) (sym land)
        (subst (λ (r : RegionState). IsRegion s q r (empty_land q s.words)) (sym free) (IsRegion-empty s q Free tt))
