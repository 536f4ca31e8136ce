-- Where there is room, as the table's counts tell.
use Rattle.std.proofs.Common.{◌≡◌, ℕ, ◌+◌, ◌<◌, ◌≤◌, ◌⊎◌, inl, inr, Bool, true, false, length, Option, Some, None, refl, ap, sym, ◌∙◌, arith}
use Rattle.std.specs.Prelude.{◌↔◌, ◌&&◌, ◌||◌, IsTrue, nat_le, nat_lt, slice_get}
use Rattle.std.proofs.lemmas.Bool.{and_from, and_left, and_right, le-leb, lt-leb}
use Rattle.std.proofs.lemmas.Bool.Decides.{nat_tests}
use Rattle.bal_layout.specs.Regions.{eden_regions, free_regions}
use Rattle.bal_layout.specs.declared.geometry.Want.{Want}
use Rattle.bal_rules.specs.Room.{fits_current, has_fresh_room, has_room_here}
use Rattle.bal_table.specs.Table.{IsTable, Table, land_at}
use Rattle.bal_eden.specs.Room.{Finds, has_room, is_within_budget}
use Rattle.bal_eden.specs.declared.room.Room.TheVariants.{Fresh, Here}

-- a test that is true exactly where one number is at most another
le-from_iff : (b : Bool) (m n : ℕ) → (IsTrue b ↔ (m ≤ n)) → b ≡ nat_le m n
le-from_iff b m n iff = grind (arith, nat_tests)

-- whether the words fit the current region
pub fits-some : (t : Table) (q words : ℕ) (fits : Bool) → IsTable t → q < t.shape.regions
    → (IsTrue fits ↔ ((land_at t q).used + words ≤ length (land_at t q).words)) → fits ≡ fits_current t.shape t.regions (Some q) words
fits-some t q words fits table within iff =
    le-from_iff fits ((land_at t q).used + words) (length (land_at t q).words) iff
    ∙ (ap (nat_le ((land_at t q).used + words)) (table.each q within).words
    ∙ ap (λ used. nat_le (used + words) t.shape.words) (sym (table.each q within).used))

-- the budget, by a count of the eden regions
pub within_budget-some : (t : Table) (eden count : ℕ) → count ≡ length (eden_regions t.regions) → nat_lt count eden ≡ is_within_budget t (Some eden)
within_budget-some t eden count is = ap (λ n. nat_lt n eden) is

-- there is room in the current region, or in a free one that may be taken
has_room-is : (t : Table) (soft : Option ℕ) (w : Want)
    → has_room t soft w ≡ (has_room_here t.shape t.regions t.current w || (is_within_budget t soft && has_fresh_room t.regions w))
has_room-is t None w = refl
has_room-is t (Some eden) w = refl

module _ (t : Table) (soft : Option ℕ) (w : Want) (free : ℕ) (count : free ≡ length (free_regions t.regions)) where
  counted : length (free_regions t.regions) ≡ free
  counted = sym count

  -- the words fit, and there are as many free regions as leaves
  pub finds-here : w.leaves ≤ free → fits_current t.shape t.regions t.current w.words ≡ true → Finds t w soft Here
  finds-here enough fits =
      let here : has_room_here t.shape t.regions t.current w ≡ true =
      and_from (fits_current t.shape t.regions t.current w.words) (nat_le w.leaves (length (free_regions t.regions))) fits
      (le-leb w.leaves (length (free_regions t.regions)) (omega (arith, enough, counted))) in
      (has_room-is t soft w ∙ ap (λ (b : Bool). b || (is_within_budget t soft && has_fresh_room t.regions w)) here, here)

  -- one of the two is wanting
  not-here : (free < w.leaves) ⊎ (fits_current t.shape t.regions t.current w.words ≡ false) → has_room_here t.shape t.regions t.current w ≡ false
  not-here (inl few) = and_right (fits_current t.shape t.regions t.current w.words) (nat_le w.leaves (length (free_regions t.regions)))
      (lt-leb w.leaves (length (free_regions t.regions)) (omega (arith, few, counted)))
  not-here (inr unfit) = and_left (fits_current t.shape t.regions t.current w.words) (nat_le w.leaves (length (free_regions t.regions))) unfit

  -- no free region may be taken, or the leaves take them all
  pub finds-nowhere : (free < w.leaves) ⊎ (fits_current t.shape t.regions t.current w.words ≡ false)
      → (is_within_budget t soft ≡ false) ⊎ (free ≤ w.leaves) → has_room t soft w ≡ false
  finds-nowhere here (inl over) = has_room-is t soft w ∙ rw (not-here here, over) refl
  finds-nowhere here (inr few) =
      let full : has_fresh_room t.regions w ≡ false = lt-leb (1 + w.leaves) (length (free_regions t.regions)) (omega (arith, few, counted)) in
      has_room-is t soft w ∙ rw (not-here here) (and_right (is_within_budget t soft) (has_fresh_room t.regions w) full)

  -- a free region may be taken, and is there beside the leaves, and the current one takes no more
  pub finds-fresh : (q : ℕ) → (free < w.leaves) ⊎ (fits_current t.shape t.regions t.current w.words ≡ false) → is_within_budget t soft ≡ true
      → w.leaves < free → slice_get (free_regions t.regions) 0 ≡ Some q → Finds t w soft (Fresh q)
  finds-fresh q (inl few) within enough first = absurd (omega (arith, few, enough))
  finds-fresh q (inr unfit) within enough first =
      let fresh : has_fresh_room t.regions w ≡ true = le-leb (1 + w.leaves) (length (free_regions t.regions)) (omega (arith, enough, counted)) in
      let room : has_room t soft w ≡ true = has_room-is t soft w ∙ rw (not-here (inr unfit), within, fresh) refl in
      (room, (unfit, fresh, first))
