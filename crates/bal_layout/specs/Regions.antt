-- The heap's regions as a list of states, one a region. The table keeps it, and the board of a journal tells it.
use Rattle.std.specs.Prelude.{ℕ, ◌+◌, ◌/◌, ◌==◌, Bool, true, false, not, List, [], filter, length, map, slice_index_or, if◌then◌else◌}
use Rattle.std.specs.List.{list_any, range_with_len}
use Rattle.bal_base.specs.Numbering.{numbers_from}
use Rattle.bal_remember.specs.Remembered.{Remembered, cards, overflowed}
use Rattle.bal_layout.specs.Shape.{Shape}
use Rattle.bal_layout.specs.declared.region_state.RegionState.{RegionState}
use Rattle.bal_layout.specs.declared.region_state.Role.{Role}
use Rattle.bal_layout.specs.declared.region_state.Role.TheVariants as roles

-- Roles.

abbrev pub is_free : Role → Bool
is_free roles.Free = true
is_free (roles.Object age) = false
is_free roles.Leaf = false

abbrev pub is_object : Role → Bool
is_object roles.Free = false
is_object (roles.Object age) = true
is_object roles.Leaf = false

abbrev pub is_eden : Role → Bool
is_eden roles.Free = false
is_eden (roles.Object age) = age == 0
is_eden roles.Leaf = false

abbrev pub is_leaf : Role → Bool
is_leaf roles.Free = false
is_leaf (roles.Object age) = false
is_leaf roles.Leaf = true

-- the age of a region of objects
abbrev pub age_of : Role → ℕ
age_of roles.Free = 0
age_of (roles.Object age) = age
age_of roles.Leaf = 0

-- Regions by number. Past the end there is a free one.

abbrev pub free_region : RegionState
free_region = record { role = roles.Free; used = 0; estimate = 0; remembered = cards [] }

abbrev pub region_at : List RegionState → ℕ → RegionState
region_at regions q = slice_index_or regions q free_region

abbrev pub all_regions : List RegionState → List ℕ
all_regions regions = range_with_len 0 (length regions)

-- the numbers of the free regions and of the eden regions, ascending
abbrev pub free_regions : List RegionState → List ℕ
free_regions regions = numbers_from 0 (λ (r : RegionState). is_free r.role) regions

abbrev pub eden_regions : List RegionState → List ℕ
eden_regions regions = numbers_from 0 (λ (r : RegionState). is_eden r.role) regions

-- whether a number is in a list of numbers
abbrev pub is_in : ℕ → List ℕ → Bool
is_in n ns = list_any (λ m. m == n) ns

-- the region of a card: a card is 64 words
abbrev pub region_of_card : Shape → ℕ → ℕ
region_of_card s card = card / (s.words / 64)

-- Changes.

-- a region that takes a new object of so many words, which is thought to be alive: a free one becomes eden
abbrev pub region_with_object : ℕ → RegionState → RegionState
region_with_object words r = record {
  role = if is_free r.role then roles.Object 0 else r.role;
  used = r.used + words;
  estimate = r.estimate + words;
  remembered = r.remembered;
}

-- a region in which nothing is left
abbrev pub emptied : RegionState → RegionState
emptied r = record free_region { role = r.role }

-- a list without the cards of these regions
abbrev pub without_cards_of : Shape → List ℕ → Remembered → Remembered
without_cards_of s qs (cards cs) = cards (filter (λ card. not (is_in (region_of_card s card) qs)) cs)
without_cards_of s qs overflowed = overflowed

-- to free regions: they are free and empty, their lists are empty and not overflowed, and no list keeps a card of theirs
abbrev pub freed : Shape → List ℕ → List RegionState → List RegionState
freed s qs regions = map (λ q.
    if is_in q qs then free_region
    else record (region_at regions q) { remembered = without_cards_of s qs (region_at regions q).remembered }) (all_regions regions)
