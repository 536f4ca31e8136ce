-- What holds objects of the chosen regions from outside: roots, and references of the objects in other regions.
use Rattle.std.specs.Prelude.{◌≡◌, ◌↔◌, ◌⊎◌, ◌++◌, ℕ, ◌<◌, IsTrue, false, Contains, List, flat_map, filter_map, is_some, length, map, sum_by, Option, None, Some, if◌then◌else◌}
use Rattle.bal_base.specs.Bits.{IsAscending}
use Rattle.bal_layout.specs.Addresses as heap
use Rattle.bal_layout.specs.References.{word_of}
use Rattle.bal_layout.specs.Regions.{is_in}
use Rattle.bal_remember.specs.Remembered as remembered
use Rattle.bal_table.specs.Slots.{IsSlot}
use Rattle.bal_table.specs.Table.{Table, remembered_at, slot_place, word_at}
use Rattle.bal_table.specs.declared.slots.Slot.{Slot}
use Rattle.bal_gather.specs.Lent.{Lent, is_chosen, slots_outside}
use Rattle.bal_gather.specs.Objects.{number_behind}
use Rattle.bal_gather.specs.declared.outside.Reference.{Reference}

-- References of objects in other regions.

-- the reference in a slot: where it lies, and its word
abbrev pub reference_in : Table → Slot → Reference
reference_in t s = record { place = slot_place t s.holder s.number; word = word_at t (slot_place t s.holder s.number) }

-- those on a card, if its region is not chosen, and on some cards, one after the other
abbrev pub references_on : Lent → ℕ → List Reference
references_on l card = map (reference_in l.table) (slots_outside l card)

abbrev pub references_on_all : Lent → List ℕ → List Reference
references_on_all l cards = flat_map (references_on l) cards

-- the numbers of the objects to which they lead, as far as these have some, and where the references lie that do
abbrev pub held_by : Lent → List Reference → List ℕ
held_by l rs = filter_map (λ (r : Reference). number_behind l r.word) rs

abbrev pub place_leading : Lent → Reference → Option ℕ
place_leading l r = if is_some (number_behind l r.word) then Some r.place else None

abbrev pub places_leading : Lent → List Reference → List ℕ
places_leading l rs = filter_map (place_leading l) rs

-- The cards on which they are looked for.

abbrev pub listed_by : Lent → ℕ → List ℕ
listed_by l q = remembered.listed (remembered_at l.table q)

-- a chosen region lists the card, and the heap has it
pub record IsListed (l : Lent) (card : ℕ) : Type 0 where
  pub region : ℕ
  pub chosen : IsTrue (is_in region l.regions)
  pub listed : IsTrue (is_in card (listed_by l region))
  pub within : card < heap.cards_of l.table.shape

-- how many cards the chosen regions list. One that several list counts for each of them
abbrev pub listed_count : Lent → ℕ
listed_count l = sum_by (λ q. length (listed_by l q)) l.regions

-- What is gathered.

-- the objects that the roots hold come first, in the order of the roots. Then each listed card is visited once, in ascending
-- order, and the objects come to which the references on it lead; where these lie is listed beside
pub record IsGathered (l : Lent) (roots held places : List ℕ) : Type 0 where
  pub cards : List ℕ
  pub ascending : IsAscending cards
  pub listed : (card : ℕ) → IsTrue (is_in card cards) ↔ IsListed l card
  pub are_held : held ≡ filter_map (number_behind l) roots ++ held_by l (references_on_all l cards)
  pub are_places : places ≡ places_leading l (references_on_all l cards)

-- Which objects are held from outside.

-- a reference leads to an address, and lies in a slot of an object whose region was not chosen
pub record LeadsFromOutside (l : Lent) (place target : ℕ) : Type 0 where
  pub holder : ℕ
  pub number : ℕ
  pub slot : IsSlot l.table holder number place
  pub leads : word_at l.table place ≡ word_of target
  pub outside : is_chosen l holder ≡ false

-- the object that starts there is held by a root, or by such a reference
abbrev pub IsHeld : Lent → List ℕ → ℕ → Type 0
IsHeld l roots a = Contains roots (word_of a) ⊎ ((place : ℕ) × LeadsFromOutside l place a)

-- the list of no chosen region has overflowed
abbrev pub NoneOverflowed : Lent → Type 0
NoneOverflowed l = (q : ℕ) → IsTrue (is_in q l.regions) → remembered.is_overflowed (remembered_at l.table q) ≡ false
