-- What a flush notes, and what the regions remember after it.
use Rattle.std.specs.Prelude.{ℕ, ◌≡◌, ◌==◌, ⊤, false, List, [], ◌∷◌, ◌++◌, flat_map, map, Option, None, Some, option_map, slice_set, if◌then◌else◌}
use Rattle.bal_base.specs.Bits.{IsAscending}
use Rattle.bal_cards.specs.Cards.{Cards}
use Rattle.bal_layout.specs.Addresses.{card_of, region_of}
use Rattle.bal_layout.specs.References.{target_of}
use Rattle.bal_layout.specs.Regions.{region_at}
use Rattle.bal_remember.specs.Remembered.{remembers, with_card}
use Rattle.bal_layout.specs.declared.region_state.RegionState.{RegionState}
use Rattle.bal_words.specs.Shown.{Finds}
use Rattle.bal_table.specs.Slots.{IsSlot, slots_on}
use Rattle.bal_table.specs.Table.{Table, slot_place, things_of, word_at}
use Rattle.bal_table.specs.declared.slots.Slot.{Slot}
use Rattle.bal_barrier.specs.Coverage.{Crosses}
use Rattle.bal_barrier.specs.declared.note.Note.{Note}

-- each reference is null or leads to an object: no reference dangles
pub record LeadToObjects (t : Table) : Type 0 where
  pub each : (holder number place : ℕ) → IsSlot t holder number place → Finds (things_of t) (word_at t place)

-- where a slot lies
abbrev pub place_of : Table → Slot → ℕ
place_of t s = slot_place t s.holder s.number

-- a region, unless it is a certain one
abbrev pub other_than : ℕ → Option ℕ → Option ℕ
other_than home None = None
other_than home (Some q) = if q == home then None else Some q

-- the region into which the reference in a slot leads from another one, if it does
abbrev pub region_into : Table → Slot → Option ℕ
region_into t s = other_than (region_of t.shape s.holder) (option_map (region_of t.shape) (target_of (word_at t (place_of t s))))

-- Notes.

-- a list takes the card of a note, or overflows
abbrev pub with_note : ℕ → List RegionState → Note → List RegionState
with_note limit regions n =
    slice_set regions n.region (record (region_at regions n.region) { remembered = with_card limit n.card (region_at regions n.region).remembered })

abbrev pub with_notes : ℕ → List RegionState → List Note → List RegionState
with_notes limit regions [] = regions
with_notes limit regions (n ∷ ns) = with_notes limit (with_note limit regions n) ns

-- a reference into a region is noted, if the region does not remember its card yet
abbrev pub note_into : Table → List RegionState → Slot → Option ℕ → List Note
note_into t regions s None = []
note_into t regions s (Some q) =
    if remembers (region_at regions q).remembered (card_of (place_of t s)) then []
    else record { region = q; card = card_of (place_of t s); holder = s.holder; slot = s.number } ∷ []

abbrev pub note_of : Table → List RegionState → Slot → List Note
note_of t regions s = note_into t regions s (region_into t s)

-- the notes of these slots in turn, each where the regions remember what was noted before
abbrev pub notes_of : ℕ → Table → List RegionState → List Slot → List Note
notes_of limit t regions [] = []
notes_of limit t regions (s ∷ ss) = note_of t regions s ++ notes_of limit t (with_notes limit regions (note_of t regions s)) ss

-- What a note says.

-- it is true: the reference in the slot crosses into the region, and the slot lies on the card; and it is new: the region
-- does not remember the card
pub record IsNew (t : Table) (regions : List RegionState) (n : Note) : Type 0 where
  pub place : ℕ
  pub target : ℕ
  pub crosses : Crosses t n.holder n.slot place target
  pub into : region_of t.shape target ≡ n.region
  pub on : card_of place ≡ n.card
  pub new : remembers (region_at regions n.region).remembered n.card ≡ false

-- each is, when it comes
abbrev pub AreNew : ℕ → Table → List RegionState → List Note → Type 0
AreNew limit t regions [] = ⊤
AreNew limit t regions (n ∷ ns) = IsNew t regions n × AreNew limit t (with_note limit regions n) ns

-- A flush.

-- the regions' states are others, and their words the same
abbrev pub with_states : Table → List RegionState → Table
with_states t regions = record t { regions = regions }

-- the slots on these cards
abbrev pub slots_of : Table → List ℕ → List Slot
slots_of t cards = flat_map (slots_on t) cards

-- the places of the slots that are noted
abbrev pub noted_places : Table → List Note → List ℕ
noted_places t notes = map (λ (n : Note). slot_place t n.holder n.slot) notes

-- the dirty cards up to some card were flushed in ascending order, and the others are as dirty as before. Each note is
-- true and new when it comes, and none is of a slot of which another one is
pub record IsFlushed (limit : ℕ) (t u : Table) (c d : Cards) (before after : List Note) : Type 0 where
  pub front : List ℕ
  pub rest : List ℕ
  pub made : List Note
  pub dirty : c.list ≡ front ++ rest
  pub clean : d ≡ record c { list = rest }
  pub told : after ≡ before ++ made
  pub notes : made ≡ notes_of limit t t.regions (slots_of t front)
  pub remembered : u ≡ with_states t (with_notes limit t.regions made)
  pub new : AreNew limit t t.regions made
  pub ascending : IsAscending (noted_places t made)
