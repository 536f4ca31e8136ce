-- Reference slots by the addresses at which they lie.
use Rattle.std.specs.Prelude.{◌≡◌, ℕ, ◌+◌, ◌-◌, ◌*◌, ◌<◌, ◌&&◌, List, filter_map, length, map, nat_le, nat_lt, Option, None, Some, if◌then◌else◌}
use Rattle.std.specs.List.{range_with_len}
use Rattle.bal_layout.specs.declared.header.Header.{Header}
use Rattle.bal_words.specs.Pieces.{header_in}
use Rattle.bal_table.specs.declared.slots.Slot.{Slot}
use Rattle.bal_table.specs.Table.{Table, holder_at, objects_of, refs_in, slot_place, things_of}

-- a reference of the object that starts at an address, by its number there, lies at a place
pub record IsSlot (t : Table) (address number place : ℕ) : Type 0 where
  pub object : List ℕ
  pub header : Header
  pub is : objects_of t address ≡ Some object
  pub read : header_in object ≡ Some header
  pub within : number < header.refs
  pub at : slot_place t address number ≡ place

-- the slot that lies at a place, if this is the object that has that word
abbrev pub slot_in : Table → ℕ → Option ℕ → Option Slot
slot_in t place None = None
slot_in t place (Some a) =
    if nat_le (a + 2) place && nat_lt (place - (a + 2)) (length (refs_in (things_of t a))) then Some (record { holder = a; number = place - (a + 2) })
    else None

-- the slot that lies at a place, if one does
abbrev pub slot_at : Table → ℕ → Option Slot
slot_at t place = slot_in t place (holder_at t place)

-- the slots that lie from an address on and before another, by ascending place
unfoldable pub slots_between : Table → ℕ → ℕ → List Slot
slots_between t from to = filter_map (slot_at t) (range_with_len from (to - from))

-- the slots that lie on a card. A card is 64 words
abbrev pub slots_on : Table → ℕ → List Slot
slots_on t card = slots_between t (64 * card) (64 * card + 64)

-- the places at which they lie
abbrev pub card_places : Table → ℕ → List ℕ
card_places t card = map (λ (s : Slot). slot_place t s.holder s.number) (slots_on t card)
