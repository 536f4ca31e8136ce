-- What is lent of a heap when some of its regions are about to be collected.
use Rattle.std.specs.Prelude.{◌≡◌, ℕ, ◌*◌, ◌<◌, Bool, IsTrue, true, List, [], if◌then◌else◌}
use Rattle.bal_base.specs.Bits.{IsAscending}
use Rattle.bal_layout.specs.Addresses.{region_of}
use Rattle.bal_layout.specs.Regions.{is_in, is_object}
use Rattle.bal_table.specs.Slots.{slots_on}
use Rattle.bal_table.specs.Table.{Table, role_at}
use Rattle.bal_table.specs.declared.slots.Slot.{Slot}

-- the heap, and the regions of it that were chosen
pub record Lent : Type 0 where
  pub table : Table
  pub regions : List ℕ

-- regions may be chosen if they ascend and have objects
pub record MayBeChosen (t : Table) (regions : List ℕ) : Type 0 where
  pub ascending : IsAscending regions
  pub within : (q : ℕ) → IsTrue (is_in q regions) → q < t.shape.regions
  pub objects : (q : ℕ) → IsTrue (is_in q regions) → is_object (role_at t q) ≡ true

-- an address lies in a chosen region
abbrev pub is_chosen : Lent → ℕ → Bool
is_chosen l address = is_in (region_of l.table.shape address) l.regions

-- the slots on a card, if its region is not chosen. A card is 64 words of one region
abbrev pub slots_outside : Lent → ℕ → List Slot
slots_outside l card = if is_chosen l (64 * card) then [] else slots_on l.table card
