-- References from one region into another, and where a collection of the second one finds them.
use Rattle.std.specs.Prelude.{ℕ, ◌≡◌, ◌==◌, ◌||◌, IsTrue, if◌then◌else◌}
use Rattle.bal_base.specs.Bits.{is_member}
use Rattle.bal_cards.specs.Cards.{Cards, with_dirty}
use Rattle.bal_layout.specs.Addresses.{card_of, region_of}
use Rattle.bal_layout.specs.References.{word_of}
use Rattle.bal_layout.specs.Regions.{region_at}
use Rattle.bal_remember.specs.Remembered.{Remembered, remembers}
use Rattle.bal_table.specs.Slots.{IsSlot}
use Rattle.bal_table.specs.Table.{Table, word_at}

-- the reference in a slot of an object leads to an address of another region
pub record Crosses (t : Table) (holder number place target : ℕ) : Type 0 where
  pub slot : IsSlot t holder number place
  pub leads : word_at t place ≡ word_of target
  pub apart : region_of t.shape holder ≡ region_of t.shape target → ⊥

-- what is remembered of the region in which an address lies
abbrev pub remembered_of : Table → ℕ → Remembered
remembered_of t address = (region_at t.regions (region_of t.shape address)).remembered

-- each such reference lies on a card that the next flush visits, or that the region remembers into which it leads. Without
-- this a collection of that region would lose an object to which only this reference leads
pub record IsCovered (t : Table) (c : Cards) : Type 0 where
  pub each : (holder number place target : ℕ) → Crosses t holder number place target
      → IsTrue (is_member c.list (card_of place) || remembers (remembered_of t target) (card_of place))

-- the regions alone remember them all: so it is after a flush
pub record AreRemembered (t : Table) : Type 0 where
  pub each : (holder number place target : ℕ) → Crosses t holder number place target → IsTrue (remembers (remembered_of t target) (card_of place))

-- no reference leads into a region from another one, so that it may be freed
abbrev pub IsUnreferenced : Table → ℕ → Type 0
IsUnreferenced t q = (holder number place target : ℕ) → Crosses t holder number place target → region_of t.shape target ≡ q → ⊥

-- the cards after a word was stored in a slot on one of them: a reference that is not null makes the card dirty
abbrev pub after_store : ℕ → ℕ → Cards → Cards
after_store word card c = if word == 0 then c else with_dirty card c
