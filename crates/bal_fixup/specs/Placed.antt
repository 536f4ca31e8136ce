-- References that were mended place by place.
use Rattle.std.specs.Prelude.{ℕ, ◌≡◌, Bool, IsTrue, List, false, fold}
use Rattle.bal_base.specs.Bits.{IsAscending}
use Rattle.bal_layout.specs.Addresses.{region_of}
use Rattle.bal_layout.specs.Regions.{is_in}
use Rattle.bal_layout.specs.Shape.{Shape}
use Rattle.bal_table.specs.Changes.{with_word_at}
use Rattle.bal_table.specs.Slots.{IsSlot}
use Rattle.bal_table.specs.Table.{Table, word_at}
use Rattle.bal_words.specs.Moved.{word_to}

-- an address in one of these regions
abbrev pub lies_among : Shape → List ℕ → ℕ → Bool
lies_among s regions a = is_in (region_of s a) regions

-- the word at a place is mended
abbrev pub with_mended_at : (ℕ → ℕ) → Table → ℕ → Table
with_mended_at to t place = with_word_at t place (word_to to (word_at t place))

-- those at some places are, one after the other
abbrev pub with_mended : (ℕ → ℕ) → List ℕ → Table → Table
with_mended to places t = fold (with_mended_at to) t places

-- each of these places is a slot
abbrev pub AreSlots : Table → List ℕ → Type 0
AreSlots t places = (p : ℕ) → IsTrue (is_in p places) → (a : ℕ) × (i : ℕ) × IsSlot t a i p

-- of the references outside of some regions just those at these places may lead to an object that moved, and each of these
-- places is a slot
pub record ArePlacesOutside (t : Table) (regions places : List ℕ) (to : ℕ → ℕ) : Type 0 where
  pub slots : AreSlots t places
  pub ascending : IsAscending places
  pub outside : (p : ℕ) → IsTrue (is_in p places) → is_in (region_of t.shape p) regions ≡ false
  pub others : (a i p : ℕ) → IsSlot t a i p → is_in (region_of t.shape a) regions ≡ false → is_in p places ≡ false
      → word_to to (word_at t p) ≡ word_at t p
