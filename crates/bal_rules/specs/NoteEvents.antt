-- Notes: which may come, and what they do to the board. A region's list takes the card of a reference into the region,
-- or overflows where it may hold no more.
use Rattle.std.specs.Prelude.{ℕ, ◌+◌, ◌/◌, ◌%◌, ◌*◌, ◌==◌, ◌&&◌, not, Bool, IsTrue, false, List, [], ◌∷◌, slice_index_or, slice_set, Option, Some, None}
use Rattle.std.specs.List.{list_any}
use Rattle.bal_layout.specs.declared.name.Name.{Name}
use Rattle.bal_layout.specs.Shape.{Shape}
use Rattle.bal_model.specs.declared.config.Config.{Config}
use Rattle.bal_layout.specs.Regions.{region_at, region_of_card}
use Rattle.bal_remember.specs.Remembered.{remembers, with_card}
use Rattle.bal_rules.specs.Board.{Board, Placed, place_of}
use Rattle.bal_rules.specs.Choice.{lies_in}
use Rattle.bal_layout.specs.Names.{same_name}
use Rattle.bal_model.specs.Plain.{reference}

abbrev pub after_note : Config → Board → ℕ → ℕ → Board
after_note c b q card = record b {
  regions = slice_set b.regions q (record (region_at b.regions q) { remembered = with_card c.cards card (region_at b.regions q).remembered });
}

-- Which notes may come.

-- a reference slot of an object
pub record Slot : Type 0 where
  pub holder : Name
  pub number : ℕ

abbrev pub same_slot : Slot → Slot → Bool
same_slot a b = same_name a.holder b.holder && (a.number == b.number)

-- a card with slots of an object in one piece is a card of its region. The slot i of an array with leaves is the word
-- i mod R of its leaf i / R, with R words in a region, so its card is known
abbrev pub is_card_in : Shape → ℕ → List ℕ → ℕ → ℕ → Bool
is_card_in s region [] i card = region_of_card s card == region
is_card_in s region (leaf ∷ leaves) i card =
    card == (slice_index_or (leaf ∷ leaves) (i / s.words) 0 * s.words + i % s.words) / 64

abbrev pub is_card_of : Shape → Option Placed → ℕ → ℕ → Bool
is_card_of s None i card = false
is_card_of s (Some p) i card = is_card_in s p.region p.leaves i card

abbrev pub lies_outside : Option Placed → ℕ → Bool
lies_outside None q = false
lies_outside (Some p) q = not (p.region == q)

abbrev pub refers_into : Board → ℕ → Option Name → Bool
refers_into b q None = false
refers_into b q (Some x) = lies_in b q x

-- a present object of another region refers into the region, and the region's list does not know the card. Each slot is
-- noted once
pub record IsNote (c : Config) (b : Board) (noted : List Slot) (q card : ℕ) (holder : Name) (i : ℕ) : Type 0 where
  pub from_outside : IsTrue (lies_outside (place_of b.present holder) q)
  pub refers : IsTrue (refers_into b q (reference b.plain holder i))
  pub new_card : IsTrue (not (remembers (region_at b.regions q).remembered card))
  pub of_the_slot : IsTrue (is_card_of c.geometry (place_of b.present holder) i card)
  pub once : IsTrue (not (list_any (same_slot (record { holder = holder; number = i })) noted))
