-- Which cards were written, as contracts see it.
use Rattle.std.specs.Prelude.{ℕ, ◌<◌, ◌==◌, not, IsTrue, List, []}
use Rattle.std.specs.List.{filter}
use Rattle.bal_base.specs.Bits.{is_member, with_member, without_member}
use Rattle.bal_layout.specs.Addresses.{cards_of}
use Rattle.bal_layout.specs.Regions.{region_of_card}
use Rattle.bal_layout.specs.Shape.{Shape}

-- the cards of a heap of this shape that were written since they were last flushed, and those that were written since the
-- mark cycle last cleaned them, both ascending
pub record Cards : Type 0 where
  pub shape : Shape
  pub list : List ℕ
  pub mark : List ℕ

-- each of them is a card of the heap
abbrev pub AreWithin : Shape → List ℕ → Type 0
AreWithin s cards = (card : ℕ) → IsTrue (is_member cards card) → card < cards_of s

pub record AreCards (c : Cards) : Type 0 where
  pub list : AreWithin c.shape c.list
  pub mark : AreWithin c.shape c.mark

-- Changes.

abbrev pub all_clean : Shape → Cards
all_clean s = record { shape = s; list = []; mark = [] }

-- a card was written, as the next flush sees it, and as the mark cycle sees it
abbrev pub with_list_dirty : ℕ → Cards → Cards
with_list_dirty card c = record c { list = with_member card c.list }

abbrev pub with_mark_dirty : ℕ → Cards → Cards
with_mark_dirty card c = record c { mark = with_member card c.mark }

-- and as both see it
abbrev pub with_dirty : ℕ → Cards → Cards
with_dirty card c = with_mark_dirty card (with_list_dirty card c)

-- a card was flushed
abbrev pub without_list : ℕ → Cards → Cards
without_list card c = record c { list = without_member card c.list }

-- the mark cycle has seen all
abbrev pub without_marks : Cards → Cards
without_marks c = record c { mark = [] }

-- the cards that lie in other regions
abbrev pub cards_outside : Shape → ℕ → List ℕ → List ℕ
cards_outside s q cards = filter (λ card. not (region_of_card s card == q)) cards

-- a region was freed
abbrev pub without_region : ℕ → Cards → Cards
without_region q c = record c { list = cards_outside c.shape q c.list; mark = cards_outside c.shape q c.mark }
