-- Which cards become dirty when the references on them are mended.
use Rattle.std.specs.Prelude.{ℕ, ◌≡◌, ◌↔◌, ◌⊎◌, IsTrue, List, fold}
use Rattle.bal_base.specs.Bits.{is_member}
use Rattle.bal_cards.specs.Cards.{Cards, with_dirty}
use Rattle.bal_layout.specs.Addresses.{card_of, region_of}
use Rattle.bal_layout.specs.Regions.{is_in}
use Rattle.bal_table.specs.Slots.{IsSlot}
use Rattle.bal_table.specs.Table.{Table, word_at}

-- a reference that is not null lies on the card, in one of these slots, told by their holders and their numbers there
pub record HasReference (t : Table) (Which : ℕ → ℕ → Type 0) (card : ℕ) : Type 0 where
  pub holder : ℕ
  pub number : ℕ
  pub place : ℕ
  pub slot : IsSlot t holder number place
  pub filled : word_at t place ≡ 0 → ⊥
  pub on : card_of place ≡ card
  pub one : Which holder number

-- in a slot of an object in one of these regions
abbrev pub HasReferenceIn : Table → List ℕ → ℕ → Type 0
HasReferenceIn t regions card = HasReference t (λ holder number. IsTrue (is_in (region_of t.shape holder) regions)) card

-- these cards have become dirty, for the next flush and for the mark cycle, and no others
pub record BecameDirty (c d : Cards) (Which : ℕ → Type 0) : Type 0 where
  pub shape : d.shape ≡ c.shape
  pub list : (card : ℕ) → IsTrue (is_member d.list card) ↔ (IsTrue (is_member c.list card) ⊎ Which card)
  pub mark : (card : ℕ) → IsTrue (is_member d.mark card) ↔ (IsTrue (is_member c.mark card) ⊎ Which card)

-- so do the cards on which these places lie, one after the other
abbrev pub with_dirty_places : List ℕ → Cards → Cards
with_dirty_places places c = fold (λ (d : Cards) place. with_dirty (card_of place) d) c places
