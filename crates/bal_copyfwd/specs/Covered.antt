-- The references of a heap before and after a partial collection, as far as they lead from region to region.
use Rattle.std.specs.Prelude.{◌≡◌, ℕ, IsTrue, List, false, true}
use Rattle.bal_base.specs.Bits.{is_member}
use Rattle.bal_cards.specs.Cards.{Cards}
use Rattle.bal_layout.specs.Addresses.{card_of, region_of}
use Rattle.bal_layout.specs.References.{word_of}
use Rattle.bal_layout.specs.Regions.{is_in, is_object, without_cards_of}
use Rattle.bal_table.specs.Slots.{IsSlot}
use Rattle.bal_table.specs.Table.{Table, remembered_at, role_at, word_at}

-- some regions were chosen, and of these some were freed; survivors lie in some regions; and outside of these the references at
-- some places were mended
pub record Parts : Type 0 where
  pub chosen : List ℕ
  pub freed : List ℕ
  pub survivors : List ℕ
  pub places : List ℕ

-- each reference afterwards lies where survivors do, or was there before, in a region that was not chosen; and its word is
-- another only at the gathered places. The cards of what was mended are dirty, and the other regions remember what they did
pub record IsCollected (t v : Table) (d : Cards) (p : Parts) : Type 0 where
  pub shape : v.shape ≡ t.shape
  pub outside : (a i place : ℕ) → IsSlot v a i place → is_in (region_of t.shape a) p.survivors ≡ false
      → IsSlot t a i place × (is_in (region_of t.shape a) p.chosen ≡ false)
  pub words : (a i place : ℕ) → IsSlot v a i place → is_in (region_of t.shape a) p.survivors ≡ false → is_in place p.places ≡ false
      → word_at v place ≡ word_at t place
  -- what leads into the chosen regions from outside was gathered
  pub gathered : (a i place target : ℕ) → IsSlot t a i place → is_in (region_of t.shape a) p.chosen ≡ false → word_at t place ≡ word_of target
      → is_in (region_of t.shape target) p.chosen ≡ true → is_in place p.places ≡ true
  pub survived : (a i place : ℕ) → IsSlot v a i place → IsTrue (is_in (region_of t.shape a) p.survivors) → (word_at v place ≡ 0 → ⊥)
      → IsTrue (is_member d.list (card_of place))
  pub placed : (place : ℕ) → IsTrue (is_in place p.places) → IsTrue (is_member d.list (card_of place))
  pub lists : (q : ℕ) → is_object (role_at t q) ≡ true → is_in q p.chosen ≡ false
      → remembered_at v q ≡ without_cards_of t.shape p.freed (remembered_at t q)
  pub freed : (q : ℕ) → IsTrue (is_in q p.freed) → IsTrue (is_in q p.chosen)
