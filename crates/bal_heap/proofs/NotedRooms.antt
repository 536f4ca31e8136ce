-- A note leaves the room of the heap as it was: it changes a remembered list alone.
use Rattle.std.proofs.Common.{◌≡◌, ℕ, zero, suc, ◌+◌, List, [], ◌∷◌, Bool, cond, set, not, Option, Some, None, refl, ap, ◌∙◌}
use Rattle.std.specs.Prelude.{◌&&◌, ◌||◌, length, nat_le, nat_lt}
use Rattle.bal_base.specs.Numbering.{numbers_from}
use Rattle.bal_layout.specs.Regions.{eden_regions, free_regions, is_eden, is_free, region_at}
use Rattle.bal_layout.specs.Shape.{Shape}
use Rattle.bal_layout.specs.declared.geometry.Want.{Want}
use Rattle.bal_layout.specs.declared.region_state.RegionState.{RegionState}
use Rattle.bal_model.specs.declared.config.Config.{Config}
use Rattle.bal_rules.specs.Board.{Board}
use Rattle.bal_remember.specs.Remembered.{with_card}
use Rattle.bal_rules.specs.NoteEvents.{after_note}
use Rattle.bal_rules.specs.Path.{Turn, lacks_room, lacks_room_for}
use Rattle.bal_rules.specs.Room.{fits_current, has_soft_room}
use Rattle.bal_rules.specs.RowEvents.{want_of}

-- what is said of each region is the same, where it is of the one that is set
said-same : {A : Type 0} (f : RegionState → A) (rs : List RegionState) (q p : ℕ) (r : RegionState) → f r ≡ f (region_at rs q)
    → f (region_at (set rs q r) p) ≡ f (region_at rs p)
said-same f [] q p r e = refl
said-same f (x ∷ xs) zero zero r e = e
said-same f (x ∷ xs) zero (suc p) r e = refl
said-same f (x ∷ xs) (suc q) zero r e = refl
said-same f (x ∷ xs) (suc q) (suc p) r e = said-same f xs q p r e

numbers-same : (n : ℕ) (test : RegionState → Bool) (rs : List RegionState) (q : ℕ) (r : RegionState) → test r ≡ test (region_at rs q)
    → numbers_from n test (set rs q r) ≡ numbers_from n test rs
numbers-same n test [] q r e = refl
numbers-same n test (x ∷ xs) zero r e = ap (λ b. cond b (n ∷ numbers_from (n + 1) test xs) (numbers_from (n + 1) test xs)) e
numbers-same n test (x ∷ xs) (suc q) r e = ap (λ ns. cond (test x) (n ∷ ns) ns) (numbers-same (n + 1) test xs q r e)

module _ (c : Config) (b : Board) (q card : ℕ) where
  noted : RegionState
  noted = record (region_at b.regions q) { remembered = with_card c.cards card (region_at b.regions q).remembered }

  regions : List RegionState
  regions = set b.regions q noted

  frees : free_regions (after_note c b q card).regions ≡ free_regions b.regions
  frees = numbers-same 0 (λ (r : RegionState). is_free r.role) b.regions q
      (record (region_at b.regions q) { remembered = with_card c.cards card (region_at b.regions q).remembered }) refl

  edens : eden_regions (after_note c b q card).regions ≡ eden_regions b.regions
  edens = numbers-same 0 (λ (r : RegionState). is_eden r.role) b.regions q
      (record (region_at b.regions q) { remembered = with_card c.cards card (region_at b.regions q).remembered }) refl

  fits : (s : Shape) (current : Option ℕ) (words : ℕ) → fits_current s (after_note c b q card).regions current words ≡ fits_current s b.regions current words
  fits s None words = refl
  fits s (Some p) words = ap (λ (used : ℕ). nat_le (used + words) s.words) (said-same (λ (r : RegionState). r.used) b.regions q p
      (record (region_at b.regions q) { remembered = with_card c.cards card (region_at b.regions q).remembered }) refl)

  pub soft-noted : (s : Shape) (eden : ℕ) (current : Option ℕ) (w : Want) → has_soft_room s eden (after_note c b q card).regions current w ≡ has_soft_room s eden b.regions current w
  soft-noted s eden current w =
      ap (λ x. (x && nat_le w.leaves (length (free_regions (after_note c b q card).regions)))
      || (nat_lt (length (eden_regions (after_note c b q card).regions)) eden && nat_le (1 + w.leaves) (length (free_regions (after_note c b q card).regions)))) (fits s current w.words)
      ∙ ap (λ (ns : List ℕ). (fits_current s b.regions current w.words && nat_le w.leaves (length ns))
      || (nat_lt (length (eden_regions (after_note c b q card).regions)) eden && nat_le (1 + w.leaves) (length ns))) frees
      ∙ ap (λ (ns : List ℕ). (fits_current s b.regions current w.words && nat_le w.leaves (length (free_regions b.regions)))
      || (nat_lt (length ns) eden && nat_le (1 + w.leaves) (length (free_regions b.regions)))) edens

-- so a row that lacks room lacks it after a note
pub lacks-noted : (c : Config) (turn : Turn) (b : Board) (q card : ℕ) → lacks_room c turn (after_note c b q card) ≡ lacks_room c turn b
lacks-noted c turn b q card = by (want_of c.geometry turn.row.op)
  where
    by : (o : Option Want) → lacks_room_for c (after_note c b q card) o ≡ lacks_room_for c b o
    by None = refl
    by (Some w) = ap not (soft-noted c b q card c.geometry c.eden b.current w)
