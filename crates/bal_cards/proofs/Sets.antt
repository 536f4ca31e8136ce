-- Sets of cards stay sets of cards of the heap.
use Rattle.std.proofs.Common.{◌≡◌, ◌<◌, ◌≤◌, ℕ, inl, inr, true, subst, arith}
use Rattle.bal_base.specs.Bits.{Members, is_member, with_member, without_member}
use Rattle.bal_base.proofs.Lemmas.{member-with, member-without}
use Rattle.bal_layout.specs.Addresses.{cards_of}
use Rattle.bal_layout.specs.Shape.{Shape}
use Rattle.bal_cards.specs.Cards.{cards_outside}
use Rattle.bal_cards.specs.Kept.{IsSetOf}
use Rattle.bal_cards.proofs.Between.{member-unfiltered}

-- a card more
pub set-more : (s : Shape) (old new : Members) (card : ℕ) → IsSetOf s old → card < cards_of s → new.members ≡ with_member card old.members → old.room ≤ new.room
    → IsSetOf s new
set-more s old new card is within members room = record {
  cards = λ n among. elim ((member-with card n old.members).0 (subst (λ ms. is_member ms n ≡ true) members among)) [
    | inl same ↦ omega (arith, same, within)
    | inr before ↦ is.cards n before
  ];
  room = omega (arith, is.room, room);
}

-- fewer cards
pub set-fewer : (s : Shape) (old new : Members) → IsSetOf s old → ((n : ℕ) → is_member new.members n ≡ true → is_member old.members n ≡ true) → old.room ≤ new.room
    → IsSetOf s new
set-fewer s old new is fewer room = record {
  cards = λ n among. is.cards n (fewer n among);
  room = omega (arith, is.room, room);
}

pub set-without : (s : Shape) (old new : Members) (card : ℕ) → IsSetOf s old → new.members ≡ without_member card old.members → old.room ≤ new.room → IsSetOf s new
set-without s old new card is members room =
    set-fewer s old new is (λ n among. ((member-without card n old.members).0 (subst (λ ms. is_member ms n ≡ true) members among)).1) room

pub set-outside : (s : Shape) (old new : Members) (q : ℕ) → IsSetOf s old → new.members ≡ cards_outside s q old.members → old.room ≤ new.room → IsSetOf s new
set-outside s old new q is members room =
    set-fewer s old new is (λ n among. member-unfiltered _ old.members n (subst (λ ms. is_member ms n ≡ true) members among)) room
