-- What a list answers to a card and what it is then, in each of the three cases in which it has not overflowed.
use Rattle.std.proofs.Common.{◌≡◌, ℕ, ◌<◌, ◌≤◌, true, false, length, List, refl}
use Rattle.std.proofs.lemmas.Bool.{le-ltb, lt-ltb}
use Rattle.bal_base.specs.Bits.{is_member, with_member}
use Rattle.bal_remember.specs.Remembered.{answer_to, cards, overflowed, with_card}
use Rattle.bal_remember.specs.declared.list.Noted.TheVariants as noted

pub when-known : (limit n : ℕ) (cs : List ℕ) → is_member cs n ≡ true → (answer_to limit n (cards cs) ≡ noted.Known) × (with_card limit n (cards cs) ≡ cards cs)
when-known limit n cs there = (rw there refl, rw there refl)

pub when-full : (limit n : ℕ) (cs : List ℕ) → is_member cs n ≡ false → limit ≤ length cs → (answer_to limit n (cards cs) ≡ noted.Overflowed) × (with_card limit n (cards cs) ≡ overflowed)
when-full limit n cs none full = (rw (none, le-ltb (length cs) limit full) refl, rw (none, le-ltb (length cs) limit full) refl)

pub when-added : (limit n : ℕ) (cs : List ℕ) → is_member cs n ≡ false → length cs < limit → (answer_to limit n (cards cs) ≡ noted.Added) × (with_card limit n (cards cs) ≡ cards (with_member n cs))
when-added limit n cs none room = (rw (none, lt-ltb (length cs) limit room) refl, rw (none, lt-ltb (length cs) limit room) refl)
