-- Marked addresses after some objects are gone and others have moved.
use Rattle.std.proofs.Common.{◌≡◌, ℕ, zero, suc, ◌<◌, ◌⊎◌, inl, inr, Bool, true, false, not, cond, List, [], ◌∷◌, ◌++◌, length, length-append, take, drop, map, Option, Some, None, refl, ap, sym, subst, ◌∙◌, arith}
use Rattle.std.proofs.lemmas.Bool.{cases_eq, eq-eqb, false≢true, ne_eqb, not-true}
use Rattle.std.proofs.lemmas.List.{map-append, take-append-drop}
use Rattle.std.proofs.lemmas.List.Elements.{filter-append}
use Rattle.std.specs.Prelude.{◌↔◌, ◌&&◌, IsTrue, nat_eq, unwrap_or}
use Rattle.std.specs.Cmp.{both_ways}
use Rattle.std.specs.List.{AllByRecursion, IsDistinct, filter}
use Rattle.bal_base.specs.Bits.{is_member, without_member}
use Rattle.bal_base.proofs.Lemmas.{among-cases, among-first, among-later, member-without}
use Rattle.bal_layout.specs.Regions.{is_in}
use Rattle.bal_table.specs.Marks.{IsLeft, IsMarked, Marked, StayApart, queue, remapped, with_remapped}
use Rattle.bal_table.specs.Moves.{Forwarding, IsForwarding, moved, moved_to}
use Rattle.bal_table.proofs.Marking.{in-end, in-end-other}

-- Numbers that pass a test, each moved.

module _ (p : ℕ → Bool) (f : ℕ → ℕ) where
  each-left : (x : ℕ) (ys : List ℕ) → AllByRecursion (λ y. nat_eq x y ≡ false) ys
      → ((y : ℕ) → is_in y ys ≡ true → p y ≡ true → f x ≡ f y → x ≡ y) → AllByRecursion (λ z. nat_eq (f x) z ≡ false) (map f (filter p ys))
  each-left x [] other apart = tt
  each-left x (y ∷ ys) other apart = by (each-left x ys other.1 (λ z among. apart z (among-later y z ys among))) (p y) refl
    where
      by : AllByRecursion (λ z. nat_eq (f x) z ≡ false) (map f (filter p ys)) → (b : Bool) → p y ≡ b
          → AllByRecursion (λ z. nat_eq (f x) z ≡ false) (map f (cond b (y ∷ filter p ys) (filter p ys)))
      by rest true passes = (ne_eqb (f x) (f y) (λ e. false≢true (sym other.0 ∙ eq-eqb x y (apart y (among-first y ys) passes e))), rest)
      by rest false fails = rest

  -- none comes twice, if none did and no two come to one
  pub left-apart : (xs : List ℕ) → IsDistinct nat_eq xs → ((a b : ℕ) → is_in a xs ≡ true → p a ≡ true → is_in b xs ≡ true → p b ≡ true → f a ≡ f b → a ≡ b)
      → IsDistinct nat_eq (map f (filter p xs))
  unfolding IsDistinct
  left-apart [] distinct apart = tt
  left-apart (x ∷ xs) distinct apart =
      by (left-apart xs distinct.1 (λ a b ina pa inb pb. apart a b (among-later x a xs ina) pa (among-later x b xs inb) pb)) (p x) refl
    where
      by : IsDistinct nat_eq (map f (filter p xs)) → (b : Bool) → p x ≡ b → IsDistinct nat_eq (map f (cond b (x ∷ filter p xs) (filter p xs)))
      by rest true passes = (each-left x xs distinct.0 (λ y among py. apart x y (among-first x xs) passes (among-later x y xs among) py), rest)
      by rest false fails = rest

  -- which they are
  pub left-from : (xs : List ℕ) (b : ℕ) → is_in b (map f (filter p xs)) ≡ true → (a : ℕ) × ((is_in a xs ≡ true) × (p a ≡ true) × (f a ≡ b))
  left-from [] b among = absurd (false≢true among)
  left-from (x ∷ xs) b among = by (λ later. let found = left-from xs b later in (found.0, (among-later x found.0 xs found.1.0, found.1.1, found.1.2))) (p x) refl among
    where
      by : (is_in b (map f (filter p xs)) ≡ true → (a : ℕ) × ((is_in a (x ∷ xs) ≡ true) × (p a ≡ true) × (f a ≡ b))) → (c : Bool) → p x ≡ c
          → is_in b (map f (cond c (x ∷ filter p xs) (filter p xs))) ≡ true → (a : ℕ) × ((is_in a (x ∷ xs) ≡ true) × (p a ≡ true) × (f a ≡ b))
      by rest true passes among = elim (among-cases (f x) b (map f (filter p xs)) among) [
        | inl here ↦ (x, (among-first x xs, passes, here))
        | inr later ↦ rest later
      ]
      by rest false fails among = rest among

  pub left-there : (xs : List ℕ) (a : ℕ) → is_in a xs ≡ true → p a ≡ true → is_in (f a) (map f (filter p xs)) ≡ true
  left-there [] a among passes = absurd (false≢true among)
  left-there (x ∷ xs) a among passes = by (left-there xs a) (p x) refl (among-cases x a xs among)
    where
      by : (is_in a xs ≡ true → p a ≡ true → is_in (f a) (map f (filter p xs)) ≡ true) → (c : Bool) → p x ≡ c → (x ≡ a) ⊎ (is_in a xs ≡ true)
          → is_in (f a) (map f (cond c (x ∷ filter p xs) (filter p xs))) ≡ true
      by rest true is (inl here) = subst (λ n. is_in n (f x ∷ map f (filter p xs)) ≡ true) (ap f here) (among-first (f x) (map f (filter p xs)))
      by rest false is (inl here) = absurd (false≢true (sym is ∙ (ap p here ∙ passes)))
      by rest true is (inr later) = among-later (f x) (f a) (map f (filter p xs)) (rest later passes)
      by rest false is (inr later) = rest later passes

  -- of a front and of what comes after it
  pub left-append : (xs ys : List ℕ) → map f (filter p (xs ++ ys)) ≡ map f (filter p xs) ++ map f (filter p ys)
  left-append xs ys = ap (map f) (filter-append p xs ys) ∙ map-append f (filter p xs) (filter p ys)

-- two tests that agree on them
pub filter-among : (p q : ℕ → Bool) (xs : List ℕ) → ((a : ℕ) → is_in a xs ≡ true → q a ≡ p a) → filter q xs ≡ filter p xs
filter-among p q [] same = refl
filter-among p q (x ∷ xs) same =
    ap (λ b. cond b (x ∷ filter q xs) (filter q xs)) (same x (among-first x xs))
    ∙ ap (λ (l : List ℕ). cond (p x) (x ∷ l) l) (filter-among p q xs (λ a among. same a (among-later x a xs among)))

-- those of a front are among all
pub in-front : (n : ℕ) (xs : List ℕ) (a : ℕ) → is_in a (take n xs) ≡ true → is_in a xs ≡ true
in-front zero xs a among = absurd (false≢true among)
in-front (suc n) [] a among = absurd (false≢true among)
in-front (suc n) (x ∷ xs) a among = elim (among-cases x a (take n xs) among) [
  | inl here ↦ subst (λ k. is_in k (x ∷ xs) ≡ true) here (among-first x xs)
  | inr later ↦ among-later x a xs (in-front n xs a later)
]

-- What is left of the marked ones.

-- what is left of all is that of the taken ones, and then that of the others
remapped-split : (gone : List ℕ) (moves : Forwarding) (m : Marked)
    → remapped gone moves m.order ≡ remapped gone moves (take m.taken m.order) ++ remapped gone moves (queue m)
remapped-split gone moves m =
    ap (remapped gone moves) (sym (take-append-drop m.taken m.order)) ∙ left-append (λ a. not (is_in a gone)) (moved_to moves) (take m.taken m.order) (queue m)

drop-front : (xs ys : List ℕ) → drop (length xs) (xs ++ ys) ≡ ys
drop-front [] ys = refl
drop-front (x ∷ xs) ys = drop-front xs ys

pub remapped-queue : (gone : List ℕ) (moves : Forwarding) (m : Marked) → queue (with_remapped gone moves m) ≡ remapped gone moves (queue m)
remapped-queue gone moves m =
    let front = remapped gone moves (take m.taken m.order) in
    ap (drop (length front)) (remapped-split gone moves m) ∙ drop-front front (remapped gone moves (queue m))

pub in-remapped : (gone order : List ℕ) (moves : Forwarding) (b : ℕ)
    → IsTrue (is_in b (remapped gone moves order)) ↔ ((a : ℕ) × (IsLeft gone order a × (moved_to moves a ≡ b)))
in-remapped gone order moves b = (there, back)
  where
    there : is_in b (remapped gone moves order) ≡ true → (a : ℕ) × (IsLeft gone order a × (moved_to moves a ≡ b))
    there among =
        let found = left-from (λ a. not (is_in a gone)) (moved_to moves) order b among in
        (found.0, ((found.1.0, not-true (is_in found.0 gone) found.1.1), found.1.2))

    back : (a : ℕ) × (IsLeft gone order a × (moved_to moves a ≡ b)) → is_in b (remapped gone moves order) ≡ true
    back found = subst (λ n. is_in n (remapped gone moves order) ≡ true) found.1.1
        (left-there (λ a. not (is_in a gone)) (moved_to moves) order found.0 found.1.0.0 (ap not found.1.0.1))

-- each is an address of the heap
moved-within : (m : Forwarding) (a : ℕ) → IsForwarding m → a < length m.words → moved_to m a < length m.words
moved-within m a is within = by (moved m a) refl
  where
    by : (to : Option ℕ) → moved m a ≡ to → unwrap_or to a < length m.words
    by None e = within
    by (Some to) e = is.within a to e

pub IsMarked-remapped : (gone : List ℕ) (moves : Forwarding) (m : Marked) → IsMarked m → length moves.words ≡ m.words → IsForwarding moves
    → StayApart gone moves m.order → IsMarked (with_remapped gone moves m)
IsMarked-remapped gone moves m is heap forwarding apart = record {
  apart = left-apart (λ a. not (is_in a gone)) (moved_to moves) m.order is.apart
      (λ a b ina pa inb pb. apart a b (ina, not-true (is_in a gone) pa) (inb, not-true (is_in b gone) pb));
  taken = omega (
    arith,
    ap (λ (l : List ℕ). length l) (remapped-split gone moves m),
    length-append (remapped gone moves (take m.taken m.order)) (remapped gone moves (queue m)),
  );
  within = λ b among.
      let found = (in-remapped gone m.order moves b).0 among in
      let start = is.within found.0 found.1.0.0 in
      omega (arith, heap, found.1.1, moved-within moves found.0 forwarding (omega (arith, heap, start)));
  few = is.few;
}

-- Bits, one number after the other.

-- one more is taken away
pub removed-more : (old before now : List ℕ) (k : ℕ) → ((n : ℕ) → is_member now n ≡ (is_member old n && not (is_in n before)))
    → (n : ℕ) → is_member (without_member k now) n ≡ (is_member old n && not (is_in n (before ++ k ∷ [])))
removed-more old before now k each n = elim (cases_eq k n) [
  | inl here ↦
      none (is_member (without_member k now) n) (λ among. ((member-without k n now).0 among).0 here)
      ∙ sym (ap (λ b. is_member old n && not b) ((in-end before k n).1 (inl (sym here))) ∙ nothing (is_member old n))
  | inr other ↦
      both_ways (is_member (without_member k now) n) (is_member now n) (λ among. ((member-without k n now).0 among).1) (λ among. (member-without k n now).1 (other, among))
      ∙ (each n ∙ ap (λ b. is_member old n && not b) (sym (in-end-other before k n other)))
]
  where
    none : (b : Bool) → (b ≡ true → ⊥) → b ≡ false
    none true never = absurd (never refl)
    none false never = refl

    nothing : (b : Bool) → (b && false) ≡ false
    nothing true = refl
    nothing false = refl
