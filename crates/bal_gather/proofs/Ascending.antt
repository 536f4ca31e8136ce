-- Numbers that ascend, one after the other.
use Rattle.std.proofs.Common.{◌≡◌, ℕ, zero, suc, ◌<◌, inl, inr, Bool, true, false, cond, List, [], ◌∷◌, length, length-take, get_or, take, Some, subst, sym, arith}
use Rattle.std.specs.Prelude.{slice_get}
use Rattle.std.specs.List.{All, filter}
use Rattle.std.proofs.lemmas.Bool.{cases_order, false≢true}
use Rattle.std.proofs.lemmas.Grind.{get_or_default_zero}
use Rattle.std.proofs.lemmas.List.{get_or-take}
use Rattle.std.proofs.lemmas.Option.{get_or_from_slice_get, slice_get_within}
use Rattle.bal_base.specs.Bits.{IsAscending, is_member}
use Rattle.bal_base.proofs.Lemmas.{among-cases, among-first, among-later}
use Rattle.bal_plan.proofs.Lemmas.{filter-member}

-- a number at a place of a list is in it
pub there : (xs : List ℕ) (i : ℕ) → i < length xs → is_member xs (get_or xs i 0) ≡ true
there [] i within = absurd (omega (arith, within))
there (x ∷ xs) zero within = among-first x xs
there (x ∷ xs) (suc i) within = among-later x (get_or xs i 0) xs (there xs i (omega (arith, within)))

-- those in front of it are less
pub front-less : (xs : List ℕ) (i m : ℕ) → IsAscending xs → i < length xs → is_member (take i xs) m ≡ true → m < get_or xs i 0
front-less [] i m up within among = absurd (omega (arith, within))
front-less (x ∷ xs) zero m up within among = absurd (false≢true among)
front-less (x ∷ xs) (suc i) m up within among = elim (among-cases x m (take i xs) among) [
  | inl here ↦ subst (λ k. k < get_or xs i 0) here (up.0 (get_or xs i 0) (there xs i (omega (arith, within))))
  | inr later ↦ front-less xs i m up.1 (omega (arith, within)) later
]

-- so at an earlier place is a lesser number
earlier-less : (xs : List ℕ) (i j : ℕ) → IsAscending xs → i < j → j < length xs → get_or xs i 0 < get_or xs j 0
earlier-less xs i j up less within =
    front-less xs j (get_or xs i 0) up within (subst (λ x. is_member (take j xs) x ≡ true) (get_or-take j xs i 0 less) (there (take j xs) i (omega (arith, less, within, length-take j xs))))

-- and each number has one place
pub one-place : (xs : List ℕ) (i j x : ℕ) → IsAscending xs → slice_get xs i ≡ Some x → slice_get xs j ≡ Some x → i ≡ j
one-place xs i j x up one two =
    let at = get_or_from_slice_get xs i x 0 one in
    let here = get_or_from_slice_get xs j x 0 two in
    elim (cases_order i j) [
      | inl same ↦ same
      | inr other ↦ elim other [
        | inl less ↦ absurd (omega (arith, at, here, earlier-less xs i j up less (slice_get_within xs j x two)))
        | inr more ↦ absurd (omega (arith, at, here, earlier-less xs j i up more (slice_get_within xs i x one)))
      ]
    ]

-- those that pass a test ascend too
pub filter-ascends : (p : ℕ → Bool) (xs : List ℕ) → IsAscending xs → IsAscending (filter p xs)
filter-ascends p [] up = tt
filter-ascends p (x ∷ xs) up = by (filter-ascends p xs up.1) (p x)
  where
    by : IsAscending (filter p xs) → (b : Bool) → IsAscending (cond b (x ∷ filter p xs) (filter p xs))
    by rest true = (λ k among. up.0 k (filter-member p xs k among).1, rest)
    by rest false = rest

-- what holds of each number in a list holds at each place
pub at-places : (xs : List ℕ) (bound : ℕ) → ((x : ℕ) → is_member xs x ≡ true → x < bound) → All (λ (x : ℕ). x < bound) xs
at-places xs bound each k d within =
    subst (λ x. x < bound) (sym (get_or_default_zero xs k d within)) (each (get_or xs k 0) (there xs k within))
