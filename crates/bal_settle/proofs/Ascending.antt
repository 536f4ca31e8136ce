-- Numbers that ascend, and parts of them.
use Rattle.std.proofs.Common.{◌≡◌, ℕ, zero, suc, ◌<◌, ◌≤◌, inl, inr, Bool, true, false, cond, eqb, List, [], ◌∷◌, length, drop, get_or, take, refl, ap, sym, subst, ◌∙◌, arith}
use Rattle.std.specs.Prelude.{◌&&◌, ◌||◌}
use Rattle.std.specs.List.{filter}
use Rattle.std.proofs.lemmas.Bool.{eqb-true, false≢true, ne_eqb}
use Rattle.bal_base.specs.Bits.{IsAscending}
use Rattle.bal_base.proofs.Lemmas.{among-cases, among-first, among-later}
use Rattle.bal_layout.specs.Regions.{is_in}
use Rattle.bal_sweep.proofs.Lemmas.{in-filter}

-- the members of a part are among all
pub in-take : (n : ℕ) (xs : List ℕ) (a : ℕ) → is_in a (take n xs) ≡ true → is_in a xs ≡ true
in-take zero xs a among = absurd (false≢true among)
in-take (suc n) [] a among = absurd (false≢true among)
in-take (suc n) (x ∷ xs) a among = elim (among-cases x a (take n xs) among) [
  | inl here ↦ subst (λ k. is_in k (x ∷ xs) ≡ true) here (among-first x xs)
  | inr later ↦ among-later x a xs (in-take n xs a later)
]

pub in-drop : (n : ℕ) (xs : List ℕ) (a : ℕ) → is_in a (drop n xs) ≡ true → is_in a xs ≡ true
in-drop zero xs a among = among
in-drop (suc n) [] a among = absurd (false≢true among)
in-drop (suc n) (x ∷ xs) a among = among-later x a xs (in-drop n xs a among)

-- and ascend
pub take-ascends : (n : ℕ) (xs : List ℕ) → IsAscending xs → IsAscending (take n xs)
take-ascends zero xs up = tt
take-ascends (suc n) [] up = tt
take-ascends (suc n) (x ∷ xs) up = (λ a among. up.0 a (in-take n xs a among), take-ascends n xs up.1)

pub drop-ascends : (n : ℕ) (xs : List ℕ) → IsAscending xs → IsAscending (drop n xs)
drop-ascends zero xs up = up
drop-ascends (suc n) [] up = tt
drop-ascends (suc n) (x ∷ xs) up = drop-ascends n xs up.1

pub filter-ascends : (p : ℕ → Bool) (xs : List ℕ) → IsAscending xs → IsAscending (filter p xs)
filter-ascends p [] up = tt
filter-ascends p (x ∷ xs) up = by (filter-ascends p xs up.1) (p x)
  where
    among : (a : ℕ) (b c : Bool) → is_in a (filter p xs) ≡ (b && c) → is_in a (filter p xs) ≡ true → c ≡ true
    among a true c is here = sym is ∙ here
    among a false c is here = absurd (false≢true (sym is ∙ here))

    by : IsAscending (filter p xs) → (b : Bool) → IsAscending (cond b (x ∷ filter p xs) (filter p xs))
    by rest true = (λ a here. up.0 a (among a (p a) (is_in a xs) (in-filter p xs a) here), rest)
    by rest false = rest

-- the first is not among the others
pub not-later : (x : ℕ) (xs : List ℕ) → IsAscending (x ∷ xs) → is_in x xs ≡ false
not-later x xs up = by (is_in x xs) refl
  where
    by : (b : Bool) → is_in x xs ≡ b → b ≡ false
    by true is = absurd (omega (arith, up.0 x is))
    by false is = refl

-- and others than the first are in the list if they are among the others
pub in-others : (x : ℕ) (xs : List ℕ) (a : ℕ) → (a ≡ x → ⊥) → is_in a (x ∷ xs) ≡ is_in a xs
in-others x xs a other = ap (λ b. b || is_in a xs) (ne_eqb x a (λ e. other (sym e)))

-- what is behind a number of the list is not less
pub least-left : (xs : List ℕ) (i a : ℕ) → IsAscending xs → i < length xs → is_in a (drop i xs) ≡ true → get_or xs i 0 ≤ a
least-left [] i a up within among = absurd (omega (arith, within))
least-left (x ∷ xs) zero a up within among = elim (among-cases x a xs among) [
  | inl here ↦ omega (arith, here)
  | inr later ↦ let less : x < a = up.0 a later in omega (arith, less)
]
least-left (x ∷ xs) (suc i) a up within among = least-left xs i a up.1 (omega (arith, within)) among

-- Two ascending lists with the same members are one.

first-least : (m n : ℕ) (ms : List ℕ) → IsAscending (m ∷ ms) → is_in n (m ∷ ms) ≡ true → m ≤ n
first-least m n ms up among = least-left (m ∷ ms) 0 n up (omega arith) among

pub same-members : (ms ns : List ℕ) → IsAscending ms → IsAscending ns → ((n : ℕ) → is_in n ms ≡ is_in n ns) → ms ≡ ns
same-members [] [] up down same = refl
same-members [] (n ∷ ns) up down same = absurd (false≢true (same n ∙ among-first n ns))
same-members (m ∷ ms) [] up down same = absurd (false≢true (sym (same m) ∙ among-first m ms))
same-members (m ∷ ms) (n ∷ ns) up down same =
    let first : m ≤ n = first-least m n ms up (same n ∙ among-first n ns) in
    let second : n ≤ m = first-least n m ns down (sym (same m) ∙ among-first m ms) in
    let equal : m ≡ n = omega (arith, first, second) in
    ap (λ k. k ∷ ms) equal ∙ ap (λ (l : List ℕ). n ∷ l) (same-members ms ns up.1 down.1 (λ k. tail equal k (eqb m k) refl))
  where
    tail : m ≡ n → (k : ℕ) (b : Bool) → eqb m k ≡ b → is_in k ms ≡ is_in k ns
    tail equal k true is =
        subst (λ j. is_in j ms ≡ is_in j ns) (eqb-true m k is) (not-later m ms up ∙ sym (subst (λ j. is_in j ns ≡ false) (sym equal) (not-later n ns down)))
    tail equal k false is =
        ap (λ b. b || is_in k ms) (sym is) ∙ (same k ∙ ap (λ b. b || is_in k ns) (ap (λ j. eqb j k) (sym equal) ∙ is))

-- a number at a place of a list is in it
pub there : (xs : List ℕ) (i : ℕ) → i < length xs → is_in (get_or xs i 0) xs ≡ true
there [] i within = absurd (omega (arith, within))
there (x ∷ xs) zero within = among-first x xs
there (x ∷ xs) (suc i) within = among-later x (get_or xs i 0) xs (there xs i (omega (arith, within)))
