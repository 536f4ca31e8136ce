-- Numbers with codes of which no two are one: there are no more numbers than codes.
use Rattle.std.proofs.Common.{◌≡◌, ◌≤◌, ◌<◌, inl, inr, ℕ, true, false, eqb, IsTrue, List, [], ◌∷◌, length, refl, sym, subst, arith}
use Rattle.std.specs.Prelude.{◌==◌}
use Rattle.std.specs.List.{AllByRecursion, IsDistinct, list_any}
use Rattle.std.proofs.lemmas.Bool.{eq-eqb, eqb-true, false_from_ne_true, false≢true, or_cases, or_left, or_right}
use Rattle.std.proofs.lemmas.Map.Keys.{IsDistinct-cons, IsDistinct-tail}
use Rattle.std.proofs.lemmas.Map.Steps.{length-le_from_distinct_below}
use Rattle.bal_layout.specs.Regions.{is_in}
use Rattle.bal_told.proofs.Numbers.{in-each, not-again}

any-in : (q : ℕ) (xs : List ℕ) → list_any (eqb q) xs ≡ true → IsTrue (is_in q xs)
any-in q [] h = absurd (false≢true h)
any-in q (x ∷ xs) h = elim (or_cases (eqb q x) (list_any (eqb q) xs) h) [
  | inl here ↦ or_left (x == q) (is_in q xs) (eq-eqb x q (sym (eqb-true q x here)))
  | inr there ↦ or_right (x == q) (is_in q xs) (any-in q xs there)
]

-- a number has a code below n
abbrev pub HasCode : (ℕ → ℕ → Type 0) → ℕ → ℕ → Type 0
HasCode Code n x = (y : ℕ) × Code x y × (y < n)

module _ (Code : ℕ → ℕ → Type 0) (n : ℕ) (one : (x z y : ℕ) → Code x y → Code z y → x ≡ z) where
  codes : (xs : List ℕ) → AllByRecursion (HasCode Code n) xs → List ℕ
  codes [] h = []
  codes (x ∷ xs) h = h.0.0 ∷ codes xs h.1

  as-many : (xs : List ℕ) (h : AllByRecursion (HasCode Code n) xs) → length (codes xs h) ≡ length xs
  unfolding codes
  as-many [] h = refl
  as-many (x ∷ xs) h = let rest : length (codes xs h.1) ≡ length xs = as-many xs h.1 in omega (arith, rest)

  in-codes : (xs : List ℕ) (h : AllByRecursion (HasCode Code n) xs) (y : ℕ) → IsTrue (is_in y (codes xs h))
      → (x : ℕ) × IsTrue (is_in x xs) × Code x y × (y < n)
  unfolding codes
  in-codes [] h y there = absurd (false≢true there)
  in-codes (x ∷ xs) h y there = elim (or_cases (h.0.0 == y) (is_in y (codes xs h.1)) there) [
    | inl here ↦
        let same = eqb-true h.0.0 y here in
        (x, or_left (x == x) (is_in x xs) (eq-eqb x x refl), subst (Code x) same h.0.1, subst (λ m. m < n) same h.0.2)
    | inr later ↦ let found = in-codes xs h.1 y later in (found.0, or_right (x == found.0) (is_in found.0 xs) found.1, found.2, found.3)
  ]

  codes-apart : (xs : List ℕ) (h : AllByRecursion (HasCode Code n) xs) → IsDistinct eqb xs → IsDistinct eqb (codes xs h)
  unfolding codes IsDistinct
  codes-apart [] h apart = tt
  codes-apart (x ∷ xs) h apart =
      IsDistinct-cons eqb h.0.0 (codes xs h.1)
      (in-each (λ (y : ℕ). eqb h.0.0 y ≡ false) (codes xs h.1) (λ y there. false_from_ne_true (eqb h.0.0 y) (λ same.
      let found = in-codes xs h.1 y there in
      let again : x ≡ found.0 = one x found.0 y (subst (Code x) (eqb-true h.0.0 y same) h.0.1) found.2 in
      not-again x xs apart (subst (λ z. IsTrue (is_in z xs)) (sym again) found.1))))
      (codes-apart xs h.1 (IsDistinct-tail eqb x xs apart))

  pub no-more : (xs : List ℕ) → IsDistinct eqb xs → AllByRecursion (HasCode Code n) xs → length xs ≤ n
  no-more xs apart h =
      let few : length (codes xs h) ≤ n
      = length-le_from_distinct_below (codes xs h) n (codes-apart xs h apart) (λ q any. (in-codes xs h q (any-in q (codes xs h) any)).3) in
      let same : length (codes xs h) ≡ length xs = as-many xs h in
      omega (arith, few, same)
