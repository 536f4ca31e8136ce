-- How many numbers a list has if none comes twice.
use Rattle.std.proofs.Common.{◌≡◌, ℕ, ◌/◌, ◌+◌, ◌<◌, ◌≤◌, inl, inr, false, true, IsTrue, List, [], ◌∷◌, length, map, sym, subst, arith, ◌++◌, eqb}
use Rattle.std.specs.List.{AllByRecursion, IsDistinct, list_any}
use Rattle.std.proofs.lemmas.Bool.{cases_order, eqb-false, eqb-true, false≢true, ne_eqb, or_cases}
use Rattle.std.proofs.lemmas.List.{length-map, length_push}
use Rattle.std.proofs.lemmas.Map.Steps.{length-le_from_distinct_below}
use Rattle.bal_base.proofs.Lemmas.{among-first, among-later}
use Rattle.bal_layout.specs.Regions.{is_in}
use Rattle.bal_table.proofs.Lemmas.{in-end}

-- numbers of which no two halves are one
module _ (Stands : ℕ → Type 0) (words : ℕ) (within : (a : ℕ) → Stands a → a + 2 ≤ words) (two : (a b : ℕ) → Stands a → Stands b → a < b → a + 2 ≤ b) where
  -- the halves of two that differ differ
  half-apart : (a b : ℕ) → Stands a → Stands b → (a ≡ b → ⊥) → (a / 2 ≡ b / 2 → ⊥)
  half-apart a b here there other same = elim (cases_order a b) [
    | inl e ↦ other e
    | inr less ↦ elim less [
      | inl before ↦ omega (arith, same, two a b here there before)
      | inr behind ↦ omega (arith, same, two b a there here behind)
    ]
  ]

  -- so a half that differs from all halves
  halves-other : (a : ℕ) (order : List ℕ) → Stands a → ((b : ℕ) → IsTrue (is_in b order) → Stands b) → AllByRecursion (λ b. eqb a b ≡ false) order
      → AllByRecursion (λ h. eqb (a / 2) h ≡ false) (map (λ (b : ℕ). b / 2) order)
  halves-other a [] here stands other = tt
  halves-other a (b ∷ order) here stands other = (
    ne_eqb (a / 2) (b / 2) (half-apart a b here (stands b (among-first b order)) (eqb-false a b other.0)),
    halves-other a order here (λ c among. stands c (among-later b c order among)) other.1,
  )

  halves-distinct : (order : List ℕ) → ((b : ℕ) → IsTrue (is_in b order) → Stands b) → IsDistinct eqb order → IsDistinct eqb (map (λ (b : ℕ). b / 2) order)
  unfolding IsDistinct
  halves-distinct [] stands apart = tt
  halves-distinct (a ∷ order) stands apart = (
    halves-other a order (stands a (among-first a order)) (λ c among. stands c (among-later a c order among)) apart.0,
    halves-distinct order (λ c among. stands c (among-later a c order among)) apart.1,
  )

  halves-below : (order : List ℕ) → ((b : ℕ) → IsTrue (is_in b order) → Stands b) → (h : ℕ) → list_any (eqb h) (map (λ (b : ℕ). b / 2) order) ≡ true → h < words / 2
  halves-below [] stands h among = absurd (false≢true among)
  halves-below (a ∷ order) stands h among = elim (or_cases (eqb h (a / 2)) (list_any (eqb h) (map (λ (b : ℕ). b / 2) order)) among) [
    | inl here ↦ omega (arith, eqb-true h (a / 2) here, within a (stands a (among-first a order)))
    | inr later ↦ halves-below order (λ c there. stands c (among-later a c order there)) h later
  ]

  -- half as many as there are words, at most
  pub few : (order : List ℕ) → ((b : ℕ) → IsTrue (is_in b order) → Stands b) → IsDistinct eqb order → length order ≤ words / 2
  few order stands apart =
      omega (arith, length-map order (λ (b : ℕ). b / 2), length-le_from_distinct_below (map (λ (b : ℕ). b / 2) order) (words / 2) (halves-distinct order stands apart) (halves-below order stands))

  -- and less if one is missing
  pub fewer : (order : List ℕ) (a : ℕ) → ((b : ℕ) → IsTrue (is_in b order) → Stands b) → IsDistinct eqb (order ++ a ∷ []) → Stands a
      → length order < words / 2
  fewer order a stands apart here = omega (arith, length_push order a, few (order ++ a ∷ []) all apart)
    where
      all : (b : ℕ) → IsTrue (is_in b (order ++ a ∷ [])) → Stands b
      all b among = elim ((in-end order a b).0 among) [ inl same ↦ subst Stands (sym same) here | inr before ↦ stands b before ]
