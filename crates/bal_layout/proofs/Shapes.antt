-- The words of a region are a power of two, so a division by them is a shift.
use Rattle.std.proofs.Common.{◌≡◌, ◌==◌, ◌^◌, ℕ, List, [], ◌∷◌, inl, inr, refl, subst}
use Rattle.std.specs.Prelude.{IsTrue}
use Rattle.std.specs.Int.{trailing_zeros, w32}
use Rattle.std.specs.Int.Count.{count_trailing_zeros}
use Rattle.std.specs.List.{AllByRecursion, list_any}
use Rattle.std.proofs.lemmas.Bool.{cases_Bool, eqb-true}
use Rattle.bal_layout.specs.Shape.{is_region_size, region_sizes}

-- what holds of each item of a list holds of a number that is one of them
pub one-of : (P : ℕ → Type 0) (items : List ℕ) (n : ℕ) → AllByRecursion P items → IsTrue (list_any (λ item. item == n) items) → P n
one-of P [] n all is = cc
one-of P (x ∷ xs) n all is = elim (cases_Bool (x == n)) [
  | inl same ↦ subst P (eqb-true x n same) all.0
  | inr other ↦ one-of P xs n all.1 (rw other at is)
]

-- the number of words of a region is 2 to the number of zeros at its end
pub words-power : (words : ℕ) → IsTrue (is_region_size words) → 2 ^ trailing_zeros w32 words ≡ words
unfolding count_trailing_zeros
words-power words is =
    one-of (λ n. 2 ^ trailing_zeros w32 n ≡ n) region_sizes words (refl, (refl, (refl, (refl, (refl, (refl, (refl, (refl, (refl, tt))))))))) is
