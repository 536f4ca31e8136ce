-- How tests of order have come so far.
use Rattle.std.proofs.Common.{◌≡◌, ℕ, ◌+◌, ◌-◌, ◌<◌, ◌≤◌, List, [], ◌∷◌, Bool, true, false, length, take, get_or, refl, ap, sym, subst, ◌∙◌, arith, suc, zero, add-one}
use Rattle.std.specs.Prelude.{◌&&◌}
use Rattle.std.proofs.lemmas.List.{get_or_default}
use Rattle.bal_text.specs.Lines.{ascends}

module _ {A : Type 0} (before : A → A → Bool) where
  and_false : (t : Bool) → (t && false) ≡ false
  and_false true = refl
  and_false false = refl

  both_true : (t u : Bool) → (t && u) ≡ true → (t ≡ true) × (u ≡ true)
  both_true true true e = (refl, refl)
  both_true true false e = cc
  both_true false u e = cc

  -- two neighbours out of order: the list does not ascend
  fails_at : (xs : List A) (i : ℕ) (d : A) → 1 ≤ i → i < length xs → before (get_or xs (i - 1) d) (get_or xs i d) ≡ false → false ≡ ascends before xs
  fails_at xs zero d some within out = absurd (omega arith)
  fails_at xs (suc i) d some within out =
      let at : suc i - 1 ≡ i = omega arith in
      sym (by_place xs i within (subst (λ k. before (get_or xs k d) (get_or xs (suc i) d) ≡ false) at out)) where
        by_place : (xs : List A) (i : ℕ) → suc i < length xs → before (get_or xs i d) (get_or xs (suc i) d) ≡ false → ascends before xs ≡ false
        by_place [] i within out = absurd (omega arith)
        by_place (x ∷ []) i within out = absurd (omega arith)
        by_place (x ∷ y ∷ xs) zero within out = rw out refl
        by_place (x ∷ y ∷ xs) (suc i) within out = rw (by_place (y ∷ xs) i (omega arith) out) (and_false (before x y))

  -- one more in order
  more_at : (xs : List A) (i : ℕ) (d : A) → 1 ≤ i → i < length xs → ascends before (take i xs) ≡ true
      → before (get_or xs (i - 1) d) (get_or xs i d) ≡ true → ascends before (take (i + 1) xs) ≡ true
  more_at xs zero d some within so_far next = absurd (omega arith)
  more_at xs (suc i) d some within so_far next =
      let at : suc i - 1 ≡ i = omega arith in
      rw add-one (by_place xs i within so_far (subst (λ k. before (get_or xs k d) (get_or xs (suc i) d) ≡ true) at next)) where
        by_place : (xs : List A) (i : ℕ) → suc i < length xs → ascends before (take (suc i) xs) ≡ true → before (get_or xs i d) (get_or xs (suc i) d) ≡ true
            → ascends before (take (suc (suc i)) xs) ≡ true
        by_place [] i within so_far next = absurd (omega arith)
        by_place (x ∷ []) i within so_far next = absurd (omega arith)
        by_place (x ∷ y ∷ xs) zero within so_far next = rw next refl
        by_place (x ∷ y ∷ xs) (suc i) within so_far next =
            let parts = both_true (before x y) (ascends before (take (suc i) (y ∷ xs))) so_far in
            rw (parts.0, by_place (y ∷ xs) i (omega arith) parts.1 next) refl

  -- the same, where the two are known
  module _ (xs : List A) (i : ℕ) (x y : A) (some : 1 ≤ i) (within : i < length xs) (first : x ≡ get_or xs (i - 1) x) (second : y ≡ get_or xs i y) where
    reads : get_or xs i x ≡ y
    reads = get_or_default xs i x y within ∙ sym second

    tested : before x y ≡ before (get_or xs (i - 1) x) (get_or xs i x)
    tested = ap (λ z. before z y) first ∙ ap (before (get_or xs (i - 1) x)) (sym reads)

    pub ascends_fails : before x y ≡ false → false ≡ ascends before xs
    ascends_fails out = fails_at xs i x some within (sym tested ∙ out)

    pub ascends_more : ascends before (take i xs) ≡ true → before x y ≡ true → ascends before (take (i + 1) xs) ≡ true
    ascends_more so_far next = more_at xs i x some within so_far (sym tested ∙ next)
