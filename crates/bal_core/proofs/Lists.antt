-- Places in lists that grow at their end, and the rows of a crew of which one changes.
use Rattle.std.proofs.Common.{◌≡◌, ◌⊎◌, ℕ, zero, suc, ◌<◌, ◌≤◌, inl, inr, List, [], ◌∷◌, ◌++◌, length, take, Some, get_or, set, refl, ap, sym, subst, ◌∙◌}
use Rattle.std.proofs.lemmas.Bool.{cases_eq}
use Rattle.std.proofs.lemmas.List.{get_or-set_same, get_or-set_other, length-set, take-append-le}
use Rattle.std.proofs.lemmas.Option.{get_or_from_slice_get, none-some, same_Some, slice_get-get_or, slice_get_within}
use Rattle.bal_core.specs.World.{At, Row, blank}

pub at-push-cases : {X : Type 0} (xs : List X) (x y : X) (i : ℕ) → At (xs ++ x ∷ []) i y → At xs i y ⊎ ((i ≡ length xs) × (y ≡ x))
at-push-cases [] x y zero at = inr (refl, sym (same_Some x y at))
at-push-cases [] x y (suc i) at = absurd (none-some y at)
at-push-cases (z ∷ xs) x y zero at = inl at
at-push-cases (z ∷ xs) x y (suc i) at = elim (at-push-cases xs x y i at) [ inl before ↦ inl before | inr here ↦ inr (ap suc here.0, here.1) ]

pub at-kept : {X : Type 0} (xs zs : List X) (y : X) (i : ℕ) → At xs i y → At (xs ++ zs) i y
at-kept [] zs y i at = absurd (none-some y at)
at-kept (x ∷ xs) zs y zero at = at
at-kept (x ∷ xs) zs y (suc i) at = at-kept xs zs y i at

pub at-last : {X : Type 0} (xs : List X) (x : X) → At (xs ++ x ∷ []) (length xs) x
at-last [] x = refl
at-last (z ∷ xs) x = at-last xs x

-- what stands beside the place that was written stood there before
pub before-set : {X : Type 0} (xs : List X) (i j : ℕ) (x y : X) → (j ≡ i → ⊥) → At (set xs i x) j y → At xs j y
before-set xs i j x y other at =
    slice_get-get_or xs j y (subst (λ l. j < l) (length-set xs i x) (slice_get_within (set xs i x) j y at))
    ∙ ap Some (sym (get_or-set_other xs i j x y other) ∙ get_or_from_slice_get (set xs i x) j y y at)

-- lists by worker, of which one grew by an item
pub record Pushed {X : Type 0} (before now : ℕ → List X) (n : ℕ) (x : X) : Type 0 where
  pub cases : (m i : ℕ) (y : X) → At (now m) i y → At (before m) i y ⊎ ((m ≡ n) × (i ≡ length (before n)) × (y ≡ x))
  pub kept : (m i : ℕ) (y : X) → At (before m) i y → At (now m) i y
  pub new : At (now n) (length (before n)) x
  pub taken : (m i : ℕ) → i ≤ length (before m) → take i (now m) ≡ take i (before m)

module _ (crew : List Row) (n : ℕ) (row : Row) (within : n < length crew) where
  abbrev before : ℕ → Row
  before m = get_or crew m blank

  abbrev now : ℕ → Row
  now m = get_or (set crew n row) m blank

  pub row-own : now n ≡ row
  row-own = get_or-set_same crew n row blank within

  pub row-other : (m : ℕ) → (m ≡ n → ⊥) → now m ≡ before m
  row-other m other = get_or-set_other crew n m row blank other

  -- a part that the change leaves, of all rows
  pub part-kept : {X : Type 0} (f : Row → X) → f row ≡ f (before n) → (m : ℕ) → f (now m) ≡ f (before m)
  part-kept f same m = elim (cases_eq m n) [
    | inl here ↦ ap (λ k. f (now k)) here ∙ ap f row-own ∙ same ∙ ap (λ k. f (before k)) (sym here)
    | inr other ↦ ap f (row-other m other)
  ]

  -- a list that grew, of this row
  pub part-pushed : {X : Type 0} (f : Row → List X) (x : X) → f row ≡ f (before n) ++ x ∷ []
      → Pushed (λ m. f (before m)) (λ m. f (now m)) n x
  part-pushed {X} f x grew = record { cases = cases; kept = kept; new = new; taken = taken }
    where
      own : f (now n) ≡ f (before n) ++ x ∷ []
      own = ap f row-own ∙ grew

      cases : (m i : ℕ) (y : X) → At (f (now m)) i y → At (f (before m)) i y ⊎ ((m ≡ n) × (i ≡ length (f (before n))) × (y ≡ x))
      cases m i y at = elim (cases_eq m n) [
        | inl here ↦ elim (at-push-cases (f (before n)) x y i (subst (λ l. At l i y) (ap (λ k. f (now k)) here ∙ own) at)) [
          | inl old ↦ inl (subst (λ k. At (f (before k)) i y) (sym here) old)
          | inr last ↦ inr (here, last.0, last.1)
        ]
        | inr other ↦ inl (subst (λ r. At (f r) i y) (row-other m other) at)
      ]

      kept : (m i : ℕ) (y : X) → At (f (before m)) i y → At (f (now m)) i y
      kept m i y at = elim (cases_eq m n) [
        | inl here ↦
            subst (λ l. At l i y) (sym (ap (λ k. f (now k)) here ∙ own)) (at-kept (f (before n)) (x ∷ []) y i (subst (λ k. At (f (before k)) i y) here at))
        | inr other ↦ subst (λ r. At (f r) i y) (sym (row-other m other)) at
      ]

      new : At (f (now n)) (length (f (before n))) x
      new = subst (λ l. At l (length (f (before n))) x) (sym own) (at-last (f (before n)) x)

      taken : (m i : ℕ) → i ≤ length (f (before m)) → take i (f (now m)) ≡ take i (f (before m))
      taken m i most = elim (cases_eq m n) [
        | inl here ↦
            ap (λ k. take i (f (now k))) here ∙ ap (take i) own
            ∙ take-append-le i (f (before n)) (x ∷ []) (subst (λ k. i ≤ length (f (before k))) here most)
            ∙ ap (λ k. take i (f (before k))) (sym here)
        | inr other ↦ ap (λ r. take i (f r)) (row-other m other)
      ]
