-- Which regions some rows have.
use Rattle.std.proofs.Common.{◌≡◌, Bool, true, false, List, [], ◌∷◌, cond, length, map, refl, ap, sym, ◌∙◌}
use Rattle.std.specs.Prelude.{◌||◌, ◌&&◌}
use Rattle.std.specs.List.{filter, list_any}
use Rattle.std.specs.List.Sorted.{IsPermutation}
use Rattle.std.proofs.lemmas.List.Sorted.{sum_by-IsPermutation}
use Rattle.std.proofs.lemmas.List.Sums.{length-filter}

pub any-map : {A B : Type 0} (p : B → Bool) (f : A → B) (xs : List A) → list_any p (map f xs) ≡ list_any (λ x. p (f x)) xs
any-map p f [] = refl
any-map p f (x ∷ xs) = ap (λ b. p (f x) || b) (any-map p f xs)

-- a test of what a filter leaves is a test of all
pub any-filter : {A : Type 0} (t p : A → Bool) (xs : List A) → list_any t (filter p xs) ≡ list_any (λ x. t x && p x) xs
any-filter t p [] = refl
any-filter t p (x ∷ xs) = by (p x) (t x) ∙ ap (λ b. (t x && p x) || b) (any-filter t p xs)
  where
    by : (b c : Bool) → list_any t (cond b (x ∷ filter p xs) (filter p xs)) ≡ ((t x && b) || list_any t (filter p xs))
    by true c = holds (t x)
      where
        holds : (d : Bool) → ◌≡◌ {A = Bool} (d || list_any t (filter p xs)) ((d && true) || list_any t (filter p xs))
        holds true = refl
        holds false = refl
    by false c = holds (t x)
      where
        holds : (d : Bool) → ◌≡◌ {A = Bool} (list_any t (filter p xs)) ((d && false) || list_any t (filter p xs))
        holds true = refl
        holds false = refl

pub any-same : {A : Type 0} (p q : A → Bool) → ((x : A) → p x ≡ q x) → (xs : List A) → list_any p xs ≡ list_any q xs
any-same p q e [] = refl
any-same p q e (x ∷ xs) = ap (λ b. b || list_any p xs) (e x) ∙ ap (λ b. q x || b) (any-same p q e xs)

-- one of two tests
pub any-either : {A : Type 0} (p q : A → Bool) (xs : List A) → (list_any p xs || list_any q xs) ≡ list_any (λ x. p x || q x) xs
any-either p q [] = refl
any-either p q (x ∷ xs) = by (p x) (q x) (list_any p xs) (list_any q xs) ∙ ap (λ b. (p x || q x) || b) (any-either p q xs)
  where
    by : (a b c d : Bool) → ((a || c) || (b || d)) ≡ ((a || b) || (c || d))
    by true b c d = refl
    by false true true d = refl
    by false true false d = refl
    by false false c d = refl

-- a list in another order has as many that pass a test
pub as-many : {A : Type 0} (p : A → Bool) (xs ys : List A) → IsPermutation xs ys → length (filter p ys) ≡ length (filter p xs)
as-many p xs ys same = length-filter p ys ∙ sum_by-IsPermutation (λ x. cond (p x) 1 0) xs ys same ∙ sym (length-filter p xs)
