-- Parts of lists.
use Rattle.std.proofs.Common.{◌≡◌, ◌+◌, ℕ, zero, suc, true, false, List, [], ◌∷◌, drop, map, replicate, ap, subst, ◌∙◌, arith}
use Rattle.std.specs.Prelude.{slice_get}
use Rattle.std.specs.Option.{option_map}
use Rattle.std.proofs.lemmas.Bool.{false≢true}
use Rattle.std.proofs.lemmas.Option.{none-some, same_Some, slice_get-map}
use Rattle.bal_core.specs.World.{At}

-- what a part holds, the whole list holds behind it
pub at-drop : {X : Type 0} (n : ℕ) (xs : List X) (i : ℕ) (x : X) → At (drop n xs) i x → At xs (n + i) x
at-drop zero xs i x at = subst (λ k. At xs k x) (omega arith) at
at-drop (suc n) [] i x at = absurd (none-some x at)
at-drop (suc n) (y ∷ xs) i x at =
    let next : suc (n + i) ≡ suc n + i = omega arith in
    subst (λ k. At (y ∷ xs) k x) next (at-drop n xs i x at)

-- the next item of a part, and the part behind it
pub drop-next : {X : Type 0} (n : ℕ) (xs : List X) (x : X) (ys : List X) → drop n xs ≡ x ∷ ys → At xs n x × (drop (n + 1) xs ≡ ys)
drop-next zero [] x ys same = absurd (none-some x (ap (λ l. slice_get l 0) same))
drop-next zero (y ∷ xs) x ys same = (ap (λ l. slice_get l 0) same, ap (drop 1) same)
drop-next (suc n) [] x ys same = absurd (none-some x (ap (λ l. slice_get l 0) same))
drop-next (suc n) (y ∷ xs) x ys same =
    let rest : At xs n x × (drop (n + 1) xs ≡ ys) = drop-next n xs x ys same in
    let next : suc (n + 1) ≡ suc n + 1 = omega arith in
    (rest.0, subst (λ k. drop k (y ∷ xs) ≡ ys) next rest.1)

-- a mapped item
pub at-mapped : {X Y : Type 0} (f : X → Y) (xs : List X) (i : ℕ) (x : X) → At xs i x → At (map f xs) i (f x)
at-mapped f xs i x at = slice_get-map f xs i ∙ ap (option_map f) at

pub at-replicate : (n i : ℕ) → At (replicate n false) i true → ⊥
at-replicate zero i at = none-some true at
at-replicate (suc n) zero at = false≢true (same_Some false true at)
at-replicate (suc n) (suc i) at = at-replicate n i at
