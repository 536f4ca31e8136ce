-- Lists of one length each that stand one behind the other, and what holds of each element of a list.
use Rattle.std.proofs.Common.{◌≡◌, ◌<◌, ◌+◌, ◌-◌, ◌*◌, inl, inr, ℕ, zero, suc, List, [], ◌∷◌, ◌++◌, length, get_or, set, replicate, Some, refl, ap, sym, subst, ◌∙◌, arith, length-append}
use Rattle.std.specs.List.{AllByRecursion, flat_map}
use Rattle.std.specs.Prelude.{All, slice_get}
use Rattle.std.proofs.Math.Nat.{mul-suc}
use Rattle.std.proofs.lemmas.Bool.{cases_lt}
use Rattle.std.proofs.lemmas.List.{get_or_append_left, get_or-append_right, get_or_past, set-append_left, set-append_right}
use Rattle.std.proofs.lemmas.Option.{none-some}

-- Pieces of one length, one behind the other.

module _ {X A : Type 0} (f : X → List A) (n : ℕ) where
  abbrev HaveLength : List X → Type 0
  HaveLength xs = AllByRecursion (λ x. length (f x) ≡ n) xs

  -- how long the whole is
  pub length-pieces : (xs : List X) → HaveLength xs → length (flat_map f xs) ≡ n * length xs
  length-pieces [] h = omega arith
  length-pieces (x ∷ xs) h =
      let rest : length (flat_map f xs) ≡ n * length xs = length-pieces xs h.1 in
      let head : length (f x) ≡ n = h.0 in
      omega (arith, length-append (f x) (flat_map f xs), mul-suc n (length xs))

  -- the place k in the piece t is read
  pub get-piece : (xs : List X) (t k i : ℕ) (e : X) (d : A) → HaveLength xs → t < length xs → k < n → i ≡ n * t + k
      → get_or (flat_map f xs) i d ≡ get_or (f (get_or xs t e)) k d
  get-piece [] t k i e d h within below is = absurd (omega arith)
  get-piece (x ∷ xs) zero k i e d h within below is =
      let same : i ≡ k = omega arith in
      let head : length (f x) ≡ n = h.0 in
      ap (λ j. get_or (f x ++ flat_map f xs) j d) same ∙ get_or_append_left (f x) (flat_map f xs) d k (omega arith)
  get-piece (x ∷ xs) (suc t) k i e d h within below is =
      let more : n * suc t ≡ n * t + n = mul-suc n t in
      get_or-append_right (f x) (flat_map f xs) n i d h.0 (omega arith) ∙ get-piece xs t k (i - n) e d h.1 (omega arith) below (omega arith)

  -- the place k in the piece t is written
  pub set-piece : (xs : List X) (t k i : ℕ) (e y : X) (a : A) → HaveLength xs → t < length xs → k < n → i ≡ n * t + k
      → f y ≡ set (f (get_or xs t e)) k a → set (flat_map f xs) i a ≡ flat_map f (set xs t y)
  set-piece [] t k i e y a h within below is new = absurd (omega arith)
  set-piece (x ∷ xs) zero k i e y a h within below is new =
      let same : i ≡ k = omega arith in
      let head : length (f x) ≡ n = h.0 in
      ap (λ j. set (f x ++ flat_map f xs) j a) same ∙ (set-append_left (f x) (flat_map f xs) k a (omega arith) ∙ ap (λ l. l ++ flat_map f xs) (sym new))
  set-piece (x ∷ xs) (suc t) k i e y a h within below is new =
      let more : n * suc t ≡ n * t + n = mul-suc n t in
      set-append_right (f x) (flat_map f xs) n i a h.0 (omega arith) ∙ ap (λ l. f x ++ l) (set-piece xs t k (i - n) e y a h.1 (omega arith) below (omega arith) new)

-- What holds of each element.

module _ {X : Type 0} (P : X → Type 0) where
  -- of the one that is looked up
  pub each-at : (xs : List X) (i : ℕ) (d : X) → AllByRecursion P xs → i < length xs → P (get_or xs i d)
  each-at [] i d h within = absurd (omega arith)
  each-at (x ∷ xs) zero d h within = h.0
  each-at (x ∷ xs) (suc i) d h within = each-at xs i d h.1 (omega arith)

  -- of each once one was written of which it holds
  pub each-set : (xs : List X) (i : ℕ) (y : X) → P y → AllByRecursion P xs → AllByRecursion P (set xs i y)
  each-set [] i y p h = tt
  each-set (x ∷ xs) zero y p h = (p, h.1)
  each-set (x ∷ xs) (suc i) y p h = (h.0, each-set xs i y p h.1)

  -- of copies of one of which it holds
  pub each-replicate : (n : ℕ) (x : X) → P x → AllByRecursion P (replicate n x)
  each-replicate zero x p = tt
  each-replicate (suc n) x p = (p, each-replicate n x p)

-- what follows from a fact of each holds of each
pub each-goes : {X : Type 0} (P Q : X → Type 0) (xs : List X) → ((x : X) → P x → Q x) → AllByRecursion P xs → AllByRecursion Q xs
each-goes P Q [] goes h = tt
each-goes P Q (x ∷ xs) goes h = (goes x h.0, each-goes P Q xs goes h.1)

-- Look-ups.

-- the last element is found behind the others
pub slice_get-last : {X : Type 0} (xs : List X) (y : X) → slice_get (xs ++ y ∷ []) (length xs) ≡ Some y
slice_get-last [] y = refl
slice_get-last (x ∷ xs) y = slice_get-last xs y

-- one more element leaves the others
pub slice_get-more : {X : Type 0} (xs : List X) (y : X) (i : ℕ) → (i ≡ length xs → ⊥) → slice_get (xs ++ y ∷ []) i ≡ slice_get xs i
slice_get-more [] y zero h = absurd (h refl)
slice_get-more [] y (suc i) h = refl
slice_get-more (x ∷ xs) y zero h = refl
slice_get-more (x ∷ xs) y (suc i) h = slice_get-more xs y i (λ e. h (ap suc e))

-- the element that was written, where there was one
pub slice_get-set_same : {X : Type 0} (xs : List X) (i : ℕ) (x y : X) → slice_get xs i ≡ Some x → slice_get (set xs i y) i ≡ Some y
slice_get-set_same [] i x y h = absurd (none-some x h)
slice_get-set_same (z ∷ xs) zero x y h = refl
slice_get-set_same (z ∷ xs) (suc i) x y h = slice_get-set_same xs i x y h

-- the others stay
pub slice_get-set_other : {X : Type 0} (xs : List X) (i j : ℕ) (y : X) → (j ≡ i → ⊥) → slice_get (set xs i y) j ≡ slice_get xs j
slice_get-set_other [] i j y h = refl
slice_get-set_other (x ∷ xs) zero zero y h = absurd (h refl)
slice_get-set_other (x ∷ xs) zero (suc j) y h = refl
slice_get-set_other (x ∷ xs) (suc i) zero y h = refl
slice_get-set_other (x ∷ xs) (suc i) (suc j) y h = slice_get-set_other xs i j y (λ e. h (ap suc e))

-- an element that is looked up where there may be none, by a fact of each and of the default
pub all-or : {X : Type 0} (P : X → Type 0) (xs : List X) (i : ℕ) (d : X) → All P xs → P d → P (get_or xs i d)
all-or P xs i d h past = elim (cases_lt i (length xs)) [
  | inl within ↦ h i d within
  | inr beyond ↦ subst P (sym (get_or_past xs i d beyond)) past
]
