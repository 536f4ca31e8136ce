-- Facts of names, numbers and lists.
use Rattle.std.proofs.Common.{◌≡◌, ℕ, zero, suc, ◌⊎◌, inl, inr, true, List, [], ◌∷◌, map, replicate, Option, Some, None, refl, ap, subst, arith, ◌∙◌}
use Rattle.std.specs.Prelude.{All, is_some, slice_get}
use Rattle.std.specs.Option.{option_map}
use Rattle.std.proofs.lemmas.Bool.{cases_order, false≢true}
use Rattle.std.proofs.lemmas.Option.{none-some, same_Some}
use Rattle.std.proofs.lemmas.List.Elements.{All-head, All-tail}
use Rattle.bal_layout.specs.declared.name.Name.{Name}

-- two numbers are one or not
pub same-or : (a b : ℕ) → (a ≡ b) ⊎ (a ≡ b → ⊥)
same-or a b = elim (cases_order a b) [
  | inl same ↦ inl same
  | inr other ↦ elim other [ inl less ↦ inr (λ e. omega (arith, e, less)) | inr more ↦ inr (λ e. omega (arith, e, more)) ]
]

-- a name is its two numbers
pub same_parts : (x y : Name) → x.thread ≡ y.thread → x.ordinal ≡ y.ordinal → x ≡ y
same_parts x y thread ordinal =
    let first : ◌≡◌ {A = Name} (record { thread = x.thread; ordinal = x.ordinal }) (record { thread = y.thread; ordinal = x.ordinal }) = ap (λ (t : ℕ). record { thread = t; ordinal = x.ordinal }) thread in
    let second : ◌≡◌ {A = Name} (record { thread = y.thread; ordinal = x.ordinal }) (record { thread = y.thread; ordinal = y.ordinal }) = ap (λ (o : ℕ). record { thread = y.thread; ordinal = o }) ordinal in
    first ∙ second

-- two names are one or not
pub same_name-or : (x y : Name) → (x ≡ y) ⊎ (x ≡ y → ⊥)
same_name-or x y = elim (same-or x.thread y.thread) [
  | inl thread ↦ elim (same-or x.ordinal y.ordinal) [
    | inl ordinal ↦ inl (same_parts x y thread ordinal)
    | inr other ↦ inr (λ e. other (ap (λ (n : Name). n.ordinal) e))
  ]
  | inr other ↦ inr (λ e. other (ap (λ (n : Name). n.thread) e))
]

-- two functions that agree on each element give the same list
pub map-agree : {X Y : Type 0} (f g : X → Y) (xs : List X) → All (λ x. f x ≡ g x) xs → map f xs ≡ map g xs
map-agree f g [] h = refl
map-agree f g (x ∷ xs) h =
    let head : f x ≡ g x = All-head (λ y. f y ≡ g y) x xs h in
    let tail : map f xs ≡ map g xs = map-agree f g xs (All-tail (λ y. f y ≡ g y) x xs h) in
    cc

pub map-replicated : {X Y : Type 0} (f : X → Y) (n : ℕ) (x : X) → map f (replicate n x) ≡ replicate n (f x)
map-replicated f zero x = refl
map-replicated f (suc n) x = ap (λ ys. f x ∷ ys) (map-replicated f n x)

-- what holds of each element holds of the one that is looked up
pub all-get : {X : Type 0} (P : X → Type 0) (xs : List X) (k : ℕ) (x : X) → All P xs → slice_get xs k ≡ Some x → P x
all-get P [] k x h e = absurd (none-some x e)
all-get P (y ∷ xs) zero x h e = subst P (same_Some y x e) (All-head P y xs h)
all-get P (y ∷ xs) (suc k) x h e = all-get P xs k x (All-tail P y xs h) e

-- what is there
pub there : {X : Type 0} (o : Option X) → is_some o ≡ true → (x : X) × (o ≡ Some x)
there None h = absurd (false≢true h)
there (Some x) h = (x, refl)

-- two functions one behind the other, and a third that agrees with both on each element
pub map-agree_over : {X Y Z : Type 0} (f : Y → Z) (h : X → Y) (g : X → Z) (xs : List X) → All (λ x. f (h x) ≡ g x) xs → map f (map h xs) ≡ map g xs
map-agree_over f h g [] all = refl
map-agree_over f h g (x ∷ xs) all =
    let head : f (h x) ≡ g x = All-head (λ y. f (h y) ≡ g y) x xs all in
    let tail : map f (map h xs) ≡ map g xs = map-agree_over f h g xs (All-tail (λ y. f (h y) ≡ g y) x xs all) in
    cc

-- what a mapped option was mapped from
pub mapped-from : {X Y : Type 0} (f : X → Y) (o : Option X) (y : Y) → option_map f o ≡ Some y → (x : X) × ((o ≡ Some x) × (f x ≡ y))
mapped-from f None y e = absurd (none-some y e)
mapped-from f (Some x) y e = (x, (refl, same_Some (f x) y e))
