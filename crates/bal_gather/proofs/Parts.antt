-- What is in a list that was made of another one.
use Rattle.std.proofs.Common.{◌≡◌, ℕ, zero, suc, ◌⊎◌, inl, inr, true, List, [], ◌∷◌, map, Option, Some, None, refl, ap, sym, subst, ◌∙◌, arith}
use Rattle.std.specs.Prelude.{Contains}
use Rattle.std.specs.List.{cons_option, filter_map, flat_map}
use Rattle.std.proofs.lemmas.List.Elements.{Contains-append_cases, Contains-append_left, Contains-append_right}
use Rattle.std.proofs.lemmas.Bool.{false≢true}
use Rattle.bal_base.specs.Bits.{is_member}
use Rattle.bal_base.proofs.Lemmas.{among-cases}

contains-none : {X : Type 0} (x : X) → Contains [] x → ⊥
contains-none x (k, within, is) = omega (arith, within)

contains-cases : {X : Type 0} (x : X) (xs : List X) (y : X) → Contains (x ∷ xs) y → (x ≡ y) ⊎ Contains xs y
contains-cases x xs y (zero, within, is) = inl is
contains-cases x xs y (suc k, within, is) = inr (k, omega (arith, within), is)

contains-first : {X : Type 0} (x : X) (xs : List X) → Contains (x ∷ xs) x
contains-first x xs = (0, omega arith, refl)

contains-later : {X : Type 0} (x : X) (xs : List X) (y : X) → Contains xs y → Contains (x ∷ xs) y
contains-later x xs y (k, within, is) = (suc k, omega (arith, within), is)

-- Each item that a function gives.

module _ {X Y : Type 0} (h : X → Option Y) where
  pub given-by : (xs : List X) (y : Y) → Contains (filter_map h xs) y → (x : X) × Contains xs x × (h x ≡ Some y)
  given-by [] y among = absurd (contains-none y among)
  given-by (x ∷ xs) y among = by (λ later. let found = given-by xs y later in (found.0, contains-later x xs found.0 found.1, found.2)) (h x) refl among
    where
      by : (Contains (filter_map h xs) y → (z : X) × Contains (x ∷ xs) z × (h z ≡ Some y)) → (o : Option Y) → h x ≡ o → Contains (cons_option o (filter_map h xs)) y
          → (z : X) × Contains (x ∷ xs) z × (h z ≡ Some y)
      by rest None gives among = rest among
      by rest (Some z) gives among = elim (contains-cases z (filter_map h xs) y among) [
        | inl here ↦ (x, contains-first x xs, gives ∙ ap Some here)
        | inr later ↦ rest later
      ]

  pub given : (xs : List X) (x : X) (y : Y) → Contains xs x → h x ≡ Some y → Contains (filter_map h xs) y
  given [] x y among gives = absurd (contains-none x among)
  given (z ∷ xs) x y among gives = elim (contains-cases z xs x among) [
    | inl here ↦ subst (λ o. Contains (cons_option o (filter_map h xs)) y) (sym (ap h here ∙ gives)) (contains-first y (filter_map h xs))
    | inr later ↦ by (h z) (given xs x y later gives)
  ]
    where
      by : (o : Option Y) → Contains (filter_map h xs) y → Contains (cons_option o (filter_map h xs)) y
      by None rest = rest
      by (Some w) rest = contains-later w (filter_map h xs) y rest

module _ {X Y : Type 0} (f : X → Y) where
  pub mapped-by : (xs : List X) (y : Y) → Contains (map f xs) y → (x : X) × Contains xs x × (f x ≡ y)
  mapped-by [] y among = absurd (contains-none y among)
  mapped-by (x ∷ xs) y among = elim (contains-cases (f x) (map f xs) y among) [
    | inl here ↦ (x, contains-first x xs, here)
    | inr later ↦ let found = mapped-by xs y later in (found.0, contains-later x xs found.0 found.1, found.2)
  ]

  pub mapped : (xs : List X) (x : X) → Contains xs x → Contains (map f xs) (f x)
  mapped [] x among = absurd (contains-none x among)
  mapped (z ∷ xs) x among = elim (contains-cases z xs x among) [
    | inl here ↦ subst (λ w. Contains (f z ∷ map f xs) (f w)) here (contains-first (f z) (map f xs))
    | inr later ↦ contains-later (f z) (map f xs) (f x) (mapped xs x later)
  ]

module _ {X Y : Type 0} (f : X → List Y) where
  pub joined-by : (xs : List X) (y : Y) → Contains (flat_map f xs) y → (x : X) × Contains xs x × Contains (f x) y
  joined-by [] y among = absurd (contains-none y among)
  joined-by (x ∷ xs) y among = elim (Contains-append_cases (f x) (flat_map f xs) y among) [
    | inl here ↦ (x, contains-first x xs, here)
    | inr later ↦ let found = joined-by xs y later in (found.0, contains-later x xs found.0 found.1, found.2)
  ]

  pub joined : (xs : List X) (x : X) (y : Y) → Contains xs x → Contains (f x) y → Contains (flat_map f xs) y
  joined [] x y among part = absurd (contains-none x among)
  joined (z ∷ xs) x y among part = elim (contains-cases z xs x among) [
    | inl here ↦ Contains-append_left (f z) (flat_map f xs) y (subst (λ w. Contains (f w) y) (sym here) part)
    | inr later ↦ Contains-append_right (f z) (flat_map f xs) y (joined xs x y later part)
  ]

pub contains-member : (xs : List ℕ) (x : ℕ) → is_member xs x ≡ true → Contains xs x
contains-member [] x among = absurd (false≢true among)
contains-member (y ∷ xs) x among = elim (among-cases y x xs among) [
  | inl here ↦ subst (λ z. Contains (y ∷ xs) z) here (contains-first y xs)
  | inr later ↦ contains-later y xs x (contains-member xs x later)
]
