-- Lists: items at their places, parts joined end to end, and sums.
use Rattle.std.proofs.Common.{◌≡◌, ◌≤◌, ◌<◌, ◌+◌, ◌⊎◌, inl, inr, ℕ, zero, suc, Bool, true, false, cond, IsTrue, List, [], ◌∷◌, ◌++◌, Some, length, filter, map, flat_map, refl, ap, sym, subst, ◌∙◌, arith}
use Rattle.std.specs.List.{AllByRecursion, Contains, range_with_len, sum_by}
use Rattle.std.proofs.lemmas.Bool.{cases_eq, cases_lt}
use Rattle.std.proofs.lemmas.List.Elements.{Contains-append_left, Contains-append_right}
use Rattle.std.proofs.lemmas.List.Sums.{sum_by-append, sum_by-cons}
use Rattle.std.proofs.lemmas.Option.{get_or_from_slice_get, same_Some, slice_get_within}
use Rattle.std.proofs.lemmas.List.{append_assoc, append-nil}
use Rattle.bal_core.specs.World.{At}
use Rattle.bal_rules.proofs.Lemmas.{each-append}

-- Items at their places.

module _ {X : Type 0} where
  -- what holds of the item at each place holds of each item
  pub each-from_at : (P : X → Type 0) (xs : List X) → ((i : ℕ) (x : X) → At xs i x → P x) → AllByRecursion P xs
  each-from_at P [] h = tt
  each-from_at P (x ∷ xs) h = (h zero x refl, each-from_at P xs (λ i y at. h (suc i) y at))

  -- and what holds of each holds at each place
  pub each-at_place : (P : X → Type 0) (xs : List X) (i : ℕ) (x : X) → AllByRecursion P xs → At xs i x → P x
  each-at_place P [] i x h at = absurd (let none : i < 0 = slice_get_within [] i x at in omega (arith, none))
  each-at_place P (y ∷ xs) zero x h at = subst P (get_or_from_slice_get (y ∷ xs) zero x y at) h.0
  each-at_place P (y ∷ xs) (suc i) x h at = each-at_place P xs i x h.1 at

  -- what a filter keeps passes
  pub each-passes : (p : X → Bool) (xs : List X) → AllByRecursion (λ (x : X). IsTrue (p x)) (filter p xs)
  each-passes p [] = tt
  each-passes p (x ∷ xs) = by (p x) refl (each-passes p xs)
    where
      by : (t : Bool) → p x ≡ t → AllByRecursion (λ (y : X). IsTrue (p y)) (filter p xs)
          → AllByRecursion (λ (y : X). IsTrue (p y)) (cond t (x ∷ filter p xs) (filter p xs))
      by true is rest = (is, rest)
      by false is rest = rest

  pub contains-at : (xs : List X) (i : ℕ) (x : X) → At xs i x → Contains xs x
  contains-at xs i x at = (i, slice_get_within xs i x at, get_or_from_slice_get xs i x x at)

  -- Parts, one for each number of a range.

  pub each-part : (P : X → Type 0) (part : ℕ → List X) (a n : ℕ) → ((m : ℕ) → m < a + n → AllByRecursion P (part m))
      → AllByRecursion P (flat_map part (range_with_len a n))
  each-part P part a zero h = tt
  each-part P part a (suc n) h =
      each-append P (part a) (flat_map part (range_with_len (a + 1) n)) (h a (omega arith))
      (each-part P part (a + 1) n (λ m less. h m (omega (arith, less))))

  pub contains-part : (part : ℕ → List X) (a n m : ℕ) (x : X) → a ≤ m → m < a + n → Contains (part m) x
      → Contains (flat_map part (range_with_len a n)) x
  contains-part part a zero m x from to h = absurd (omega (arith, from, to))
  contains-part part a (suc n) m x from to h = elim (cases_eq a m) [
    | inl here ↦ Contains-append_left (part a) (flat_map part (range_with_len (a + 1) n)) x (subst (λ k. Contains (part k) x) (sym here) h)
    | inr later ↦
        let more : a + 1 ≤ m = elim (cases_lt a m) [ inl less ↦ omega (arith, less) | inr past ↦ absurd (later (omega (arith, past, from))) ] in
        Contains-append_right (part a) (flat_map part (range_with_len (a + 1) n)) x (contains-part part (a + 1) n m x more (omega (arith, to)) h)
  ]

  -- a place in two lists joined is one in the first, or one in the second behind it
  at-joined : (xs ys : List X) (i : ℕ) (x : X) → At (xs ++ ys) i x → At xs i x ⊎ ((j : ℕ) × (i ≡ length xs + j) × At ys j x)
  at-joined [] ys i x at = inr (i, omega arith, at)
  at-joined (y ∷ xs) ys zero x at = inl at
  at-joined (y ∷ xs) ys (suc i) x at = elim (at-joined xs ys i x at) [
    | inl here ↦ inl here
    | inr there ↦ let same : i ≡ length xs + there.0 = there.1 in inr (there.0, omega (arith, same), there.2)
  ]

  -- an item of the parts stands in one of them
  at-part : (part : ℕ → List X) (a n i : ℕ) (x : X) → At (flat_map part (range_with_len a n)) i x → (m : ℕ) × (p : ℕ) × (a ≤ m) × At (part m) p x
  at-part part a zero i x at = absurd (let none : i < 0 = slice_get_within [] i x at in omega (arith, none))
  at-part part a (suc n) i x at = elim (at-joined (part a) (flat_map part (range_with_len (a + 1) n)) i x at) [
    | inl here ↦ (a, i, omega arith, here)
    | inr later ↦
        let found = at-part part (a + 1) n later.0 x later.2 in
        let from : a + 1 ≤ found.0 = found.2 in
        (found.0, found.1, omega (arith, from), found.3)
  ]

  -- if no two places of the parts have one key then no two places of the whole have
  pub one-place : {Y : Type 0} (key : X → Y) (part : ℕ → List X)
      → ((m p o r : ℕ) (x y : X) → At (part m) p x → At (part o) r y → key x ≡ key y → (m ≡ o) × (p ≡ r))
      → (a n i j : ℕ) (x y : X) → At (flat_map part (range_with_len a n)) i x → At (flat_map part (range_with_len a n)) j y → key x ≡ key y → i ≡ j
  one-place key part one a zero i j x y at there same = absurd (let none : i < 0 = slice_get_within [] i x at in omega (arith, none))
  one-place key part one a (suc n) i j x y at there same =
      by (at-joined (part a) (flat_map part (range_with_len (a + 1) n)) i x at)
      (at-joined (part a) (flat_map part (range_with_len (a + 1) n)) j y there)
      (λ k l. one-place key part one (a + 1) n k l x y)
    where
      apart : (p k : ℕ) (z w : X) → At (part a) p z → At (flat_map part (range_with_len (a + 1) n)) k w → key z ≡ key w → ⊥
      apart p k z w here later is =
          let found = at-part part (a + 1) n k w later in
          let from : a + 1 ≤ found.0 = found.2 in
          let worker : a ≡ found.0 = (one a p found.0 found.1 z w here found.3 is).0 in
          omega (arith, from, worker)

      by : At (part a) i x ⊎ ((k : ℕ) × (i ≡ length (part a) + k) × At (flat_map part (range_with_len (a + 1) n)) k x)
          → At (part a) j y ⊎ ((k : ℕ) × (j ≡ length (part a) + k) × At (flat_map part (range_with_len (a + 1) n)) k y)
          → ((k l : ℕ) → At (flat_map part (range_with_len (a + 1) n)) k x → At (flat_map part (range_with_len (a + 1) n)) l y → key x ≡ key y → k ≡ l)
          → i ≡ j
      by (inl one_here) (inl two_here) rest = (one a i a j x y one_here two_here same).1
      by (inl one_here) (inr two_later) rest = absurd (apart i two_later.0 x y one_here two_later.2 same)
      by (inr one_later) (inl two_here) rest = absurd (apart j one_later.0 y x two_here one_later.2 (sym same))
      by (inr one_later) (inr two_later) rest =
          let is : one_later.0 ≡ two_later.0 = rest one_later.0 two_later.0 one_later.2 two_later.2 same in
          let first : i ≡ length (part a) + one_later.0 = one_later.1 in
          let second : j ≡ length (part a) + two_later.0 = two_later.1 in
          omega (arith, is, first, second)

  -- Sums.

  -- terms that agree at each place
  pub sum-same : (f g : X → ℕ) (xs : List X) → ((i : ℕ) (x : X) → At xs i x → f x ≡ g x) → sum_by f xs ≡ sum_by g xs
  sum-same f g [] h = refl
  sum-same f g (x ∷ xs) h =
      let first : f x ≡ g x = h zero x refl in
      let rest : sum_by f xs ≡ sum_by g xs = sum-same f g xs (λ i y at. h (suc i) y at) in
      sum_by-cons f x xs ∙ (omega (arith, first, rest)) ∙ sym (sum_by-cons g x xs)

  pub sum-none : (f : X → ℕ) (xs : List X) → ((i : ℕ) (x : X) → At xs i x → f x ≡ 0) → sum_by f xs ≡ 0
  sum-none f [] h = refl
  sum-none f (x ∷ xs) h =
      let first : f x ≡ 0 = h zero x refl in
      let rest : sum_by f xs ≡ 0 = sum-none f xs (λ i y at. h (suc i) y at) in
      sum_by-cons f x xs ∙ omega (arith, first, rest)

  -- a sum over what passes is one over all, to which the others give nothing
  pub sum-filter : (f : X → ℕ) (p : X → Bool) (xs : List X) → sum_by f (filter p xs) ≡ sum_by (λ x. cond (p x) (f x) 0) xs
  sum-filter f p [] = refl
  sum-filter f p (x ∷ xs) = by (p x) (sum-filter f p xs) ∙ sym (sum_by-cons (λ y. cond (p y) (f y) 0) x xs)
    where
      by : (t : Bool) → sum_by f (filter p xs) ≡ sum_by (λ y. cond (p y) (f y) 0) xs
          → sum_by f (cond t (x ∷ filter p xs) (filter p xs)) ≡ cond t (f x) 0 + sum_by (λ y. cond (p y) (f y) 0) xs
      by true rest = sum_by-cons f x (filter p xs) ∙ ap (λ n. f x + n) rest
      by false rest = let same : sum_by f (filter p xs) ≡ sum_by (λ y. cond (p y) (f y) 0) xs = rest in omega (arith, same)

  -- the sum over parts, where none or one of them gives something
  pub sum-no_part : (f : X → ℕ) (part : ℕ → List X) (a n : ℕ) → ((m : ℕ) → a ≤ m → m < a + n → sum_by f (part m) ≡ 0)
      → sum_by f (flat_map part (range_with_len a n)) ≡ 0
  sum-no_part f part a zero h = refl
  sum-no_part f part a (suc n) h =
      let first : sum_by f (part a) ≡ 0 = h a (omega arith) (omega arith) in
      let rest : sum_by f (flat_map part (range_with_len (a + 1) n)) ≡ 0
      = sum-no_part f part (a + 1) n (λ m from less. h m (omega (arith, from)) (omega (arith, less))) in
      sum_by-append f (part a) (flat_map part (range_with_len (a + 1) n)) ∙ omega (arith, first, rest)

  pub sum-one_part : (f : X → ℕ) (part : ℕ → List X) (a n m : ℕ) → a ≤ m → m < a + n → ((k : ℕ) → (k ≡ m → ⊥) → sum_by f (part k) ≡ 0)
      → sum_by f (flat_map part (range_with_len a n)) ≡ sum_by f (part m)
  sum-one_part f part a zero m from to h = absurd (omega (arith, from, to))
  sum-one_part f part a (suc n) m from to h = sum_by-append f (part a) (flat_map part (range_with_len (a + 1) n)) ∙ elim (cases_eq a m) [
    | inl here ↦
        let rest : sum_by f (flat_map part (range_with_len (a + 1) n)) ≡ 0
        = sum-no_part f part (a + 1) n (λ k after less. h k (λ same. omega (arith, after, same, here))) in
        let first : sum_by f (part a) ≡ sum_by f (part m) = ap (λ k. sum_by f (part k)) here in
        omega (arith, rest, first)
    | inr later ↦
        let more : a + 1 ≤ m = elim (cases_lt a m) [ inl less ↦ omega (arith, less) | inr past ↦ absurd (later (omega (arith, past, from))) ] in
        let first : sum_by f (part a) ≡ 0 = h a later in
        let rest : sum_by f (flat_map part (range_with_len (a + 1) n)) ≡ sum_by f (part m)
        = sum-one_part f part (a + 1) n m more (omega (arith, to)) h in
        omega (arith, first, rest)
  ]

-- a sum over what was made of the items
pub sum-of_map : {X Y : Type 0} (f : Y → ℕ) (g : X → Y) (xs : List X) → sum_by f (map g xs) ≡ sum_by (λ (x : X). f (g x)) xs
sum-of_map f g [] = refl
sum-of_map f g (x ∷ xs) =
    sum_by-cons f (g x) (map g xs) ∙ (ap (λ (n : ℕ). f (g x) + n) (sum-of_map f g xs) ∙ sym (sum_by-cons (λ x. f (g x)) x xs))

-- what was made of the item at a place
pub at-map : {X Y : Type 0} (g : X → Y) (xs : List X) (i : ℕ) (x : X) → At xs i x → At (map g xs) i (g x)
at-map g [] i x at = absurd (let none : i < 0 = slice_get_within [] i x at in omega (arith, none))
at-map g (y ∷ xs) zero x at = ap (λ z. Some (g z)) (get_or_from_slice_get (y ∷ xs) zero x y at)
at-map g (y ∷ xs) (suc i) x at = at-map g xs i x at

pub at-map_back : {X Y : Type 0} (g : X → Y) (xs : List X) (i : ℕ) (y : Y) → At (map g xs) i y → (x : X) × At xs i x × (y ≡ g x)
at-map_back g [] i y at = absurd (let none : i < 0 = slice_get_within [] i y at in omega (arith, none))
at-map_back g (x ∷ xs) zero y at = (x, refl, sym (same_Some (g x) y at))
at-map_back g (x ∷ xs) (suc i) y at = at-map_back g xs i y at

-- parts of a range that is longer by one
pub part-more : {X : Type 0} (part : ℕ → List X) (a n : ℕ)
    → flat_map part (range_with_len a (n + 1)) ≡ flat_map part (range_with_len a n) ++ part (a + n)
part-more part a zero = append-nil (part a) ∙ ap part (omega arith)
part-more part a (suc n) =
    ap (λ (m : ℕ). flat_map part (range_with_len a m)) one ∙ ap (λ l. part a ++ l) (part-more part (a + 1) n)
    ∙ sym (append_assoc (part a) (flat_map part (range_with_len (a + 1) n)) (part (a + 1 + n)))
    ∙ ap (λ m. (part a ++ flat_map part (range_with_len (a + 1) n)) ++ part m) (omega arith)
  where
    one : suc n + 1 ≡ suc (n + 1)
    one = omega arith
