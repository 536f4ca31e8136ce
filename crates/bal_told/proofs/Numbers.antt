-- Lists of numbers: the places at which a test holds, and numbers of which no two are one.
use Rattle.std.proofs.Common.{◌≡◌, ◌<◌, ◌+◌, inl, inr, ℕ, zero, suc, Bool, true, false, cond, eqb, IsTrue, List, [], ◌∷◌, Some, filter, refl, ap, sym, subst, ◌∙◌, arith}
use Rattle.std.specs.Prelude.{◌==◌}
use Rattle.std.specs.List.{AllByRecursion, IsDistinct, range_with_len}
use Rattle.std.proofs.lemmas.Bool.{cases_eq, eq-eqb, eqb-true, false≢true, ne_eqb, or_cases, or_left, or_right, false_from_ne_true}
use Rattle.std.proofs.lemmas.Map.Keys.{IsDistinct-cons, IsDistinct-head, IsDistinct-tail}
use Rattle.std.proofs.lemmas.Option.{same_Some, slice_get_within}
use Rattle.bal_base.specs.Numbering.{numbers_from}
use Rattle.bal_layout.specs.Regions.{is_in}
use Rattle.bal_core.specs.World.{At}
use Rattle.bal_rules.proofs.Lemmas.{each-filter, each-in}
use Rattle.bal_told.proofs.Lists.{each-from_at}

-- Places at which a test holds.

-- the places of the true items of a list
abbrev pub places_from : ℕ → List Bool → List ℕ
places_from a bs = numbers_from a (λ b. b) bs

pub each-place : (P : ℕ → Type 0) (a : ℕ) (bs : List Bool) → ((i : ℕ) → At bs i true → P (a + i)) → AllByRecursion P (places_from a bs)
each-place P a [] h = tt
each-place P a (b ∷ bs) h = by b (λ is. h zero (ap Some is)) (each-place P (a + 1) bs (λ i at. subst P (omega arith) (h (suc i) at)))
  where
    by : (t : Bool) → (t ≡ true → P (a + zero)) → AllByRecursion P (places_from (a + 1) bs)
        → AllByRecursion P (cond t (a ∷ places_from (a + 1) bs) (places_from (a + 1) bs))
    by true first rest = (subst P (omega arith) (first refl), rest)
    by false first rest = rest

pub place-in : (a : ℕ) (bs : List Bool) (i : ℕ) → At bs i true → IsTrue (is_in (a + i) (places_from a bs))
place-in a [] i at = absurd (let none : i < 0 = slice_get_within [] i true at in omega (arith, none))
place-in a (true ∷ bs) zero at = or_left (a == a + zero) (is_in (a + zero) (places_from (a + 1) bs)) (eq-eqb a (a + zero) (omega arith))
place-in a (false ∷ bs) zero at = absurd (false≢true (same_Some false true at))
place-in a (true ∷ bs) (suc i) at =
    or_right (a == a + suc i) (is_in (a + suc i) (places_from (a + 1) bs))
    (subst (λ n. IsTrue (is_in n (places_from (a + 1) bs))) (omega arith) (place-in (a + 1) bs i at))
place-in a (false ∷ bs) (suc i) at = subst (λ n. IsTrue (is_in n (places_from (a + 1) bs))) (omega arith) (place-in (a + 1) bs i at)

-- those of a range that pass a test are the places of the true items, if the test says so and the range is long enough
pub passed-places : (p : ℕ → Bool) (a n : ℕ) (bs : List Bool) → ((i : ℕ) → IsTrue (p (a + i)) → At bs i true)
    → ((i : ℕ) → At bs i true → IsTrue (p (a + i)) × (i < n))
    → filter p (range_with_len a n) ≡ places_from a bs
passed-places p a zero [] from to = refl
passed-places p a zero (b ∷ bs) from to =
    by b (λ is. to zero (ap Some is))
    (passed-places p (a + 1) zero bs (λ i here. from (suc i) (subst (λ m. IsTrue (p m)) (omega arith) here))
    (λ i at. let there = to (suc i) at in (subst (λ m. IsTrue (p m)) (omega arith) there.0, let less : suc i < zero = there.1 in omega (arith, less))))
  where
    by : (t : Bool) → (t ≡ true → IsTrue (p (a + zero)) × (zero < zero)) → [] ≡ places_from (a + 1) bs
        → [] ≡ cond t (a ∷ places_from (a + 1) bs) (places_from (a + 1) bs)
    by true first rest = absurd (let less : zero < zero = (first refl).1 in omega (arith, less))
    by false first rest = rest
passed-places p a (suc n) [] from to =
    by (p a) (λ is. from zero (subst (λ m. IsTrue (p m)) (omega arith) is))
    (passed-places p (a + 1) n [] (λ i here. from (suc i) (subst (λ m. IsTrue (p m)) (omega arith) here))
    (λ i at. absurd (let none : i < 0 = slice_get_within [] i true at in omega (arith, none))))
  where
    by : (t : Bool) → (t ≡ true → At [] zero true) → filter p (range_with_len (a + 1) n) ≡ []
        → cond t (a ∷ filter p (range_with_len (a + 1) n)) (filter p (range_with_len (a + 1) n)) ≡ []
    by true first rest = absurd (let none : zero < 0 = slice_get_within [] zero true (first refl) in omega (arith, none))
    by false first rest = rest
passed-places p a (suc n) (b ∷ bs) from to =
    by (p a) b (λ is. same_Some b true (from zero (subst (λ m. IsTrue (p m)) (omega arith) is)))
    (λ is. subst (λ m. IsTrue (p m)) (omega arith) (to zero (ap Some is)).0)
    (passed-places p (a + 1) n bs (λ i here. from (suc i) (subst (λ m. IsTrue (p m)) (omega arith) here))
    (λ i at. let there = to (suc i) at in (subst (λ m. IsTrue (p m)) (omega arith) there.0, let less : suc i < suc n = there.1 in omega (arith, less))))
  where
    by : (t u : Bool) → (t ≡ true → u ≡ true) → (u ≡ true → t ≡ true) → filter p (range_with_len (a + 1) n) ≡ places_from (a + 1) bs
        → cond t (a ∷ filter p (range_with_len (a + 1) n)) (filter p (range_with_len (a + 1) n))
        ≡ cond u (a ∷ places_from (a + 1) bs) (places_from (a + 1) bs)
    by true true one two rest = ap (λ (l : List ℕ). a ∷ l) rest
    by true false one two rest = absurd (false≢true (one refl))
    by false true one two rest = absurd (false≢true (two refl))
    by false false one two rest = rest

-- Numbers of which no two are one.

pub single-distinct : (xs : List ℕ) → ((i j q : ℕ) → At xs i q → At xs j q → i ≡ j) → IsDistinct eqb xs
unfolding IsDistinct
single-distinct [] one = tt
single-distinct (x ∷ xs) one = (
  each-from_at (λ (y : ℕ). eqb x y ≡ false) xs (λ i y at. ne_eqb x y (λ same. let twice : zero ≡ suc i = one zero (suc i) y (ap Some same) at in omega (arith, twice))),
  single-distinct xs (λ i j q at there. let same : suc i ≡ suc j = one (suc i) (suc j) q at there in omega (arith, same)),
)

pub distinct-filter : (p : ℕ → Bool) (xs : List ℕ) → IsDistinct eqb xs → IsDistinct eqb (filter p xs)
unfolding IsDistinct
distinct-filter p [] apart = tt
distinct-filter p (x ∷ xs) apart = by (p x) (distinct-filter p xs apart.1)
  where
    by : (t : Bool) → IsDistinct eqb (filter p xs) → IsDistinct eqb (cond t (x ∷ filter p xs) (filter p xs))
    by true rest = IsDistinct-cons eqb x (filter p xs) (each-filter (λ (y : ℕ). eqb x y ≡ false) p xs (IsDistinct-head eqb x xs apart)) rest
    by false rest = rest

-- the first of them is none of the others
pub not-again : (x : ℕ) (xs : List ℕ) → IsDistinct eqb (x ∷ xs) → IsTrue (is_in x xs) → ⊥
not-again x xs apart again = false≢true (sym (each-in (λ (y : ℕ). eqb x y ≡ false) xs x (IsDistinct-head eqb x xs apart) again) ∙ eq-eqb x x refl)

pub none-passes : (p : ℕ → Bool) (xs : List ℕ) → ((r : ℕ) → IsTrue (is_in r xs) → p r ≡ false) → filter p xs ≡ []
none-passes p [] h = refl
none-passes p (x ∷ xs) h =
    ap (λ t. cond t (x ∷ filter p xs) (filter p xs)) (h x (or_left (x == x) (is_in x xs) (eq-eqb x x refl)))
    ∙ none-passes p xs (λ r there. h r (or_right (x == r) (is_in r xs) there))

-- the only one that passes
pub one-passes : (p : ℕ → Bool) (xs : List ℕ) (q : ℕ) → IsDistinct eqb xs → IsTrue (is_in q xs) → IsTrue (p q)
    → ((r : ℕ) → IsTrue (is_in r xs) → IsTrue (p r) → r ≡ q) → filter p xs ≡ q ∷ []
one-passes p [] q apart here passes only = absurd (false≢true here)
one-passes p (x ∷ xs) q apart here passes only = elim (cases_eq x q) [
  | inl same ↦
      ap (λ t. cond t (x ∷ filter p xs) (filter p xs)) (ap p same ∙ passes)
      ∙ ap (λ (l : List ℕ). x ∷ l) (none-passes p xs (λ r there. false_from_ne_true (p r) (λ too.
      not-again x xs apart (subst (λ s. IsTrue (is_in s xs)) (only r (or_right (x == r) (is_in r xs) there) too ∙ sym same) there))))
      ∙ ap (λ y. y ∷ []) same
  | inr other ↦
      ap (λ t. cond t (x ∷ filter p xs) (filter p xs))
      (false_from_ne_true (p x) (λ too. other (only x (or_left (x == x) (is_in x xs) (eq-eqb x x refl)) too)))
      ∙ one-passes p xs q (IsDistinct-tail eqb x xs apart)
      (elim (or_cases (x == q) (is_in q xs) here) [ inl first ↦ absurd (other (eqb-true x q first)) | inr there ↦ there ]) passes
      (λ r there too. only r (or_right (x == r) (is_in r xs) there) too)
]

-- what is in a list of numbers has what each of it has
pub in-each : (P : ℕ → Type 0) (xs : List ℕ) → ((q : ℕ) → IsTrue (is_in q xs) → P q) → AllByRecursion P xs
in-each P [] h = tt
in-each P (x ∷ xs) h = (h x (or_left (x == x) (is_in x xs) (eq-eqb x x refl)), in-each P xs (λ q there. h q (or_right (x == q) (is_in q xs) there)))

pub in-filter : (p : ℕ → Bool) (xs : List ℕ) (q : ℕ) → IsTrue (is_in q (filter p xs)) → IsTrue (p q) × IsTrue (is_in q xs)
in-filter p [] q h = absurd (false≢true h)
in-filter p (x ∷ xs) q h = by (p x) refl h (in-filter p xs q)
  where
    by : (t : Bool) → p x ≡ t → IsTrue (is_in q (cond t (x ∷ filter p xs) (filter p xs)))
        → (IsTrue (is_in q (filter p xs)) → IsTrue (p q) × IsTrue (is_in q xs))
        → IsTrue (p q) × IsTrue (is_in q (x ∷ xs))
    by true is h rest = elim (or_cases (x == q) (is_in q (filter p xs)) h) [
      | inl here ↦ (subst (λ r. IsTrue (p r)) (eqb-true x q here) is, or_left (x == q) (is_in q xs) here)
      | inr there ↦ (let found = rest there in (found.0, or_right (x == q) (is_in q xs) found.1))
    ]
    by false is h rest = let found = rest h in (found.0, or_right (x == q) (is_in q xs) found.1)

-- one at a place is in the list, and has a place there
pub at-in : (xs : List ℕ) (i q : ℕ) → At xs i q → IsTrue (is_in q xs)
at-in [] i q at = absurd (let none : i < 0 = slice_get_within [] i q at in omega (arith, none))
at-in (x ∷ xs) zero q at = or_left (x == q) (is_in q xs) (eq-eqb x q (same_Some x q at))
at-in (x ∷ xs) (suc i) q at = or_right (x == q) (is_in q xs) (at-in xs i q at)

pub in-at : (xs : List ℕ) (q : ℕ) → IsTrue (is_in q xs) → (i : ℕ) × At xs i q
in-at [] q h = absurd (false≢true h)
in-at (x ∷ xs) q h = elim (or_cases (x == q) (is_in q xs) h) [
  | inl here ↦ (zero, ap Some (eqb-true x q here))
  | inr there ↦ (let found = in-at xs q there in (suc found.0, found.1))
]
