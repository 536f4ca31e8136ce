-- Lists of numbers: members, numbers of a range that pass a test, and how many there are.
use Rattle.std.proofs.Common.{◌≡◌, ℕ, zero, suc, ◌+◌, ◌<◌, ◌≤◌, ◌⊎◌, inl, inr, Bool, true, false, cond, List, [], ◌∷◌, ◌++◌, length, filter, map, get_or, refl, ap, subst, sym, ◌∙◌, arith}
use Rattle.std.specs.List.{AllByRecursion, range_with_len}
use Rattle.std.proofs.lemmas.Bool.{cases_order, false≢true}
use Rattle.bal_base.specs.Bits.{IsAscending}
use Rattle.bal_base.proofs.Lemmas.{among-cases, among-first, among-later}
use Rattle.bal_layout.specs.Regions.{is_in}

-- what is looked up is a member
pub in-get : (xs : List ℕ) (k d : ℕ) → k < length xs → is_in (get_or xs k d) xs ≡ true
in-get [] k d less = absurd (omega (arith, less))
in-get (x ∷ xs) zero d less = among-first x xs
in-get (x ∷ xs) (suc k) d less = among-later x (get_or xs k d) xs (in-get xs k d (omega (arith, less)))

-- two functions that agree on the members
pub map-same_in : {Y : Type 0} (f g : ℕ → Y) (xs : List ℕ) → ((x : ℕ) → is_in x xs ≡ true → f x ≡ g x) → map f xs ≡ map g xs
map-same_in f g [] same = refl
map-same_in f g (x ∷ xs) same =
    ap (λ y. y ∷ map f xs) (same x (among-first x xs)) ∙ ap (λ ys. g x ∷ ys) (map-same_in f g xs (λ y among. same y (among-later x y xs among)))

-- what holds of each member goes over to what is made of it
pub each-mapped : {Y : Type 0} (P : Y → Type 0) (f : ℕ → Y) (xs : List ℕ) → ((x : ℕ) → is_in x xs ≡ true → P (f x)) → AllByRecursion P (map f xs)
each-mapped P f [] each = tt
each-mapped P f (x ∷ xs) each = (each x (among-first x xs), each-mapped P f xs (λ y among. each y (among-later x y xs among)))

-- one function behind the other
pub map-over : {X Y Z : Type 0} (f : Y → Z) (g : X → Y) (xs : List X) → map f (map g xs) ≡ map (λ x. f (g x)) xs
map-over f g [] = refl
map-over f g (x ∷ xs) = ap (λ ys. f (g x) ∷ ys) (map-over f g xs)

-- a test behind a function
pub filter-over : {X Y : Type 0} (p : Y → Bool) (f : X → Y) (xs : List X) → filter p (map f xs) ≡ map f (filter (λ x. p (f x)) xs)
filter-over p f [] = refl
filter-over p f (x ∷ xs) = by (p (f x)) (filter-over p f xs)
  where
    by : (b : Bool) → filter p (map f xs) ≡ map f (filter (λ x. p (f x)) xs)
        → cond b (f x ∷ filter p (map f xs)) (filter p (map f xs)) ≡ map f (cond b (x ∷ filter (λ x. p (f x)) xs) (filter (λ x. p (f x)) xs))
    by true rest = ap (λ ys. f x ∷ ys) rest
    by false rest = rest

-- all pass
pub filter-all : (p : ℕ → Bool) (xs : List ℕ) → ((x : ℕ) → p x ≡ true) → filter p xs ≡ xs
filter-all p [] all = refl
filter-all p (x ∷ xs) all = ap (λ b. cond b (x ∷ filter p xs) (filter p xs)) (all x) ∙ ap (λ (l : List ℕ). x ∷ l) (filter-all p xs all)

-- what passes was there
pub filter-was : (p : ℕ → Bool) (xs : List ℕ) (x : ℕ) → is_in x (filter p xs) ≡ true → is_in x xs ≡ true
filter-was p [] x among = absurd (false≢true among)
filter-was p (y ∷ xs) x among = by (p y) among (λ later. filter-was p xs x later)
  where
    by : (b : Bool) → is_in x (cond b (y ∷ filter p xs) (filter p xs)) ≡ true → (is_in x (filter p xs) ≡ true → is_in x xs ≡ true) → is_in x (y ∷ xs) ≡ true
    by true among rest = elim (among-cases y x (filter p xs) among) [
      | inl here ↦ subst (λ z. is_in z (y ∷ xs) ≡ true) here (among-first y xs)
      | inr later ↦ among-later y x xs (rest later)
    ]
    by false among rest = among-later y x xs (rest among)

-- fewer pass a narrower test
pub fewer-pass : (p q : ℕ → Bool) (xs : List ℕ) → ((x : ℕ) → p x ≡ true → q x ≡ true) → length (filter p xs) ≤ length (filter q xs)
fewer-pass p q [] wider = omega arith
fewer-pass p q (x ∷ xs) wider = by (p x) (q x) refl refl (fewer-pass p q xs wider)
  where
    by : (b c : Bool) → p x ≡ b → q x ≡ c → length (filter p xs) ≤ length (filter q xs)
        → length (cond b (x ∷ filter p xs) (filter p xs)) ≤ length (cond c (x ∷ filter q xs) (filter q xs))
    by true true one two rest = omega (arith, rest)
    by true false one two rest = absurd (false≢true (sym two ∙ wider x one))
    by false true one two rest = omega (arith, rest)
    by false false one two rest = rest

-- numbers of a range that ascend and pass a test are no more than all that pass
pub few-ascend : (p : ℕ → Bool) (ns : List ℕ) (a n : ℕ) → IsAscending ns
    → ((m : ℕ) → is_in m ns ≡ true → (a ≤ m) × (m < a + n) × (p m ≡ true)) → length ns ≤ length (filter p (range_with_len a n))
few-ascend p [] a n up inside = omega arith
few-ascend p (m ∷ ms) a zero up inside =
    let first = inside m (among-first m ms) in absurd (omega (arith, first.0, first.1))
few-ascend p (m ∷ ms) a (suc n) up inside =
    by
    (λ here. few-ascend p ms (a + 1) n up.1
    (λ k among. let one = inside k (among-later m k ms among) in (omega (arith, up.0 k among, here), omega (arith, one.1), one.2)))
    (λ less. few-ascend p (m ∷ ms) (a + 1) n up (λ k among. (above k less among, omega (arith, (inside k among).1), (inside k among).2)))
    (cases_order a m)
  where
    first : (a ≤ m) × (m < a + suc n) × (p m ≡ true)
    first = inside m (among-first m ms)

    above : (k : ℕ) → a < m → is_in k (m ∷ ms) ≡ true → a + 1 ≤ k
    above k less among = elim (among-cases m k ms among) [ inl same ↦ omega (arith, same, less) | inr later ↦ omega (arith, up.0 k later, less) ]

    more : (b : Bool) → length (filter p (range_with_len (a + 1) n)) ≤ length (cond b (a ∷ filter p (range_with_len (a + 1) n)) (filter p (range_with_len (a + 1) n)))
    more true = omega arith
    more false = omega arith

    by : (a ≡ m → length ms ≤ length (filter p (range_with_len (a + 1) n))) → (a < m → length (m ∷ ms) ≤ length (filter p (range_with_len (a + 1) n)))
        → (a ≡ m) ⊎ ((a < m) ⊎ (m < a)) → length (m ∷ ms) ≤ length (filter p (range_with_len a (suc n)))
    by one all (inl here) =
        subst (λ b. length (m ∷ ms) ≤ length (cond b (a ∷ filter p (range_with_len (a + 1) n)) (filter p (range_with_len (a + 1) n)))) (sym (ap p here ∙ first.2))
        (omega (arith, one here))
    by one all (inr (inl less)) = omega (arith, all less, more (p a))
    by one all (inr (inr less)) = absurd (omega (arith, less, first.0))

-- a range in two parts
pub range-parts : (a m n : ℕ) → range_with_len a (m + n) ≡ range_with_len a m ++ range_with_len (a + m) n
range-parts a zero n = rw (zero-sum n) (ap (λ b. range_with_len b n) (sym (none a)))
  where
    zero-sum : (n : ℕ) → zero + n ≡ n
    zero-sum n = omega arith

    none : (a : ℕ) → a + zero ≡ a
    none a = omega arith
range-parts a (suc m) n =
    ap (range_with_len a) (later m n) ∙ ap (λ (l : List ℕ). a ∷ l) (range-parts (a + 1) m n ∙ ap (λ b. range_with_len (a + 1) m ++ range_with_len b n) (next a m))
  where
    later : (m n : ℕ) → suc m + n ≡ suc (m + n)
    later m n = omega arith

    next : (a m : ℕ) → a + 1 + m ≡ a + suc m
    next a m = omega arith

pub filter-parts : (p : ℕ → Bool) (xs ys : List ℕ) → filter p (xs ++ ys) ≡ filter p xs ++ filter p ys
filter-parts p [] ys = refl
filter-parts p (x ∷ xs) ys = by (p x) (filter-parts p xs ys)
  where
    by : (b : Bool) → filter p (xs ++ ys) ≡ filter p xs ++ filter p ys → cond b (x ∷ filter p (xs ++ ys)) (filter p (xs ++ ys)) ≡ cond b (x ∷ filter p xs) (filter p xs) ++ filter p ys
    by true rest = ap (λ (l : List ℕ). x ∷ l) rest
    by false rest = rest
