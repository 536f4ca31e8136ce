-- Sets from which the numbers between two others are taken, one by one.
use Rattle.std.proofs.Common.{◌≡◌, ℕ, ◌+◌, ◌*◌, ◌/◌, ◌<◌, ◌≤◌, inl, inr, Bool, true, false, not, cond, eqb, ltb, leb, List, [], ◌∷◌, refl, ap, sym, ◌∙◌, arith}
use Rattle.std.specs.Prelude.{◌&&◌, ◌||◌}
use Rattle.std.specs.List.{filter}
use Rattle.std.proofs.lemmas.Bool.{cases_lt, cases_eq, eq-eqb, eqb-true, false≢true, le-leb, le-ltb, lt-leb, lt-ltb, ne_eqb}
use Rattle.std.proofs.lemmas.Nat.{div_below, le-div}
use Rattle.bal_base.specs.Bits.{is_member, without_member}
use Rattle.bal_layout.specs.Regions.{region_of_card}
use Rattle.bal_layout.specs.Shape.{Shape}
use Rattle.bal_cards.specs.Between.{outside}
use Rattle.bal_cards.specs.Cards.{cards_outside}

-- Lists that are filtered.

or-right : (a b : Bool) → b ≡ true → (a || b) ≡ true
or-right true b h = refl
or-right false b h = h

-- two tests that agree on all members
filter-agree : (p q : ℕ → Bool) (xs : List ℕ) → ((n : ℕ) → is_member xs n ≡ true → p n ≡ q n) → filter p xs ≡ filter q xs
filter-agree p q [] same = refl
filter-agree p q (x ∷ xs) same =
    ap (λ b. cond b (x ∷ filter p xs) (filter p xs)) (same x (ap (λ b. b || is_member xs x) (eq-eqb x x refl)))
    ∙ ap (λ (l : List ℕ). cond (q x) (x ∷ l) l) (filter-agree p q xs (λ n among. same n (or-right (eqb x n) (is_member xs n) among)))

-- two tests in turn
filter-twice : (p q : ℕ → Bool) (xs : List ℕ) → filter q (filter p xs) ≡ filter (λ n. p n && q n) xs
filter-twice p q [] = refl
filter-twice p q (x ∷ xs) = by (filter-twice p q xs) (p x)
  where
    by : filter q (filter p xs) ≡ filter (λ n. p n && q n) xs
        → (b : Bool) → filter q (cond b (x ∷ filter p xs) (filter p xs)) ≡ cond (b && q x) (x ∷ filter (λ n. p n && q n) xs) (filter (λ n. p n && q n) xs)
    by rest true = ap (λ (l : List ℕ). cond (q x) (x ∷ l) l) rest
    by rest false = rest

-- a member that passes a test is left
pub member-filtered : (p : ℕ → Bool) (xs : List ℕ) (n : ℕ) → is_member xs n ≡ true → p n ≡ true → is_member (filter p xs) n ≡ true
member-filtered p [] n among passes = absurd (false≢true among)
member-filtered p (x ∷ xs) n among passes = by (λ later. member-filtered p xs n later passes) (p x) refl (eqb x n) refl among
  where
    by : (is_member xs n ≡ true → is_member (filter p xs) n ≡ true)
        → (b : Bool) → p x ≡ b → (c : Bool) → eqb x n ≡ c → (c || is_member xs n) ≡ true → is_member (cond b (x ∷ filter p xs) (filter p xs)) n ≡ true
    by rest true is true same among = ap (λ c. c || is_member (filter p xs) n) same
    by rest true is false apart among = or-right (eqb x n) (is_member (filter p xs) n) (rest among)
    by rest false is true same among = absurd (false≢true (sym is ∙ (ap p (eqb-true x n same) ∙ passes)))
    by rest false is false apart among = rest among

-- and what is left was a member
pub member-unfiltered : (p : ℕ → Bool) (xs : List ℕ) (n : ℕ) → is_member (filter p xs) n ≡ true → is_member xs n ≡ true
member-unfiltered p [] n among = among
member-unfiltered p (x ∷ xs) n among = by (λ later. member-unfiltered p xs n later) (p x) (eqb x n) refl among
  where
    by : (is_member (filter p xs) n ≡ true → is_member xs n ≡ true)
        → (b c : Bool) → eqb x n ≡ c → is_member (cond b (x ∷ filter p xs) (filter p xs)) n ≡ true → (c || is_member xs n) ≡ true
    by rest b true same among = refl
    by rest true false apart among = rest (sym (ap (λ c. c || is_member (filter p xs) n) apart) ∙ among)
    by rest false false apart among = rest among

-- Numbers and two bounds.

inside-out : (from to n : ℕ) → from ≤ n → n < to → outside from to n ≡ false
inside-out from to n low high = ap (λ b. not (b && ltb n to)) (le-leb from n low) ∙ ap not (lt-ltb n to high)

outside-before : (from to n : ℕ) → n < from → outside from to n ≡ true
outside-before from to n less = ap (λ b. not (b && ltb n to)) (lt-leb from n less)

outside-after : (from to n : ℕ) → to ≤ n → outside from to n ≡ true
outside-after from to n more = by (leb from n)
  where
    by : (b : Bool) → not (b && ltb n to) ≡ true
    by true = ap not (le-ltb n to more)
    by false = refl

-- nothing is between a number and itself
pub outside-none : (from : ℕ) (xs : List ℕ) → xs ≡ filter (outside from from) xs
outside-none from xs = sym (filter-agree (outside from from) (λ n. true) xs each ∙ all xs)
  where
    each : (n : ℕ) → is_member xs n ≡ true → outside from from n ≡ true
    each n among = elim (cases_lt n from) [ inl less ↦ outside-before from from n less | inr more ↦ outside-after from from n more ]

    all : (ys : List ℕ) → filter (λ n. true) ys ≡ ys
    all [] = refl
    all (y ∷ ys) = ap (λ (l : List ℕ). y ∷ l) (all ys)

-- where no member is left between two bounds, the further one is as good
pub outside-further : (from at to : ℕ) (xs : List ℕ) → from ≤ at → at ≤ to → ((n : ℕ) → is_member (filter (outside from at) xs) n ≡ true → at ≤ n → to ≤ n)
    → filter (outside from at) xs ≡ filter (outside from to) xs
outside-further from at to xs low high none = filter-agree (outside from at) (outside from to) xs each
  where
    each : (n : ℕ) → is_member xs n ≡ true → outside from at n ≡ outside from to n
    each n among = elim (cases_lt n from) [
      | inl before ↦ outside-before from at n before ∙ sym (outside-before from to n before)
      | inr after ↦ elim (cases_lt n at) [
        | inl less ↦ inside-out from at n after less ∙ sym (inside-out from to n after (omega (arith, less, high)))
        | inr more ↦
            let passes = outside-after from at n more in
            passes ∙ sym (outside-after from to n (none n (member-filtered (outside from at) xs n among passes) more))
      ]
    ]

-- the least member that is left between the bounds is taken away
pub outside-next : (from at k : ℕ) (xs : List ℕ) → from ≤ at → at ≤ k → ((n : ℕ) → is_member (filter (outside from at) xs) n ≡ true → at ≤ n → k ≤ n)
    → without_member k (filter (outside from at) xs) ≡ filter (outside from (k + 1)) xs
outside-next from at k xs low high least =
    ap (without_member k) (outside-further from at k xs low high least)
    ∙ (filter-twice (outside from k) (λ n. not (eqb n k)) xs ∙ filter-agree (λ n. outside from k n && not (eqb n k)) (outside from (k + 1)) xs each)
  where
    each : (n : ℕ) → is_member xs n ≡ true → (outside from k n && not (eqb n k)) ≡ outside from (k + 1) n
    each n among = elim (cases_lt n from) [
      | inl before ↦
          ap (λ b. b && not (eqb n k)) (outside-before from k n before)
          ∙ (ap not (ne_eqb n k (λ e. omega (arith, e, before, low, high))) ∙ sym (outside-before from (k + 1) n before))
      | inr after ↦ elim (cases_lt n k) [
        | inl less ↦ ap (λ b. b && not (eqb n k)) (inside-out from k n after less) ∙ sym (inside-out from (k + 1) n after (omega (arith, less)))
        | inr more ↦
            ap (λ b. b && not (eqb n k)) (outside-after from k n more)
            ∙ elim (cases_eq n k) [
              | inl same ↦ ap not (eq-eqb n k same) ∙ sym (inside-out from (k + 1) n after (omega (arith, same)))
              | inr apart ↦ ap not (ne_eqb n k apart) ∙ sym (outside-after from (k + 1) n (omega (arith, more, apart)))
            ]
      ]
    ]

-- The cards of a region.

pub outside-region : (s : Shape) (q : ℕ) (xs : List ℕ) → 64 ≤ s.words → filter (outside (q * (s.words / 64)) (q * (s.words / 64) + s.words / 64)) xs ≡ cards_outside s q xs
outside-region s q xs some = filter-agree (outside (q * w) (q * w + w)) (λ card. not (eqb (region_of_card s card) q)) xs each
  where
    w : ℕ
    w = s.words / 64

    more : 0 < w
    more = omega (arith, some)

    each : (n : ℕ) → is_member xs n ≡ true → outside (q * w) (q * w + w) n ≡ not (eqb (region_of_card s n) q)
    each n among = elim (cases_lt n (q * w)) [
      | inl before ↦
          outside-before (q * w) (q * w + w) n before
          ∙ sym (ap not (ne_eqb (n / w) q (λ e. omega (arith, e, before, div_below n w q more before))))
      | inr after ↦ elim (cases_lt n (q * w + w)) [
        | inl less ↦
            inside-out (q * w) (q * w + w) n after less
            ∙ sym (ap not (eq-eqb (n / w) q (omega (arith, le-div q n w more after, div_below n w (q + 1) more (omega (arith, less))))))
        | inr past ↦
            outside-after (q * w) (q * w + w) n past
            ∙ sym (ap not (ne_eqb (n / w) q (λ e. omega (arith, e, le-div (q + 1) n w more (omega (arith, past))))))
      ]
    ]
