-- Numbers of the items of a list that pass a test.
use Rattle.std.proofs.Common.{◌≡◌, ℕ, zero, suc, ◌+◌, ◌<◌, inl, inr, Bool, true, false, cond, eqb, not, List, [], ◌∷◌, length, set, get_or, refl, ap, sym, ◌∙◌, arith}
use Rattle.std.specs.List.{filter}
use Rattle.std.proofs.lemmas.Bool.{eq-eqb, ne_eqb, false≢true}
use Rattle.bal_base.specs.Numbering.{numbers_from}
use Rattle.bal_base.proofs.Lemmas.{among-cases}
use Rattle.bal_layout.specs.Regions.{is_in}

-- tests that agree number the same
pub numbers-alike : {A B : Type 0} (n : ℕ) (f : A → Bool) (g : B → Bool) (xs : List A) (ys : List B) (d : A) (e : B) → length xs ≡ length ys
    → ((k : ℕ) → k < length xs → f (get_or xs k d) ≡ g (get_or ys k e)) → numbers_from n f xs ≡ numbers_from n g ys
numbers-alike n f g [] [] d e long same = refl
numbers-alike n f g [] (y ∷ ys) d e long same = absurd (omega (arith, long))
numbers-alike n f g (x ∷ xs) [] d e long same = absurd (omega (arith, long))
numbers-alike n f g (x ∷ xs) (y ∷ ys) d e long same =
    ap (λ b. cond b (n ∷ numbers_from (n + 1) f xs) (numbers_from (n + 1) f xs)) (same 0 (omega arith))
    ∙ ap (λ (ns : List ℕ). cond (g y) (n ∷ ns) ns) (numbers-alike (n + 1) f g xs ys d e (omega (arith, long)) (λ k less. same (suc k) (omega (arith, less))))

-- a number is that of an item that passes
pub record IsNumbered {A : Type 0} (n : ℕ) (test : A → Bool) (xs : List A) (d : A) (q : ℕ) : Type 0 where
  pub place : ℕ
  pub number : n + place ≡ q
  pub within : place < length xs
  pub passes : test (get_or xs place d) ≡ true

pub numbered : {A : Type 0} (n : ℕ) (test : A → Bool) (xs : List A) (d : A) (q : ℕ) → is_in q (numbers_from n test xs) ≡ true → IsNumbered n test xs d q
numbered n test [] d q among = absurd (false≢true among)
numbered {A} n test (x ∷ xs) d q among = by (λ more. numbered (n + 1) test xs d q more) (test x) refl among
  where
    by : (is_in q (numbers_from (n + 1) test xs) ≡ true → IsNumbered (n + 1) test xs d q) → (b : Bool) → test x ≡ b
        → is_in q (cond b (n ∷ numbers_from (n + 1) test xs) (numbers_from (n + 1) test xs)) ≡ true → IsNumbered n test (x ∷ xs) d q
    by rest true passes among = elim (among-cases n q (numbers_from (n + 1) test xs) among) [
      | inl here ↦ record { place = 0; number = omega (arith, here); within = omega arith; passes = passes }
      | inr more ↦
          let r = rest more in
          record { place = suc r.place; number = omega (arith, r.number); within = omega (arith, r.within); passes = r.passes }
    ]
    by rest false passes among =
        let r = rest among in
        record { place = suc r.place; number = omega (arith, r.number); within = omega (arith, r.within); passes = r.passes }

-- where none is numbered, none passes
pub numbers-empty : {A : Type 0} (n : ℕ) (test : A → Bool) (xs : List A) (d : A) → numbers_from n test xs ≡ [] → (k : ℕ) → k < length xs → test (get_or xs k d) ≡ false
numbers-empty n test [] d none k less = absurd (omega (arith, less))
numbers-empty {A} n test (x ∷ xs) d none k less = by (λ rest j. numbers-empty (n + 1) test xs d rest j) (test x) refl none k less
  where
    by : (numbers_from (n + 1) test xs ≡ [] → (j : ℕ) → j < length xs → test (get_or xs j d) ≡ false) → (b : Bool) → test x ≡ b
        → cond b (n ∷ numbers_from (n + 1) test xs) (numbers_from (n + 1) test xs) ≡ [] → (k : ℕ) → k < length (x ∷ xs) → test (get_or (x ∷ xs) k d) ≡ false
    by rest true passes none k less = absurd (omega (arith, ap (λ (ns : List ℕ). length ns) none))
    by rest false passes none zero less = passes
    by rest false passes none (suc k) less = rest none k (omega (arith, less))

-- numbers from one on are not lower
above : {A : Type 0} (n m : ℕ) (test : A → Bool) (xs : List A) → n < m → filter (λ q. not (eqb q n)) (numbers_from m test xs) ≡ numbers_from m test xs
above n m test [] less = refl
above {A} n m test (x ∷ xs) less = by (above n (m + 1) test xs (omega (arith, less))) (test x)
  where
    by : filter (λ q. not (eqb q n)) (numbers_from (m + 1) test xs) ≡ numbers_from (m + 1) test xs → (b : Bool)
        → filter (λ q. not (eqb q n)) (cond b (m ∷ numbers_from (m + 1) test xs) (numbers_from (m + 1) test xs)) ≡ cond b (m ∷ numbers_from (m + 1) test xs) (numbers_from (m + 1) test xs)
    by rest true = rw (ne_eqb m n (λ e. omega (arith, e, less))) (ap (λ (ns : List ℕ). m ∷ ns) rest)
    by rest false = rest

-- an item that does not pass in the place of one: its number is gone
pub numbers-without : {A : Type 0} (n : ℕ) (test : A → Bool) (xs : List A) (i : ℕ) (x : A) → test x ≡ false
    → numbers_from n test (set xs i x) ≡ filter (λ q. not (eqb q (n + i))) (numbers_from n test xs)
numbers-without n test [] i x fails = refl
numbers-without n test (y ∷ ys) zero x fails =
    ap (λ b. cond b (n ∷ numbers_from (n + 1) test ys) (numbers_from (n + 1) test ys)) fails ∙ by (test y)
  where
    same : n + 0 ≡ n
    same = omega arith

    rest : filter (λ q. not (eqb q (n + 0))) (numbers_from (n + 1) test ys) ≡ numbers_from (n + 1) test ys
    rest = ap (λ m. filter (λ q. not (eqb q m)) (numbers_from (n + 1) test ys)) same ∙ above n (n + 1) test ys (omega arith)

    by : (b : Bool) → numbers_from (n + 1) test ys ≡ filter (λ q. not (eqb q (n + 0))) (cond b (n ∷ numbers_from (n + 1) test ys) (numbers_from (n + 1) test ys))
    by true = rw (eq-eqb n (n + 0) (sym same)) (sym rest)
    by false = sym rest
numbers-without {A} n test (y ∷ ys) (suc i) x fails = by (numbers-without (n + 1) test ys i x fails ∙ ap (λ m. filter (λ q. not (eqb q m)) (numbers_from (n + 1) test ys)) same) (test y)
  where
    same : n + 1 + i ≡ n + suc i
    same = omega arith

    by : numbers_from (n + 1) test (set ys i x) ≡ filter (λ q. not (eqb q (n + suc i))) (numbers_from (n + 1) test ys) → (b : Bool) → cond b (n ∷ numbers_from (n + 1) test (set ys i x)) (numbers_from (n + 1) test (set ys i x))
        ≡ filter (λ q. not (eqb q (n + suc i))) (cond b (n ∷ numbers_from (n + 1) test ys) (numbers_from (n + 1) test ys))
    by rest true = rw (ne_eqb n (n + suc i) (λ e. omega (arith, e))) (ap (λ (ns : List ℕ). n ∷ ns) rest)
    by rest false = rest
