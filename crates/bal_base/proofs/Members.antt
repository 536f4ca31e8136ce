-- Members of a set as the numbers of a range that pass a test.
use Rattle.std.proofs.Common.{◌≡◌, ℕ, zero, suc, ◌+◌, ◌<◌, ◌≤◌, ◌⊎◌, inl, inr, Bool, true, false, not, cond, eqb, List, [], ◌∷◌, ◌++◌, refl, ap, sym, subst, ◌∙◌, arith}
use Rattle.std.specs.Prelude.{◌||◌, ◌↔◌, IsTrue, nat_lt}
use Rattle.std.specs.List.{filter, range_with_len}
use Rattle.std.proofs.lemmas.Bool.{cases_order, eq-eqb, eqb-true, false≢true, le-ltb, lt-ltb, ne_eqb}
use Rattle.bal_base.specs.Bits.{IsAscending, is_member, with_member, without_member}

-- Membership.

or-cases : (a b : Bool) → (a || b) ≡ true → (a ≡ true) ⊎ (b ≡ true)
or-cases true b h = inl refl
or-cases false b h = inr h

or-right : (a b : Bool) → b ≡ true → (a || b) ≡ true
or-right true b h = refl
or-right false b h = h

-- a member is the first, or one of the others
pub among-cases : (m n : ℕ) (ms : List ℕ) → is_member (m ∷ ms) n ≡ true → (m ≡ n) ⊎ (is_member ms n ≡ true)
among-cases m n ms h = elim (or-cases (eqb m n) (is_member ms n) h) [ inl here ↦ inl (eqb-true m n here) | inr later ↦ inr later ]

pub among-later : (m n : ℕ) (ms : List ℕ) → is_member ms n ≡ true → is_member (m ∷ ms) n ≡ true
among-later m n ms h = or-right (eqb m n) (is_member ms n) h

pub among-first : (m : ℕ) (ms : List ℕ) → is_member (m ∷ ms) m ≡ true
among-first m ms = ap (λ b. b || is_member ms m) (eq-eqb m m refl)

-- One member more, by its place.

-- before all others
pub with-first : (n : ℕ) (ms : List ℕ) → ((m : ℕ) → is_member ms m ≡ true → n < m) → with_member n ms ≡ n ∷ ms
with-first n [] before = refl
with-first n (m ∷ ms) before = ap (λ b. cond b (n ∷ m ∷ ms) (cond (eqb m n) (m ∷ ms) (m ∷ with_member n ms))) (lt-ltb n m (before m (among-first m ms)))

-- where it is the first already
with-here : (n : ℕ) (ms : List ℕ) → with_member n (n ∷ ms) ≡ n ∷ ms
with-here n ms =
    ap (λ b. cond b (n ∷ n ∷ ms) (cond (eqb n n) (n ∷ ms) (n ∷ with_member n ms))) (le-ltb n n (omega arith))
    ∙ ap (λ b. cond b (n ∷ ms) (n ∷ with_member n ms)) (eq-eqb n n refl)

-- after a lesser one
pub with-later : (n m : ℕ) (ms : List ℕ) → m < n → with_member n (m ∷ ms) ≡ m ∷ with_member n ms
with-later n m ms less =
    ap (λ b. cond b (n ∷ m ∷ ms) (cond (eqb m n) (m ∷ ms) (m ∷ with_member n ms))) (le-ltb n m (omega (arith, less)))
    ∙ ap (λ b. cond b (m ∷ ms) (m ∷ with_member n ms)) (ne_eqb m n (λ e. omega (arith, e, less)))

-- after all others
pub with-last : (n : ℕ) (ms : List ℕ) → ((m : ℕ) → is_member ms m ≡ true → m < n) → with_member n ms ≡ ms ++ n ∷ []
with-last n [] after = refl
with-last n (m ∷ ms) after =
    with-later n m ms (after m (among-first m ms)) ∙ ap (λ (l : List ℕ). m ∷ l) (with-last n ms (λ k among. after k (among-later m k ms among)))

-- Numbers of a range that pass a test.

-- those in the list pass it
pub member-passes : (q : ℕ → Bool) (a n t : ℕ) → is_member (filter q (range_with_len a n)) t ≡ true → (q t ≡ true) × (a ≤ t)
member-passes q a zero t among = absurd (false≢true among)
member-passes q a (suc n) t among = by (λ later. let found = member-passes q (a + 1) n t later in (found.0, omega (arith, found.1))) (q a) refl among
  where
    by : (is_member (filter q (range_with_len (a + 1) n)) t ≡ true → (q t ≡ true) × (a ≤ t))
        → (b : Bool) → q a ≡ b → is_member (cond b (a ∷ filter q (range_with_len (a + 1) n)) (filter q (range_with_len (a + 1) n))) t ≡ true → (q t ≡ true) × (a ≤ t)
    by rest true passes among = elim (among-cases a t (filter q (range_with_len (a + 1) n)) among) [
      | inl here ↦ (subst (λ u. q u ≡ true) here passes, omega (arith, here))
      | inr later ↦ rest later
    ]
    by rest false fails among = rest among

-- and are in the range
pub member-below : (q : ℕ → Bool) (a n t : ℕ) → is_member (filter q (range_with_len a n)) t ≡ true → t < a + n
member-below q a zero t among = absurd (false≢true among)
member-below q a (suc n) t among = by (λ later. omega (arith, member-below q (a + 1) n t later)) (q a) among
  where
    by : (is_member (filter q (range_with_len (a + 1) n)) t ≡ true → t < a + suc n)
        → (b : Bool) → is_member (cond b (a ∷ filter q (range_with_len (a + 1) n)) (filter q (range_with_len (a + 1) n))) t ≡ true → t < a + suc n
    by rest true among = elim (among-cases a t (filter q (range_with_len (a + 1) n)) among) [ inl here ↦ omega (arith, here) | inr later ↦ rest later ]
    by rest false among = rest among

-- and those that pass it are in the list
pub member-there : (q : ℕ → Bool) (a n t : ℕ) → a ≤ t → t < a + n → q t ≡ true → is_member (filter q (range_with_len a n)) t ≡ true
member-there q a zero t from to passes = absurd (omega (arith, from, to))
member-there q a (suc n) t from to passes =
    by (filter q (range_with_len (a + 1) n)) (λ less. member-there q (a + 1) n t (omega (arith, less)) (omega (arith, to)) passes) (q a) refl (cases_order a t)
  where
    by : (xs : List ℕ) → (a < t → is_member xs t ≡ true) → (b : Bool) → q a ≡ b → (a ≡ t) ⊎ ((a < t) ⊎ (t < a)) → is_member (cond b (a ∷ xs) xs) t ≡ true
    by xs rest true passes (inl same) = subst (λ u. is_member (a ∷ xs) u ≡ true) same (among-first a xs)
    by xs rest false fails (inl same) = absurd (false≢true (sym fails ∙ (ap q same ∙ passes)))
    by xs rest true here (inr (inl less)) = among-later a t xs (rest less)
    by xs rest false here (inr (inl less)) = rest less
    by xs rest b here (inr (inr more)) = absurd (omega (arith, from, more))

-- nothing passes
pub filter-nothing : (q : ℕ → Bool) (a n : ℕ) → ((t : ℕ) → a ≤ t → q t ≡ false) → filter q (range_with_len a n) ≡ []
filter-nothing q a zero none = refl
filter-nothing q a (suc n) none = rw (none a (omega arith)) (filter-nothing q (a + 1) n (λ t from. none t (omega (arith, from))))

-- a longer range has no more of them if nothing after the shorter one passes
pub filter-longer : (q : ℕ → Bool) (a n m : ℕ) → n ≤ m → ((t : ℕ) → a + n ≤ t → q t ≡ false) → filter q (range_with_len a m) ≡ filter q (range_with_len a n)
filter-longer q a zero m le none = filter-nothing q a m (λ t from. none t (omega (arith, from)))
filter-longer q a (suc n) zero le none = absurd (omega (arith, le))
filter-longer q a (suc n) (suc m) le none =
    ap (λ (l : List ℕ). cond (q a) (a ∷ l) l) (filter-longer q (a + 1) n m (omega (arith, le)) (λ t from. none t (omega (arith, from))))

-- two tests that agree on a range
filter-same : (p q : ℕ → Bool) (a n : ℕ) → ((t : ℕ) → a ≤ t → q t ≡ p t) → filter q (range_with_len a n) ≡ filter p (range_with_len a n)
filter-same p q a zero same = refl
filter-same p q a (suc n) same =
    ap (λ b. cond b (a ∷ filter q (range_with_len (a + 1) n)) (filter q (range_with_len (a + 1) n))) (same a (omega arith))
    ∙ ap (λ (l : List ℕ). cond (p a) (a ∷ l) l) (filter-same p q (a + 1) n (λ t from. same t (omega (arith, from))))

-- one more passes
pub filter-with : (p q : ℕ → Bool) (a n at : ℕ) → a ≤ at → at < a + n → q at ≡ true → ((t : ℕ) → (t ≡ at → ⊥) → q t ≡ p t)
    → filter q (range_with_len a n) ≡ with_member at (filter p (range_with_len a n))
filter-with p q a zero at from to here same = absurd (omega (arith, from, to))
filter-with p q a (suc n) at from to here same =
    by (λ less. filter-with p q (a + 1) n at (omega (arith, less)) (omega (arith, to)) here same) (cases_order a at)
  where
    ps : List ℕ
    ps = filter p (range_with_len (a + 1) n)

    qs : List ℕ
    qs = filter q (range_with_len (a + 1) n)

    -- it is the first of the range
    first : a ≡ at → (b : Bool) → a ∷ ps ≡ with_member at (cond b (a ∷ ps) ps)
    first e true = sym (subst (λ k. with_member k (a ∷ ps) ≡ a ∷ ps) e (with-here a ps))
    first e false = sym (subst (λ k. with_member k ps ≡ k ∷ ps) e (with-first a ps (λ m among. omega (arith, (member-passes p (a + 1) n m among).1))) ∙ ap (λ k. k ∷ ps) (sym e))

    -- it is a later one
    later : a < at → qs ≡ with_member at ps → (b : Bool) → cond b (a ∷ qs) qs ≡ with_member at (cond b (a ∷ ps) ps)
    later less rest true = ap (λ (l : List ℕ). a ∷ l) rest ∙ sym (with-later at a ps less)
    later less rest false = rest

    by : (a < at → qs ≡ with_member at ps) → (a ≡ at) ⊎ ((a < at) ⊎ (at < a)) → cond (q a) (a ∷ qs) qs ≡ with_member at (cond (p a) (a ∷ ps) ps)
    by rest (inl e) =
        ap (λ b. cond b (a ∷ qs) qs) (ap q e ∙ here)
        ∙ (ap (λ (l : List ℕ). a ∷ l) (filter-same p q (a + 1) n (λ t more. same t (λ e'. omega (arith, e, e', more)))) ∙ first e (p a))
    by rest (inr (inl less)) = ap (λ b. cond b (a ∷ qs) qs) (same a (λ e. omega (arith, e, less))) ∙ later less (rest less) (p a)
    by rest (inr (inr more)) = absurd (omega (arith, from, more))

-- one passes no more
pub filter-without : (p q : ℕ → Bool) (at : ℕ) (xs : List ℕ) → q at ≡ false → ((t : ℕ) → (t ≡ at → ⊥) → q t ≡ p t)
    → filter q xs ≡ without_member at (filter p xs)
filter-without p q at [] here same = refl
filter-without p q at (x ∷ xs) here same = by (filter q xs) (filter p xs) (filter-without p q at xs here same) (eqb x at) refl
  where
    gone : (ys : List ℕ) → eqb x at ≡ true → (b : Bool) → without_member at ys ≡ without_member at (cond b (x ∷ ys) ys)
    gone ys same true = rw same refl
    gone ys same false = refl

    kept : (zs ys : List ℕ) → zs ≡ without_member at ys → eqb x at ≡ false → (b : Bool) → cond b (x ∷ zs) zs ≡ without_member at (cond b (x ∷ ys) ys)
    kept zs ys rest apart true = rw apart (ap (λ (l : List ℕ). x ∷ l) rest)
    kept zs ys rest apart false = rest

    by : (zs ys : List ℕ) → zs ≡ without_member at ys → (c : Bool) → eqb x at ≡ c → cond (q x) (x ∷ zs) zs ≡ without_member at (cond (p x) (x ∷ ys) ys)
    by zs ys rest true e = ap (λ b. cond b (x ∷ zs) zs) (ap q (eqb-true x at e) ∙ here) ∙ (rest ∙ gone ys e (p x))
    by zs ys rest false apart = ap (λ b. cond b (x ∷ zs) zs) (same x (λ e. false≢true (sym apart ∙ eq-eqb x at e))) ∙ kept zs ys rest apart (p x)

-- they ascend
pub filter-ascends : (q : ℕ → Bool) (a n : ℕ) → IsAscending (filter q (range_with_len a n))
filter-ascends q a zero = tt
filter-ascends q a (suc n) = by (filter-ascends q (a + 1) n) (q a)
  where
    by : IsAscending (filter q (range_with_len (a + 1) n)) → (b : Bool) → IsAscending (cond b (a ∷ filter q (range_with_len (a + 1) n)) (filter q (range_with_len (a + 1) n)))
    by rest true = (λ k among. omega (arith, (member-passes q (a + 1) n k among).1), rest)
    by rest false = rest

-- Members after a change.

-- the new one is a member
with-own : (n : ℕ) (ms : List ℕ) → is_member (with_member n ms) n ≡ true
with-own n [] = among-first n []
with-own n (m ∷ ms) = by (with-own n ms) (nat_lt n m) (eqb m n) refl
  where
    by : is_member (with_member n ms) n ≡ true → (b c : Bool) → eqb m n ≡ c → is_member (cond b (n ∷ m ∷ ms) (cond c (m ∷ ms) (m ∷ with_member n ms))) n ≡ true
    by rest true c same = among-first n (m ∷ ms)
    by rest false true same = subst (λ k. is_member (m ∷ ms) k ≡ true) (eqb-true m n same) (among-first m ms)
    by rest false false same = among-later m n (with_member n ms) rest

-- those before stay
with-others : (n k : ℕ) (ms : List ℕ) → is_member ms k ≡ true → is_member (with_member n ms) k ≡ true
with-others n k [] among = absurd (false≢true among)
with-others n k (m ∷ ms) among = by (λ later. with-others n k ms later) (nat_lt n m) (eqb m n)
  where
    by : (is_member ms k ≡ true → is_member (with_member n ms) k ≡ true) → (b c : Bool)
        → is_member (cond b (n ∷ m ∷ ms) (cond c (m ∷ ms) (m ∷ with_member n ms))) k ≡ true
    by rest true c = among-later n k (m ∷ ms) among
    by rest false true = among
    by rest false false = elim (among-cases m k ms among) [
      | inl here ↦ subst (λ j. is_member (m ∷ with_member n ms) j ≡ true) here (among-first m (with_member n ms))
      | inr later ↦ among-later m k (with_member n ms) (rest later)
    ]

-- and no other comes
with-none : (n k : ℕ) (ms : List ℕ) → is_member (with_member n ms) k ≡ true → (n ≡ k) ⊎ (is_member ms k ≡ true)
with-none n k [] among = elim (among-cases n k [] among) [ inl here ↦ inl here | inr later ↦ inr later ]
with-none n k (m ∷ ms) among = by (λ later. with-none n k ms later) (nat_lt n m) (eqb m n) among
  where
    by : (is_member (with_member n ms) k ≡ true → (n ≡ k) ⊎ (is_member ms k ≡ true)) → (b c : Bool) → is_member (cond b (n ∷ m ∷ ms) (cond c (m ∷ ms) (m ∷ with_member n ms))) k ≡ true → (n ≡ k) ⊎ (is_member (m ∷ ms) k ≡ true)
    by rest true c among = among-cases n k (m ∷ ms) among
    by rest false true among = inr among
    by rest false false among = elim (among-cases m k (with_member n ms) among) [
      | inl here ↦ inr (subst (λ j. is_member (m ∷ ms) j ≡ true) here (among-first m ms))
      | inr later ↦ elim (rest later) [ inl same ↦ inl same | inr before ↦ inr (among-later m k ms before) ]
    ]

pub member-with : (n m : ℕ) (ms : List ℕ) → IsTrue (is_member (with_member n ms) m) ↔ ((n ≡ m) ⊎ IsTrue (is_member ms m))
member-with n m ms = (with-none n m ms, back)
  where
    back : (n ≡ m) ⊎ (is_member ms m ≡ true) → is_member (with_member n ms) m ≡ true
    back (inl same) = subst (λ k. is_member (with_member n ms) k ≡ true) same (with-own n ms)
    back (inr before) = with-others n m ms before

-- what is taken away is none, and the others stay
without-both : (n k : ℕ) (ms : List ℕ) → is_member (without_member n ms) k ≡ true → (n ≡ k → ⊥) × (is_member ms k ≡ true)
without-both n k [] among = absurd (false≢true among)
without-both n k (m ∷ ms) among = by (λ rest. without-both n k ms rest) (eqb m n) refl among
  where
    by : (is_member (without_member n ms) k ≡ true → (n ≡ k → ⊥) × (is_member ms k ≡ true)) → (b : Bool) → eqb m n ≡ b
        → is_member (cond (not b) (m ∷ without_member n ms) (without_member n ms)) k ≡ true → (n ≡ k → ⊥) × (is_member (m ∷ ms) k ≡ true)
    by rest true same among = let found = rest among in (found.0, among-later m k ms found.1)
    by rest false apart among = elim (among-cases m k (without_member n ms) among) [
      | inl here ↦ (λ e. false≢true (sym apart ∙ eq-eqb m n (here ∙ sym e)), subst (λ j. is_member (m ∷ ms) j ≡ true) here (among-first m ms))
      | inr later ↦ let found = rest later in (found.0, among-later m k ms found.1)
    ]

without-kept : (n k : ℕ) (ms : List ℕ) → (n ≡ k → ⊥) → is_member ms k ≡ true → is_member (without_member n ms) k ≡ true
without-kept n k [] other among = absurd (false≢true among)
without-kept n k (m ∷ ms) other among = by (λ rest. without-kept n k ms other rest) (eqb m n) refl (among-cases m k ms among)
  where
    by : (is_member ms k ≡ true → is_member (without_member n ms) k ≡ true) → (b : Bool) → eqb m n ≡ b → (m ≡ k) ⊎ (is_member ms k ≡ true)
        → is_member (cond (not b) (m ∷ without_member n ms) (without_member n ms)) k ≡ true
    by rest true same (inl here) = absurd (other (sym (eqb-true m n same) ∙ here))
    by rest true same (inr later) = rest later
    by rest false apart (inl here) = subst (λ j. is_member (m ∷ without_member n ms) j ≡ true) here (among-first m (without_member n ms))
    by rest false apart (inr later) = among-later m k (without_member n ms) (rest later)

pub member-without : (n m : ℕ) (ms : List ℕ) → IsTrue (is_member (without_member n ms) m) ↔ ((n ≡ m → ⊥) × IsTrue (is_member ms m))
member-without n m ms = (without-both n m ms, λ both. without-kept n m ms both.0 both.1)
