-- Starts that lie one after the other, of which some are left out.
use Rattle.std.proofs.Common.{◌≡◌, ℕ, ◌+◌, ◌<◌, ◌≤◌, ◌⊎◌, inl, inr, Bool, true, false, cond, eqb, not, List, [], ◌∷◌, ◌++◌, length, Option, Some, None, refl, ap, sym, subst, ◌∙◌, arith}
use Rattle.std.specs.Prelude.{◌&&◌, ◌||◌, nat_le}
use Rattle.std.specs.List.{cons_option}
use Rattle.std.specs.List.{filter, filter_map, find, sum_by}
use Rattle.std.proofs.lemmas.Bool.{eq-eqb, eqb-true, false≢true, ne_eqb}
use Rattle.std.proofs.lemmas.List.Sums.{sum_by-cons}
use Rattle.bal_base.proofs.Lemmas.{among-cases, among-first, among-later}
use Rattle.bal_layout.specs.Regions.{is_in}
use Rattle.bal_region.specs.Land.{Laid, size_at}
use Rattle.bal_region.proofs.Lemmas.{laid-each, size-two}
use Rattle.bal_words.proofs.Lemmas.{same-or}

-- those that pass a test are among those that are left
pub in-filter : (p : ℕ → Bool) (xs : List ℕ) (s : ℕ) → is_in s (filter p xs) ≡ (p s && is_in s xs)
in-filter p [] s = none (p s)
  where
    none : (b : Bool) → false ≡ (b && false)
    none true = refl
    none false = refl
in-filter p (x ∷ xs) s = by (filter p xs) (is_in s xs) (in-filter p xs s) (eqb x s) refl (p x) refl (p s) refl
  where
    by : (ys : List ℕ) (among : Bool) → is_in s ys ≡ (p s && among) → (c : Bool) → eqb x s ≡ c → (b : Bool) → p x ≡ b → (d : Bool) → p s ≡ d
        → is_in s (cond b (x ∷ ys) ys) ≡ (d && (c || among))
    by ys among rest true same true passes true is = ap (λ e. e || is_in s ys) same
    by ys among rest true same true passes false is = absurd (false≢true (sym is ∙ (ap p (sym (eqb-true x s same)) ∙ passes)))
    by ys among rest true same false fails true is = absurd (false≢true (sym fails ∙ (ap p (eqb-true x s same) ∙ is)))
    by ys among rest true same false fails false is = rest ∙ ap (λ e. e && among) is
    by ys among rest false other true passes true is = ap (λ e. e || is_in s ys) other ∙ (rest ∙ ap (λ e. e && among) is)
    by ys among rest false other true passes false is = ap (λ e. e || is_in s ys) other ∙ (rest ∙ ap (λ e. e && among) is)
    by ys among rest false other false fails true is = rest ∙ ap (λ e. e && among) is
    by ys among rest false other false fails false is = rest ∙ ap (λ e. e && among) is

-- a member on one side of a list
pub in-front : (xs ys : List ℕ) (s : ℕ) → is_in s xs ≡ true → is_in s (xs ++ ys) ≡ true
in-front [] ys s among = absurd (false≢true among)
in-front (x ∷ xs) ys s among = elim (among-cases x s xs among) [
  | inl here ↦ subst (λ n. is_in n (x ∷ xs ++ ys) ≡ true) here (among-first x (xs ++ ys))
  | inr later ↦ among-later x s (xs ++ ys) (in-front xs ys s later)
]

pub in-middle : (xs ys : List ℕ) (s : ℕ) → is_in s (xs ++ s ∷ ys) ≡ true
in-middle [] ys s = among-first s ys
in-middle (x ∷ xs) ys s = among-later x s (xs ++ s ∷ ys) (in-middle xs ys s)

-- all pass
pub filter-keeps : (p : ℕ → Bool) (xs : List ℕ) → ((s : ℕ) → is_in s xs ≡ true → p s ≡ true) → filter p xs ≡ xs
filter-keeps p [] all = refl
filter-keeps p (x ∷ xs) all = rw (all x (among-first x xs)) (ap (λ (l : List ℕ). x ∷ l) (filter-keeps p xs (λ s among. all s (among-later x s xs among))))

-- one is taken away between those before it and those behind it
pub without-middle : (xs ys : List ℕ) (o : ℕ) → ((s : ℕ) → is_in s xs ≡ true → s < o) → ((s : ℕ) → is_in s ys ≡ true → o < s)
    → filter (λ s. not (eqb s o)) (xs ++ o ∷ ys) ≡ xs ++ ys
without-middle [] ys o before behind =
    ap (λ b. cond (not b) (o ∷ filter (λ s. not (eqb s o)) ys) (filter (λ s. not (eqb s o)) ys)) (eqb-refl o)
    ∙ filter-keeps (λ s. not (eqb s o)) ys (λ s among. ap not (ne_eqb s o (λ e. omega (arith, e, behind s among))))
  where
    eqb-refl : (n : ℕ) → eqb n n ≡ true
    eqb-refl n = grind arith
without-middle (x ∷ xs) ys o before behind =
    rw (ne_eqb x o (λ e. omega (arith, e, before x (among-first x xs))))
    (ap (λ (l : List ℕ). x ∷ l) (without-middle xs ys o (λ s among. before s (among-later x s xs among)) behind))

-- the first from a number on is not one of those before it
pub find-behind : (next : ℕ) (xs ys : List ℕ) → ((s : ℕ) → is_in s xs ≡ true → s < next) → find (λ s. nat_le next s) (xs ++ ys) ≡ find (λ s. nat_le next s) ys
find-behind next [] ys before = refl
find-behind next (x ∷ xs) ys before =
    rw (gt-leb next x (before x (among-first x xs))) (find-behind next xs ys (λ s among. before s (among-later x s xs among)))
  where
    gt-leb : (a b : ℕ) → b < a → nat_le a b ≡ false
    gt-leb a b less = grind (arith, less)

-- it is the first of those behind it, if there are any
pub find-first : (next s : ℕ) (ss : List ℕ) → next ≤ s → find (λ s. nat_le next s) (s ∷ ss) ≡ Some s
find-first next s ss from = rw (le-leb next s from) refl
  where
    le-leb : (a b : ℕ) → a ≤ b → nat_le a b ≡ true
    le-leb a b h = grind (arith, h)

-- fewer are no more
pub sum-fewer : (f : ℕ → ℕ) (p : ℕ → Bool) (xs : List ℕ) → sum_by f (filter p xs) ≤ sum_by f xs
sum-fewer f p [] = omega arith
sum-fewer f p (x ∷ xs) = by (filter p xs) (p x) (sum-fewer f p xs)
  where
    by : (ys : List ℕ) (b : Bool) → sum_by f ys ≤ sum_by f xs → sum_by f (cond b (x ∷ ys) ys) ≤ sum_by f (x ∷ xs)
    by ys true rest = omega (arith, rest, sum_by-cons f x ys, sum_by-cons f x xs)
    by ys false rest = omega (arith, rest, sum_by-cons f x xs)

pub length-some : {A : Type 0} (h : ℕ → Option A) (xs : List ℕ) → length (filter_map h xs) ≤ length xs
length-some h [] = omega arith
length-some {A} h (x ∷ xs) = by (filter_map h xs) (h x) (length-some h xs)
  where
    by : (ys : List A) (o : Option A) → length ys ≤ length xs → length (cons_option o ys) ≤ length (x ∷ xs)
    by ys None rest = omega (arith, rest)
    by ys (Some y) rest = omega (arith, rest)

-- a test of two numbers from either side
pub eqb-flip : (k n : ℕ) → eqb k n ≡ eqb n k
eqb-flip k n = by (same-or k n)
  where
    by : (k ≡ n) ⊎ (k ≡ n → ⊥) → eqb k n ≡ eqb n k
    by (inl same) = eq-eqb k n same ∙ sym (eq-eqb n k (sym same))
    by (inr other) = ne_eqb k n other ∙ sym (ne_eqb n k (λ e. other (sym e)))

-- Objects that lie one after the other.

-- they take no more words than there are
pub laid-sum : (words : List ℕ) (from : ℕ) (ss : List ℕ) (end : ℕ) → Laid words from ss end → from + sum_by (size_at words) ss ≤ end
laid-sum words from [] end laid = omega (arith, laid)
laid-sum words from (s ∷ ss) end laid = omega (arith, laid.0, sum_by-cons (size_at words) s ss, laid-sum words (s + size_at words s) ss end laid.2)

-- each starts before those behind it
pub laid-behind : (words : List ℕ) (from : ℕ) (xs : List ℕ) (s : ℕ) (ss : List ℕ) (end : ℕ) → Laid words from (xs ++ s ∷ ss) end → (r : ℕ) → is_in r ss ≡ true → s < r
laid-behind words from [] s ss end laid r among =
    omega (arith, (laid-each words (s + size_at words s) ss end r laid.2 among).0, size-two words s laid.1)
laid-behind words from (x ∷ xs) s ss end laid r among = laid-behind words (x + size_at words x) xs s ss end laid.2 r among
