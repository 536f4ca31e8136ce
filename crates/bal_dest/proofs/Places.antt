-- The last place at which a number stands in a list.
use Rattle.std.proofs.Common.{◌≡◌, ℕ, zero, suc, ◌+◌, ◌-◌, ◌<◌, ◌≤◌, ◌⊎◌, inl, inr, Bool, true, false, cond, eqb, leb, List, [], ◌∷◌, ◌++◌, length, get_or, set, Option, Some, None, option_map, refl, ap, sym, ◌∙◌, arith}
use Rattle.std.specs.Option.{option_or}
use Rattle.std.proofs.lemmas.Bool.{cases_order, eq-eqb, eqb-true, false≢true, leb-false, leb-true, ne_eqb}
use Rattle.std.proofs.lemmas.Option.{none-some, same_Some}
use Rattle.std.proofs.lemmas.Grind.{get_or-set_at}
use Rattle.std.proofs.lemmas.List.{get_or-set_other}
use Rattle.bal_dest.specs.Buffers.{last_place}
use Rattle.bal_dest.specs.Kept.{left_place}

-- the place in a list by that in the rest, and by whether the number stands in front
abbrev step : Option ℕ → Bool → Option ℕ
step rest here = option_or (option_map (λ place. place + 1) rest) (cond here (Some 0) None)

-- where there is none, the number stands nowhere
pub last-none : (n : ℕ) (ms : List ℕ) → last_place n ms ≡ None → (i : ℕ) → i < length ms → get_or ms i 0 ≡ n → ⊥
unfolding last_place
last-none n [] e i less is = absurd (omega (arith, less))
last-none n (m ∷ ms) e i less is = by (last_place n ms) (eqb m n) (last-none n ms) (λ same. eq-eqb m n same) e i less is
  where
    by : (rest : Option ℕ) (here : Bool) → (rest ≡ None → (i : ℕ) → i < length ms → get_or ms i 0 ≡ n → ⊥) → (m ≡ n → here ≡ true) → step rest here ≡ None
        → (i : ℕ) → i < length (m ∷ ms) → get_or (m ∷ ms) i 0 ≡ n → ⊥
    by (Some p) here later first e i less is = none-some (p + 1) (sym e)
    by None true later first e i less is = none-some 0 (sym e)
    by None false later first e zero less is = false≢true (first is)
    by None false later first e (suc i) less is = later refl i (omega (arith, less)) is

-- what stands there is the number, and it stands no later
abbrev pub LastAt : ℕ → List ℕ → ℕ → Type 0
LastAt n ms p = (p < length ms) × (get_or ms p 0 ≡ n) × ((i : ℕ) → i < length ms → get_or ms i 0 ≡ n → i ≤ p)

pub last-some : (n : ℕ) (ms : List ℕ) (p : ℕ) → last_place n ms ≡ Some p → LastAt n ms p
unfolding last_place
last-some n [] p e = absurd (none-some p e)
last-some n (m ∷ ms) p e = by (last_place n ms) (eqb m n) (λ q. last-some n ms q) (last-none n ms) (eqb-true m n) p e
  where
    later : (q : ℕ) → LastAt n ms q → LastAt n (m ∷ ms) (suc q)
    later q last = (omega (arith, last.0), last.1, onward)
      where
        onward : (i : ℕ) → i < length (m ∷ ms) → get_or (m ∷ ms) i 0 ≡ n → i ≤ suc q
        onward zero less is = omega arith
        onward (suc i) less is = omega (arith, last.2 i (omega (arith, less)) is)

    first : (m ≡ n) → ((i : ℕ) → i < length ms → get_or ms i 0 ≡ n → ⊥) → LastAt n (m ∷ ms) 0
    first is none = (omega arith, is, onward)
      where
        onward : (i : ℕ) → i < length (m ∷ ms) → get_or (m ∷ ms) i 0 ≡ n → i ≤ 0
        onward zero less is = omega arith
        onward (suc i) less is = absurd (none i (omega (arith, less)) is)

    by : (rest : Option ℕ) (here : Bool) → ((q : ℕ) → rest ≡ Some q → LastAt n ms q) → (rest ≡ None → (i : ℕ) → i < length ms → get_or ms i 0 ≡ n → ⊥)
        → (here ≡ true → m ≡ n) → (p : ℕ) → step rest here ≡ Some p → LastAt n (m ∷ ms) p
    by (Some q) here some none is zero e = absurd (omega (arith, same_Some (q + 1) 0 e))
    by (Some q) here some none is (suc p) e = later p (some p (ap (λ k. Some k) (omega (arith, same_Some (q + 1) (suc p) e))))
    by None true some none is zero e = first (is refl) (none refl)
    by None true some none is (suc p) e = absurd (omega (arith, same_Some 0 (suc p) e))
    by None false some none is p e = absurd (none-some p e)

-- a number more at the end
pub last-added : (n : ℕ) (ms : List ℕ) (m : ℕ) → last_place n (ms ++ m ∷ []) ≡ cond (eqb m n) (Some (length ms)) (last_place n ms)
unfolding last_place
last-added n [] m = refl
last-added n (k ∷ ms) m = ap (λ rest. step rest (eqb k n)) (last-added n ms m) ∙ by (eqb m n) (last_place n ms)
  where
    by : (here : Bool) (rest : Option ℕ) → step (cond here (Some (length ms)) rest) (eqb k n) ≡ cond here (Some (length (k ∷ ms))) (step rest (eqb k n))
    by true rest = ap (λ q. Some q) (omega arith)
    by false rest = refl

-- the first number leaves
pub last-left : (taken : ℕ) (number : Option ℕ) (n m : ℕ) (ms : List ℕ) → left_place taken number ≡ last_place n (m ∷ ms) → left_place (taken + 1) number ≡ last_place n ms
unfolding last_place
last-left taken number n m ms e = by number (last_place n ms) (eqb m n) e
  where
    gone : (rest : Option ℕ) (here : Bool) → None ≡ step rest here → None ≡ rest
    gone None here e = refl
    gone (Some p) here e = absurd (none-some (p + 1) e)

    left : (k : ℕ) (rest : Option ℕ) (here b c : Bool) → leb taken k ≡ b → leb (taken + 1) k ≡ c → cond b (Some (k - taken)) None ≡ step rest here
        → cond c (Some (k - (taken + 1))) None ≡ rest
    left k rest here false false before after e = gone rest here e
    left k rest here false true before after e = absurd (omega (arith, leb-false taken k before, leb-true (taken + 1) k after))
    left k None here true false before after e = refl
    left k (Some p) here true false before after e = absurd (omega (arith, same_Some (k - taken) (p + 1) e, leb-false (taken + 1) k after))
    left k None true true true before after e = absurd (omega (arith, same_Some (k - taken) 0 e, leb-true (taken + 1) k after))
    left k None false true true before after e = absurd (none-some (k - taken) (sym e))
    left k (Some p) here true true before after e = ap (λ q. Some q) (omega (arith, same_Some (k - taken) (p + 1) e))

    by : (number rest : Option ℕ) (here : Bool) → left_place taken number ≡ step rest here → left_place (taken + 1) number ≡ rest
    by None rest here e = gone rest here e
    by (Some k) rest here e = left k rest here (leb taken k) (leb (taken + 1) k) refl refl e

pub same-or : (a b : ℕ) → (a ≡ b) ⊎ (a ≡ b → ⊥)
same-or a b = elim (cases_order a b) [
  | inl same ↦ inl same
  | inr other ↦ elim other [ inl less ↦ inr (λ e. omega (arith, e, less)) | inr more ↦ inr (λ e. omega (arith, e, more)) ]
]

-- A table of such places, counted among all that there ever were.

number-there : (taken k : ℕ) → left_place taken (Some (taken + k)) ≡ Some k
number-there taken k = by (leb taken (taken + k)) refl
  where
    by : (b : Bool) → leb taken (taken + k) ≡ b → cond b (Some (taken + k - taken)) None ≡ Some k
    by false e = absurd (omega (arith, leb-false taken (taken + k) e))
    by true e = ap (λ q. Some q) (omega arith)

-- one more is entered
pub table-added : (table : List (Option ℕ)) (taken age n : ℕ) (ages : List ℕ) → age < length table → left_place taken (get_or table n None) ≡ last_place n ages
    → left_place taken (get_or (set table age (Some (taken + length ages))) n None) ≡ last_place n (ages ++ age ∷ [])
table-added table taken age n ages less e = by (same-or n age) ∙ sym (last-added n ages age)
  where
    by : (n ≡ age) ⊎ (n ≡ age → ⊥) → left_place taken (get_or (set table age (Some (taken + length ages))) n None) ≡ cond (eqb age n) (Some (length ages)) (last_place n ages)
    by (inl same) =
        ap (left_place taken) (get_or-set_at table age n (Some (taken + length ages)) None same less)
        ∙ (number-there taken (length ages) ∙ ap (λ b. cond b (Some (length ages)) (last_place n ages)) (sym (eq-eqb age n (sym same))))
    by (inr other) =
        ap (left_place taken) (get_or-set_other table age n (Some (taken + length ages)) None other)
        ∙ (e ∙ ap (λ b. cond b (Some (length ages)) (last_place n ages)) (sym (ne_eqb age n (λ same. other (sym same)))))
