-- Sums over names that are apart. Where each of them is in a list, the sum over the list is no less; and it is the same where
-- the list is no longer.
use Rattle.std.proofs.Common.{◌≡◌, ◌≤◌, ◌+◌, inl, inr, ℕ, false, List, [], ◌∷◌, ◌++◌, length, ap, sym, ◌∙◌, arith, length-append}
use Rattle.std.specs.List.{AllByRecursion, IsDistinct, sum_by}
use Rattle.std.specs.Prelude.{IsTrue}
use Rattle.std.proofs.lemmas.Bool.{false≢true, or_cases, or_left, or_right}
use Rattle.std.proofs.lemmas.List.Sums.{sum_by-append, sum_by-cons}
use Rattle.std.proofs.lemmas.Map.Keys.{IsDistinct-head, IsDistinct-tail}
use Rattle.bal_layout.specs.Names.{is_among, same_name}
use Rattle.bal_layout.specs.declared.name.Name.{Name}
use Rattle.bal_model.proofs.Lemmas.{same_name-eq}
use Rattle.bal_rules.proofs.Distinct.{same-laws}
use Rattle.bal_rules.proofs.Each.{each-both, each-goes}

-- a name in a list, and what stands before and behind it
record Parted (x : Name) (ys : List Name) : Type 0 where
  front : List Name
  behind : List Name
  is : ys ≡ front ++ x ∷ behind

parted : (x : Name) (ys : List Name) → IsTrue (is_among x ys) → Parted x ys
parted x [] h = absurd (false≢true h)
parted x (y ∷ ys) h = elim (or_cases (same_name x y) (is_among x ys) h) [
  | inl here ↦ record { front = []; behind = ys; is = ap (λ (z : Name). z ∷ ys) (sym (same_name-eq x y here)) }
  | inr later ↦ (let rest = parted x ys later in record { front = y ∷ rest.front; behind = rest.behind; is = ap (λ (zs : List Name). y ∷ zs) rest.is })
]

-- another name is in what is left of the list
among-others : (x y : Name) (front behind : List Name) → same_name y x ≡ false → IsTrue (is_among y (front ++ x ∷ behind)) → IsTrue (is_among y (front ++ behind))
among-others x y [] behind other h = elim (or_cases (same_name y x) (is_among y behind) h) [
  | inl here ↦ absurd (false≢true (sym other ∙ here))
  | inr later ↦ later
]
among-others x y (z ∷ front) behind other h = elim (or_cases (same_name y z) (is_among y (front ++ x ∷ behind)) h) [
  | inl here ↦ or_left (same_name y z) (is_among y (front ++ behind)) here
  | inr later ↦ or_right (same_name y z) (is_among y (front ++ behind)) (among-others x y front behind other later)
]

pub record AreSumsOf (f : Name → ℕ) (xs ys : List Name) : Type 0 where
  pub part : sum_by f xs ≤ sum_by f ys
  pub whole : length ys ≤ length xs → sum_by f ys ≤ sum_by f xs

pub apart-sums : (f : Name → ℕ) (xs ys : List Name) → IsDistinct same_name xs → AllByRecursion (λ (x : Name). IsTrue (is_among x ys)) xs → AreSumsOf f xs ys
apart-sums f [] ys apart each = record { part = omega arith; whole = none ys }
  where
    none : (ys : List Name) → length ys ≤ 0 → sum_by f ys ≤ 0
    none [] h = omega arith
    none (y ∷ ys) h = absurd (omega arith)
apart-sums f (x ∷ xs) ys apart each =
    let at = parted x ys each.0 in
    let there : AllByRecursion (λ (y : Name). IsTrue (is_among y (at.front ++ at.behind))) xs =
    each-goes (λ (y : Name). (same_name x y ≡ false) × IsTrue (is_among y ys)) (λ (y : Name). IsTrue (is_among y (at.front ++ at.behind)))
    (λ y h. among-others x y at.front at.behind (same-laws.symm y x ∙ h.0) (sym (ap (is_among y) at.is) ∙ h.1)) xs
    (each-both (λ (y : Name). same_name x y ≡ false) (λ (y : Name). IsTrue (is_among y ys)) xs (IsDistinct-head same_name x xs apart) each.1) in
    let rest = apart-sums f xs (at.front ++ at.behind) (IsDistinct-tail same_name x xs apart) there in
    let first : sum_by f (x ∷ xs) ≡ f x + sum_by f xs = sum_by-cons f x xs in
    let all : sum_by f ys ≡ sum_by f at.front + (f x + sum_by f at.behind) =
    ap (sum_by f) at.is ∙ (sum_by-append f at.front (x ∷ at.behind) ∙ ap (λ (n : ℕ). sum_by f at.front + n) (sum_by-cons f x at.behind)) in
    let others : sum_by f (at.front ++ at.behind) ≡ sum_by f at.front + sum_by f at.behind = sum_by-append f at.front at.behind in
    let long : length ys ≡ length at.front + length (x ∷ at.behind) = ap length at.is ∙ length-append at.front (x ∷ at.behind) in
    let short : length (at.front ++ at.behind) ≡ length at.front + length at.behind = length-append at.front at.behind in
    let less : sum_by f xs ≤ sum_by f (at.front ++ at.behind) = rest.part in
    record {
      part = omega (arith, first, all, others, less);
      whole = λ few.
          let same : sum_by f (at.front ++ at.behind) ≤ sum_by f xs = rest.whole (omega (arith, few, long, short)) in
          omega (arith, first, all, others, same);
    }
