-- Sums over lists in which no name stands twice: if they have the same names, the sums are one.
use Rattle.std.proofs.Common.{◌≡◌, ◌+◌, ◌⊎◌, inl, inr, ℕ, Bool, true, false, not, cond, eqb, IsTrue, List, [], ◌∷◌, filter, map, refl, ap, sym, subst, ◌∙◌, arith}
use Rattle.std.specs.List.{AllByRecursion, IsDistinct, sum_by}
use Rattle.std.proofs.lemmas.Bool.{eq-eqb, false_from_ne_true, false≢true, or_cases}
use Rattle.std.proofs.lemmas.List.Sums.{sum_by-cons}
use Rattle.std.proofs.lemmas.Map.Keys.{IsDistinct-cons, IsDistinct-head, IsDistinct-tail}
use Rattle.bal_layout.specs.Names.{is_among, is_before, same_name}
use Rattle.bal_layout.specs.declared.name.Name.{Name}
use Rattle.bal_model.specs.Ascending.{IsAscending}
use Rattle.bal_model.proofs.Lemmas.{from-filter, in-filter, is_among-head, is_among-tail, same-flips, same_name-eq}
use Rattle.bal_rules.proofs.Lemmas.{all-among, ascending-after, ascending-filter, ascending-rest, before-other, each-both, each-goes, each-map}

-- the names without this one
abbrev without : Name → List Name → List Name
without x ys = filter (λ y. not (same_name x y)) ys

without-none : (x : Name) (ys : List Name) → AllByRecursion (λ (y : Name). same_name x y ≡ false) ys → without x ys ≡ ys
without-none x [] apart = refl
without-none x (y ∷ ys) apart =
    ap (λ (t : Bool). cond (not t) (y ∷ without x ys) (without x ys)) apart.0 ∙ ap (λ (l : List Name). y ∷ l) (without-none x ys apart.1)

sum-without : (f : Name → ℕ) (x : Name) (ys : List Name) → IsAscending ys → IsTrue (is_among x ys) → sum_by f ys ≡ f x + sum_by f (without x ys)
sum-without f x [] up among = absurd (false≢true among)
sum-without f x (y ∷ ys) up among =
    by (same_name x y) refl (or_cases (same_name x y) (is_among x ys) among) (sum-without f x ys (ascending-rest y ys up))
  where
    by : (t : Bool) → same_name x y ≡ t → IsTrue (same_name x y) ⊎ IsTrue (is_among x ys)
        → (IsTrue (is_among x ys) → sum_by f ys ≡ f x + sum_by f (without x ys))
        → sum_by f (y ∷ ys) ≡ f x + sum_by f (cond (not t) (y ∷ without x ys) (without x ys))
    by true is either rest =
        let name : x ≡ y = same_name-eq x y is in
        let none : without x ys ≡ ys = without-none x ys
        (each-goes (λ (z : Name). IsTrue (is_before y z)) (λ (z : Name). same_name x z ≡ false)
        (λ z before. subst (λ (w : Name). same_name w z ≡ false) (sym name) (before-other y z before)) ys (ascending-after y ys up)) in
        let first : f y ≡ f x = ap f (sym name) in
        let later : sum_by f (without x ys) ≡ sum_by f ys = ap (sum_by f) none in
        let all : sum_by f (y ∷ ys) ≡ f y + sum_by f ys = sum_by-cons f y ys in
        omega (arith, first, later, all)
    by false is (inl here) rest = absurd (false≢true (sym is ∙ here))
    by false is (inr there) rest =
        let later : sum_by f ys ≡ f x + sum_by f (without x ys) = rest there in
        let all : sum_by f (y ∷ ys) ≡ f y + sum_by f ys = sum_by-cons f y ys in
        let left : sum_by f (y ∷ without x ys) ≡ f y + sum_by f (without x ys) = sum_by-cons f y (without x ys) in
        omega (arith, later, all, left)

pub sum-members : (f : Name → ℕ) (xs ys : List Name) → IsDistinct same_name xs → IsAscending ys
    → ((x : Name) → IsTrue (is_among x xs) → IsTrue (is_among x ys)) → ((x : Name) → IsTrue (is_among x ys) → IsTrue (is_among x xs))
    → sum_by f ys ≡ sum_by f xs
sum-members f [] [] apart up to from = refl
sum-members f [] (y ∷ ys) apart up to from = absurd (false≢true (from y (is_among-head y ys)))
sum-members f (x ∷ xs) ys apart up to from =
    let first : sum_by f ys ≡ f x + sum_by f (without x ys) = sum-without f x ys up (to x (is_among-head x xs)) in
    let rest : sum_by f (without x ys) ≡ sum_by f xs
    = sum-members f xs (without x ys) (IsDistinct-tail same_name x xs apart) (ascending-filter (λ y. not (same_name x y)) ys up)
    (λ z among. in-filter (λ y. not (same_name x y)) ys z
    (ap not (all-among (λ (y : Name). same_name x y ≡ false) xs z (IsDistinct-head same_name x xs apart) among))
    (to z (is_among-tail z x xs among)))
    (λ z among.
    let parts = from-filter (λ y. not (same_name x y)) ys z among in
    elim (or_cases (same_name z x) (is_among z xs) (from z parts.1)) [
      | inl same ↦ absurd (false≢true (sym (ap not (same-flips x z ∙ same)) ∙ parts.0))
      | inr there ↦ there
    ]) in
    let all : sum_by f (x ∷ xs) ≡ f x + sum_by f xs = sum_by-cons f x xs in
    omega (arith, first, rest, all)

-- names of distinct numbers are distinct, if no two of the numbers have one name
pub distinct-named : (g : ℕ → Name) (P : ℕ → Type 0) → ((j k : ℕ) → P j → P k → g j ≡ g k → j ≡ k) → (ks : List ℕ) → AllByRecursion P ks
    → IsDistinct eqb ks → IsDistinct same_name (map g ks)
unfolding IsDistinct
distinct-named g P one [] each apart = tt
distinct-named g P one (k ∷ ks) each apart =
    IsDistinct-cons same_name (g k) (map g ks)
    (each-map (λ (j : ℕ). (eqb k j ≡ false) × P j) (λ (x : Name). same_name (g k) x ≡ false) g
    (λ j h. false_from_ne_true (same_name (g k) (g j)) (λ same.
    false≢true (sym h.0 ∙ eq-eqb k j (one k j each.0 h.1 (same_name-eq (g k) (g j) same)))))
    ks (each-both (λ (j : ℕ). eqb k j ≡ false) P ks (IsDistinct-head eqb k ks apart) each.1))
    (distinct-named g P one ks each.1 (IsDistinct-tail eqb k ks apart))
