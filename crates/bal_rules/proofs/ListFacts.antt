-- Lists of names and of placed objects: order, filters, and what is among them.
use Rattle.std.proofs.Common.{◌≡◌, ◌≤◌, ◌<◌, ◌+◌, inl, inr, ℕ, zero, suc, Bool, true, false, cond, ◌||◌, IsTrue, List, [], ◌∷◌, ◌++◌, length, filter, map, flat_map, refl, ap, ap₂, sym, subst, ◌∙◌, arith, eq-eqb, eqb-true}
use Rattle.std.specs.List.{range_with_len, AllByRecursion}
use Rattle.std.specs.Prelude.{◌==◌}
use Rattle.std.proofs.lemmas.Bool.{or_cases, or_left, or_right, cases_lt, false≢true}
use Rattle.std.proofs.lemmas.List.{get_or_past}
use Rattle.std.proofs.lemmas.List.Folds.{list_any-append}
use Rattle.bal_layout.specs.declared.name.Name.{Name}
use Rattle.bal_layout.specs.Regions.{is_in}
use Rattle.bal_rules.specs.Board.{Placed, names_placed}
use Rattle.bal_layout.specs.Names.{same_name, is_among}
use Rattle.bal_model.specs.Plain.{State, made_by}
use Rattle.bal_model.specs.Walk.{all_names}
pub use Rattle.bal_model.proofs.Lemmas.{ascending-after, ascending-filter, ascending-map-filter, ascending-rest, before-cases, ends-ascend}
use Rattle.bal_model.proofs.Lemmas.{is_among-head, is_among-tail, same_name-eq, same_name-refl}
use Rattle.bal_rules.specs.Sound.{IsMade}

-- a list with something in it isn't empty
pub not-empty : {A : Type 0} (xs : List A) (x : A) (ys : List A) → xs ++ x ∷ ys ≡ [] → ⊥
not-empty [] x ys h = cc
not-empty (y ∷ xs) x ys h = cc

-- Placed objects by name.

-- a filter by name is a filter of the names
pub names_placed-filter : (p : Name → Bool) (placed : List Placed) → names_placed (filter (λ q. p q.name) placed) ≡ filter p (names_placed placed)
names_placed-filter p [] = refl
names_placed-filter p (q ∷ placed) = by (p q.name) (names_placed-filter p placed)
  where
    by : (b : Bool) → names_placed (filter (λ q. p q.name) placed) ≡ filter p (names_placed placed)
        → names_placed (cond b (q ∷ filter (λ q. p q.name) placed) (filter (λ q. p q.name) placed)) ≡ cond b (q.name ∷ filter p (names_placed placed)) (filter p (names_placed placed))
    by true e = ap (λ (names : List Name). q.name ∷ names) e
    by false e = e

-- what moves objects leaves their names
pub names_placed-map : (f : Placed → Placed) → ((p : Placed) → (f p).name ≡ p.name) → (placed : List Placed) → names_placed (map f placed) ≡ names_placed placed
names_placed-map f h [] = refl
names_placed-map f h (p ∷ placed) = ap₂ (λ (x : Name) (names : List Name). x ∷ names) (h p) (names_placed-map f h placed)

-- the names of some of the placed objects are among those of all
pub among-placed-filter : (p : Placed → Bool) (placed : List Placed) (x : Name) → IsTrue (is_among x (names_placed (filter p placed))) → IsTrue (is_among x (names_placed placed))
among-placed-filter p [] x h = h
among-placed-filter p (q ∷ placed) x h = by (p q) h (among-placed-filter p placed x)
  where
    by : (b : Bool) → IsTrue (is_among x (names_placed (cond b (q ∷ filter p placed) (filter p placed))))
        → (IsTrue (is_among x (names_placed (filter p placed))) → IsTrue (is_among x (names_placed placed)))
        → IsTrue (same_name x q.name || is_among x (names_placed placed))
    by true h rest = elim (or_cases (same_name x q.name) (is_among x (names_placed (filter p placed))) h) [
      | inl here ↦ or_left (same_name x q.name) (is_among x (names_placed placed)) here
      | inr there ↦ or_right (same_name x q.name) (is_among x (names_placed placed)) (rest there)
    ]
    by false h rest = or_right (same_name x q.name) (is_among x (names_placed placed)) (rest h)

-- What holds of each name of a list holds of one among them.

pub all-among : (P : Name → Type 0) (xs : List Name) (x : Name) → AllByRecursion P xs → IsTrue (is_among x xs) → P x
all-among P [] x h i = absurd (false≢true i)
all-among P (y ∷ xs) x h i = elim (or_cases (same_name x y) (is_among x xs) i) [
  | inl here ↦ subst P (sym (same_name-eq x y here)) h.0
  | inr there ↦ all-among P xs x h.1 there
]

-- and what holds of each one among them holds of each
pub each-from_among : (P : Name → Type 0) (xs : List Name) → ((x : Name) → IsTrue (is_among x xs) → P x) → AllByRecursion P xs
each-from_among P [] h = tt
each-from_among P (x ∷ xs) h = (h x (is_among-head x xs), each-from_among P xs (λ y i. h y (is_among-tail y x xs i)))

-- The names of all objects.

is_in-range : (a n m : ℕ) → a ≤ m → m < a + n → IsTrue (is_in m (range_with_len a n))
is_in-range a zero m low high = absurd (omega arith)
is_in-range a (suc n) m low high = elim (cases_lt a m) [
  | inl more ↦ or_right (a == m) (is_in m (range_with_len (a + 1) n)) (is_in-range (a + 1) n m (omega arith) (omega arith))
  | inr same ↦ or_left (a == m) (is_in m (range_with_len (a + 1) n)) (eq-eqb a m (omega arith))
]

among-append_left : (x : Name) (xs ys : List Name) → IsTrue (is_among x xs) → IsTrue (is_among x (xs ++ ys))
among-append_left x xs ys h = list_any-append (same_name x) xs ys ∙ or_left (is_among x xs) (is_among x ys) h

among-append_right : (x : Name) (xs ys : List Name) → IsTrue (is_among x ys) → IsTrue (is_among x (xs ++ ys))
among-append_right x xs ys h = list_any-append (same_name x) xs ys ∙ or_right (is_among x xs) (is_among x ys) h

among-flat_map : (f : ℕ → List Name) (ts : List ℕ) (t : ℕ) (x : Name) → IsTrue (is_in t ts) → IsTrue (is_among x (f t)) → IsTrue (is_among x (flat_map f ts))
among-flat_map f [] t x i h = absurd (false≢true i)
among-flat_map f (u ∷ ts) t x i h = elim (or_cases (u == t) (is_in t ts) i) [
  | inl here ↦ among-append_left x (f u) (flat_map f ts) (subst (λ (v : ℕ). IsTrue (is_among x (f v))) (sym (eqb-true u t here)) h)
  | inr there ↦ among-append_right x (f u) (flat_map f ts) (among-flat_map f ts t x there h)
]

-- the names of a thread with these ordinals
abbrev names_with : ℕ → List ℕ → List Name
names_with t ordinals = map (λ o. record { thread = t; ordinal = o }) ordinals

among-names_with : (x : Name) (ordinals : List ℕ) → IsTrue (is_in x.ordinal ordinals) → IsTrue (is_among x (names_with x.thread ordinals))
among-names_with x [] i = absurd (false≢true i)
among-names_with x (o ∷ ordinals) i = elim (or_cases (o == x.ordinal) (is_in x.ordinal ordinals) i) [
  | inl here ↦ (
      let same : x ≡ record { thread = x.thread; ordinal = o } = ap (λ (n : ℕ). record { thread = x.thread; ordinal = n }) (sym (eqb-true o x.ordinal here)) in
      or_left (same_name x (record { thread = x.thread; ordinal = o })) (is_among x (names_with x.thread ordinals))
      (subst (λ (y : Name). IsTrue (same_name x y)) same (same_name-refl x))
      )
  | inr there ↦ or_right (same_name x (record { thread = x.thread; ordinal = o })) (is_among x (names_with x.thread ordinals)) (among-names_with x ordinals there)
]

-- a thread that has made something is one of the graph's
thread-within : (s : State) (t : ℕ) → 1 ≤ made_by s t → t < length s.mutators
thread-within s t h = elim (cases_lt t (length s.mutators)) [
  | inl within ↦ within
  | inr past ↦ (
      let none = ap (λ m. length m.made) (get_or_past s.mutators t (record { registers = []; made = [] }) past) in
      absurd (omega (arith, none))
      )
]

-- the name of an object that was made is one of all names
pub made-among : (s : State) (x : Name) → IsMade s x → IsTrue (is_among x (all_names s))
made-among s x h =
    let first : 1 ≤ x.ordinal = h.first in
    let last : x.ordinal ≤ made_by s x.thread = h.last in
    among-flat_map (λ t. names_with t (range_with_len 1 (made_by s t))) (range_with_len 0 (length s.mutators)) x.thread x
    (is_in-range 0 (length s.mutators) x.thread (omega arith) (let within = thread-within s x.thread (omega arith) in omega arith))
    (among-names_with x (range_with_len 1 (made_by s x.thread)) (is_in-range 1 (made_by s x.thread) x.ordinal first (omega arith)))
