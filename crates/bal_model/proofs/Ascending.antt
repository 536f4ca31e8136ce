-- Names in order, and that the names of all objects are.
use Rattle.std.proofs.Common.{◌≡◌, ◌≤◌, ◌<◌, ◌+◌, ◌⊎◌, inl, inr, ℕ, zero, suc, Bool, true, false, cond, ◌&&◌, IsTrue, List, [], ◌∷◌, ◌++◌, length, filter, map, flat_map, refl, sym, subst, ◌∙◌, arith, eq-eqb, eqb-true, lt-ltb, ltb-true, map-id}
use Rattle.std.specs.List.{range_with_len, AllByRecursion}
use Rattle.std.specs.Prelude.{◌==◌, nat_lt}
use Rattle.std.proofs.lemmas.Bool.{and_parts, and_from, or_cases, or_left, or_right}
use Rattle.bal_layout.specs.declared.name.Name.{Name}
use Rattle.bal_layout.specs.Names.{is_among, is_before}
use Rattle.bal_model.specs.Ascending.{IsAscending}
use Rattle.bal_model.specs.Plain.{State, made_by}
use Rattle.bal_model.specs.Walk.{Ground, all_names, ends_of_walks, graph_ground, reachable}
use Rattle.bal_model.proofs.NameFacts.{names_by}
use Rattle.bal_model.proofs.Walks.{ends-filter}

-- The order of names.

-- one name goes before another by thread, or by ordinal in one thread
pub before-cases : (a b : Name) → IsTrue (is_before a b) → (a.thread < b.thread) ⊎ ((a.thread ≡ b.thread) × (a.ordinal < b.ordinal))
before-cases a b h = elim (or_cases (nat_lt a.thread b.thread) ((a.thread == b.thread) && nat_lt a.ordinal b.ordinal) h) [
  | inl lower ↦ inl (ltb-true a.thread b.thread lower)
  | inr same ↦ (
      let parts = and_parts (a.thread == b.thread) (nat_lt a.ordinal b.ordinal) same in
      inr (eqb-true a.thread b.thread parts.0, ltb-true a.ordinal b.ordinal parts.1)
      )
]

before-by_thread : (a b : Name) → a.thread < b.thread → IsTrue (is_before a b)
before-by_thread a b h = or_left (nat_lt a.thread b.thread) ((a.thread == b.thread) && nat_lt a.ordinal b.ordinal) (lt-ltb a.thread b.thread h)

before-by_ordinal : (a b : Name) → a.thread ≡ b.thread → a.ordinal < b.ordinal → IsTrue (is_before a b)
before-by_ordinal a b e h = or_right (nat_lt a.thread b.thread) ((a.thread == b.thread) && nat_lt a.ordinal b.ordinal)
    (and_from (a.thread == b.thread) (nat_lt a.ordinal b.ordinal) (eq-eqb a.thread b.thread e) (lt-ltb a.ordinal b.ordinal h))

pub before-trans : (a b c : Name) → IsTrue (is_before a b) → IsTrue (is_before b c) → IsTrue (is_before a c)
before-trans a b c h k = elim (before-cases a b h) [
  | inl lower ↦ (elim (before-cases b c k) [
    | inl low ↦ before-by_thread a c (omega arith)
    | inr low ↦ (let e = low.0 in before-by_thread a c (omega arith))
  ])
  | inr lower ↦ (elim (before-cases b c k) [
    | inl low ↦ (let e = lower.0 in before-by_thread a c (omega arith))
    | inr low ↦ (let e = lower.1 in let f = low.1 in before-by_ordinal a c (lower.0 ∙ low.0) (omega arith))
  ])
]

-- Ascending lists.

-- the first goes before each other one
pub ascending-after : (x : Name) (ys : List Name) → IsAscending (x ∷ ys) → AllByRecursion (λ (y : Name). IsTrue (is_before x y)) ys
ascending-after x [] h = tt
ascending-after x (y ∷ ys) h = (h.0, weaken ys (ascending-after y ys h.1))
  where
    weaken : (zs : List Name) → AllByRecursion (λ (z : Name). IsTrue (is_before y z)) zs → AllByRecursion (λ (z : Name). IsTrue (is_before x z)) zs
    weaken [] k = tt
    weaken (z ∷ zs) k = (before-trans x y z h.0 k.0, weaken zs k.1)

pub ascending-rest : (x : Name) (ys : List Name) → IsAscending (x ∷ ys) → IsAscending ys
ascending-rest x [] h = tt
ascending-rest x (y ∷ ys) h = h.1

pub ascending-cons : (x : Name) (ys : List Name) → AllByRecursion (λ (y : Name). IsTrue (is_before x y)) ys → IsAscending ys → IsAscending (x ∷ ys)
ascending-cons x [] h k = tt
ascending-cons x (y ∷ ys) h k = (h.0, k)

-- a filter of things that ascend by their names does too
module _ {X : Type 0} (name : X → Name) (p : X → Bool) where
  all-map-filter : (P : Name → Type 0) (xs : List X) → AllByRecursion P (map name xs) → AllByRecursion P (map name (filter p xs))
  all-map-filter P [] h = tt
  all-map-filter P (x ∷ xs) h = by (p x) (all-map-filter P xs h.1)
    where
      by : (b : Bool) → AllByRecursion P (map name (filter p xs)) → AllByRecursion P (map name (cond b (x ∷ filter p xs) (filter p xs)))
      by true rest = (h.0, rest)
      by false rest = rest

  pub ascending-map-filter : (xs : List X) → IsAscending (map name xs) → IsAscending (map name (filter p xs))
  ascending-map-filter [] h = tt
  ascending-map-filter (x ∷ xs) h = by (p x) (ascending-map-filter xs (ascending-rest (name x) (map name xs) h))
    where
      by : (b : Bool) → IsAscending (map name (filter p xs)) → IsAscending (map name (cond b (x ∷ filter p xs) (filter p xs)))
      by true rest = ascending-cons (name x) (map name (filter p xs)) (all-map-filter (λ (y : Name). IsTrue (is_before (name x) y)) xs (ascending-after (name x) (map name xs) h)) rest
      by false rest = rest

pub ascending-filter : (p : Name → Bool) (xs : List Name) → IsAscending xs → IsAscending (filter p xs)
ascending-filter p xs h =
    subst IsAscending (map-id (filter p xs)) (ascending-map-filter (λ (x : Name). x) p xs (subst IsAscending (sym (map-id xs)) h))

-- so does the list of the ends of walks, where the names inside do
pub ends-ascend : (g : Ground) → IsAscending g.inside → IsAscending (ends_of_walks g)
ends-ascend g h = subst IsAscending (sym (ends-filter g)) (ascending-filter (λ x. is_among x (ends_of_walks g)) g.inside h)

-- The names of all objects.

all-weaker : {P Q : Name → Type 0} → ((x : Name) → P x → Q x) → (xs : List Name) → AllByRecursion P xs → AllByRecursion Q xs
all-weaker f [] h = tt
all-weaker f (x ∷ xs) h = (f x h.0, all-weaker f xs h.1)

-- not before the object of the thread with this ordinal
abbrev IsFrom : ℕ → ℕ → Name → Type 0
IsFrom t o x = (t < x.thread) ⊎ ((t ≡ x.thread) × (o ≤ x.ordinal))

-- the names of a thread, and then those of later threads
thread-ascends : (t o n : ℕ) (later : List Name) → IsAscending later → AllByRecursion (λ (x : Name). t < x.thread) later
    → IsAscending (map (λ k. record { thread = t; ordinal = k }) (range_with_len o n) ++ later)
    × AllByRecursion (IsFrom t o) (map (λ k. record { thread = t; ordinal = k }) (range_with_len o n) ++ later)
thread-ascends t o zero later h after = (h, all-weaker (λ x k. inl k) later after)
thread-ascends t o (suc n) later h after =
    let names = map (λ k. record { thread = t; ordinal = k }) (range_with_len (o + 1) n) ++ later in
    let rest = thread-ascends t (o + 1) n later h after in (
      ascending-cons (record { thread = t; ordinal = o }) names (all-weaker (behind t o) names rest.1) rest.0,
      (inr (refl, omega arith), all-weaker (from t o) names rest.1),
    )
  where
    behind : (t o : ℕ) (x : Name) → IsFrom t (o + 1) x → IsTrue (is_before (record { thread = t; ordinal = o }) x)
    behind t o x h = elim h [
      | inl later ↦ before-by_thread (record { thread = t; ordinal = o }) x later
      | inr same ↦ before-by_ordinal (record { thread = t; ordinal = o }) x same.0 (omega (arith, same.1))
    ]

    from : (t o : ℕ) (x : Name) → IsFrom t (o + 1) x → IsFrom t o x
    from t o x h = elim h [ inl later ↦ inl later | inr same ↦ inr (same.0, omega (arith, same.1)) ]

threads-ascend : (s : State) (t n : ℕ) → IsAscending (flat_map (names_by s) (range_with_len t n)) × AllByRecursion (λ (x : Name). t ≤ x.thread) (flat_map (names_by s) (range_with_len t n))
threads-ascend s t zero = (tt, tt)
threads-ascend s t (suc n) =
    let later = flat_map (names_by s) (range_with_len (t + 1) n) in
    let rest = threads-ascend s (t + 1) n in
    let all = thread-ascends t 1 (made_by s t) later rest.0 (all-weaker (λ x h. omega (arith, h)) later rest.1) in
    (all.0, all-weaker (λ x h. elim h [ inl more ↦ omega (arith, more) | inr same ↦ omega (arith, same.0) ]) (names_by s t ++ later) all.1)

pub all-names-ascend : (s : State) → IsAscending (all_names s)
all-names-ascend s = (threads-ascend s 0 (length s.mutators)).0

-- so what can be reached does too
pub reachable-ascends : (s : State) → IsAscending (reachable s)
reachable-ascends s = ends-ascend (graph_ground s) (all-names-ascend s)
