-- A row's own event keeps the board sound: what it makes is new, and what it moves was held before.
use Rattle.std.proofs.Common.{◌≡◌, ◌<◌, ◌≤◌, ◌+◌, ◌-◌, ◌⊎◌, inl, inr, ℕ, zero, suc, List, [], ◌∷◌, ◌++◌, Bool, true, false, cond, ltb, Option, Some, None, get_or, set, replicate, length, refl, ap, sym, subst, ◌∙◌, arith, add-one, length-append, length-set, get_or-set_same}
use Rattle.std.specs.Prelude.{IsTrue, slice_get}
use Rattle.std.specs.List.{list_any, flat_map}
use Rattle.std.proofs.lemmas.Bool.{or_cases, or_left, or_right, and_from, eq-eqb, lt-ltb, cond_both, false≢true, cases_order}
use Rattle.std.proofs.lemmas.List.Folds.{list_any-append}
use Rattle.std.proofs.lemmas.Option.{none-some, slice_get_past}
use Rattle.bal_layout.specs.declared.geometry.Want.{Want}
use Rattle.bal_layout.specs.declared.name.Name.{Name}
use Rattle.bal_layout.specs.Shape.{Shape}
use Rattle.bal_rules.proofs.PathFacts.{own-event}
use Rattle.bal_model.specs.declared.config.Config.{Config}
use Rattle.bal_model.specs.declared.row.Op.{Op}
use Rattle.bal_model.specs.declared.row.Op.TheVariants as op
use Rattle.bal_model.specs.declared.row.Reply.{Reply}
use Rattle.bal_model.specs.declared.row.Reply.TheVariants as reply
use Rattle.bal_rules.specs.After.{after}
use Rattle.bal_rules.specs.Board.{Board, Placed, opening, names_placed, with_placed}
use Rattle.bal_model.specs.Entries.{Entry, Spot, row}
use Rattle.bal_rules.specs.Interim.{Rule}
use Rattle.bal_layout.specs.Names.{is_among, is_before, same_name}
use Rattle.bal_rules.specs.Path.{Turn, Stage, own_at}
use Rattle.bal_model.specs.Plain.{State, Mutator, Object, Step, start, mutator, made_by, next_name, object_at, refs_of, refs, register, reference_count, value_count, value, global, reference, at_slot, holding, adopting, altering, referring, counting, changed_at, new_object, new_array, with_mutator, with_register, with_object, with_reference, with_value, with_global, taking, step}
use Rattle.bal_rules.specs.Room.{spot_for}
use Rattle.bal_model.specs.Plain.{is_full, graph_after}
use Rattle.bal_rules.specs.RowEvents.{want_of, board_after_reply, after_row}
use Rattle.bal_model.specs.Walk.{names_in, root_names, targets}
use Rattle.bal_model.proofs.Lemmas.{same_name-eq, same_name-refl}
use Rattle.bal_rules.specs.Sound.{IsAscending, IsMade, IsSound}
use Rattle.bal_rules.proofs.ListFacts.{ascending-rest}

-- Names.

-- of two names that differ, one is before the other
pub before-or : (x y : Name) → is_before x y ≡ false → (x ≡ y → ⊥) → is_before y x ≡ true
before-or x y h other = elim (cases_order x.thread y.thread) [
  | inl same ↦ elim (cases_order x.ordinal y.ordinal) [
    | inl equal ↦ absurd (other (same_name-eq x y (and_from _ _ (eq-eqb x.thread y.thread same) (eq-eqb x.ordinal y.ordinal equal))))
    | inr unequal ↦ elim unequal [
      | inl less ↦ absurd (false≢true (sym h ∙ or_right _ _ (and_from _ _ (eq-eqb x.thread y.thread same) (lt-ltb x.ordinal y.ordinal less))))
      | inr more ↦ or_right _ _ (and_from _ _ (eq-eqb y.thread x.thread (sym same)) (lt-ltb y.ordinal x.ordinal more))
    ]
  ]
  | inr unequal ↦ elim unequal [
    | inl less ↦ absurd (false≢true (sym h ∙ or_left _ _ (lt-ltb x.thread y.thread less)))
    | inr more ↦ or_left _ _ (lt-ltb y.thread x.thread more)
  ]
]

-- Lists of names that pass a test.

any-cases : {A : Type 0} (p : A → Bool) (x : A) (xs : List A) → list_any p (x ∷ xs) ≡ true → (p x ≡ true) ⊎ (list_any p xs ≡ true)
any-cases p x xs h = or_cases (p x) (list_any p xs) h

any-here : {A : Type 0} (p : A → Bool) (x : A) (xs : List A) → p x ≡ true → list_any p (x ∷ xs) ≡ true
any-here p x xs h = or_left (p x) (list_any p xs) h

any-there : {A : Type 0} (p : A → Bool) (x : A) (xs : List A) → list_any p xs ≡ true → list_any p (x ∷ xs) ≡ true
any-there p x xs h = or_right (p x) (list_any p xs) h

any-append-cases : {A : Type 0} (p : A → Bool) (xs ys : List A) → list_any p (xs ++ ys) ≡ true → (list_any p xs ≡ true) ⊎ (list_any p ys ≡ true)
any-append-cases p xs ys h = or_cases (list_any p xs) (list_any p ys) (sym (list_any-append p xs ys) ∙ h)

any-append-left : {A : Type 0} (p : A → Bool) (xs ys : List A) → list_any p xs ≡ true → list_any p (xs ++ ys) ≡ true
any-append-left p xs ys h = list_any-append p xs ys ∙ or_left (list_any p xs) (list_any p ys) h

any-append-right : {A : Type 0} (p : A → Bool) (xs ys : List A) → list_any p ys ≡ true → list_any p (xs ++ ys) ≡ true
any-append-right p xs ys h = list_any-append p xs ys ∙ or_right (list_any p xs) (list_any p ys) h

-- Where one more is placed.

among-placed : (p : Placed) (x : Name) (qs : List Placed) → is_among x (names_placed (with_placed p qs)) ≡ true → (same_name x p.name ≡ true) ⊎ (is_among x (names_placed qs) ≡ true)
among-placed p x [] h = or_cases _ _ h
among-placed p x (q ∷ qs) h = by (is_before p.name q.name) (among-placed p x qs) h
  where
    by : (b : Bool) → (is_among x (names_placed (with_placed p qs)) ≡ true → (same_name x p.name ≡ true) ⊎ (is_among x (names_placed qs) ≡ true))
        → is_among x (names_placed (cond b (p ∷ q ∷ qs) (q ∷ with_placed p qs))) ≡ true → (same_name x p.name ≡ true) ⊎ (is_among x (names_placed (q ∷ qs)) ≡ true)
    by true more h = or_cases _ _ h
    by false more h = elim (any-cases (same_name x) q.name (names_placed (with_placed p qs)) h) [
      | inl here ↦ inr (any-here (same_name x) q.name (names_placed qs) here)
      | inr there ↦ elim (more there) [ inl new ↦ inl new | inr old ↦ inr (any-there (same_name x) q.name (names_placed qs) old) ]
    ]

placed-new : (p : Placed) (x : Name) (qs : List Placed) → same_name x p.name ≡ true → is_among x (names_placed (with_placed p qs)) ≡ true
placed-new p x [] h = or_left _ _ h
placed-new p x (q ∷ qs) h = by (is_before p.name q.name) (placed-new p x qs h)
  where
    by : (b : Bool) → is_among x (names_placed (with_placed p qs)) ≡ true → is_among x (names_placed (cond b (p ∷ q ∷ qs) (q ∷ with_placed p qs))) ≡ true
    by true more = or_left _ _ h
    by false more = or_right _ _ more

placed-old : (p : Placed) (x : Name) (qs : List Placed) → is_among x (names_placed qs) ≡ true → is_among x (names_placed (with_placed p qs)) ≡ true
placed-old p x [] h = or_right _ _ h
placed-old p x (q ∷ qs) h = by (is_before p.name q.name) (placed-old p x qs)
  where
    by : (b : Bool) → (is_among x (names_placed qs) ≡ true → is_among x (names_placed (with_placed p qs)) ≡ true) → is_among x (names_placed (cond b (p ∷ q ∷ qs) (q ∷ with_placed p qs))) ≡ true
    by true more = or_right _ _ h
    by false more = elim (any-cases (same_name x) q.name (names_placed qs) h) [
      | inl here ↦ any-here (same_name x) q.name (names_placed (with_placed p qs)) here
      | inr there ↦ any-there (same_name x) q.name (names_placed (with_placed p qs)) (more there)
    ]

-- a name before all of an ascending list
ascending-more : (q : Name) (p : Placed) (qs : List Placed) → is_before q p.name ≡ true → IsAscending (q ∷ names_placed qs) → IsAscending (names_placed (with_placed p qs)) → IsAscending (q ∷ names_placed (with_placed p qs))
ascending-more q p [] before h more = (before, more)
ascending-more q p (r ∷ rs) before h more = by (is_before p.name r.name) more
  where
    by : (b : Bool) → IsAscending (names_placed (cond b (p ∷ r ∷ rs) (r ∷ with_placed p rs))) → IsAscending (q ∷ names_placed (cond b (p ∷ r ∷ rs) (r ∷ with_placed p rs)))
    by true more = (before, more)
    by false more = (h.0, more)

-- a new name keeps the present names ascending
pub ascending-placed : (p : Placed) (qs : List Placed) → IsAscending (names_placed qs) → (is_among p.name (names_placed qs) ≡ true → ⊥) → IsAscending (names_placed (with_placed p qs))
ascending-placed p [] h new = tt
ascending-placed p (q ∷ qs) h new = by (is_before p.name q.name) refl
    (λ behind. ascending-more q.name p qs (before-or p.name q.name behind (λ e. new (or_left _ _ (subst (λ (x : Name). same_name p.name x ≡ true) e (same_name-refl p.name))))) h
    (ascending-placed p qs (ascending-rest q.name (names_placed qs) h) (λ old. new (or_right _ _ old))))
  where
    by : (b : Bool) → is_before p.name q.name ≡ b → (is_before p.name q.name ≡ false → IsAscending (q.name ∷ names_placed (with_placed p qs))) → IsAscending (names_placed (cond b (p ∷ q ∷ qs) (q ∷ with_placed p qs)))
    by true at more = (at, h)
    by false at more = more at

-- Lists of references, and what they hold that passes a test.

names-cases : (p : Name → Bool) (c : Option Name) (cs : List (Option Name)) → list_any p (names_in (c ∷ cs)) ≡ true → (list_any p (names_in (c ∷ [])) ≡ true) ⊎ (list_any p (names_in cs) ≡ true)
names-cases p None cs h = inr h
names-cases p (Some x) cs h = elim (any-cases p x (names_in cs) h) [ inl here ↦ inl (any-here p x [] here) | inr there ↦ inr there ]

names-here : (p : Name → Bool) (c : Option Name) (cs : List (Option Name)) → list_any p (names_in (c ∷ [])) ≡ true → list_any p (names_in (c ∷ cs)) ≡ true
names-here p None cs h = absurd (false≢true h)
names-here p (Some x) cs h = elim (any-cases p x [] h) [ inl here ↦ any-here p x (names_in cs) here | inr there ↦ absurd (false≢true there) ]

names-there : (p : Name → Bool) (c : Option Name) (cs : List (Option Name)) → list_any p (names_in cs) ≡ true → list_any p (names_in (c ∷ cs)) ≡ true
names-there p None cs h = h
names-there p (Some x) cs h = any-there p x (names_in cs) h

-- after a write a list holds what it held, or what was written
names-set : (p : Name → Bool) (cs : List (Option Name)) (i : ℕ) (content : Option Name) → list_any p (names_in (set cs i content)) ≡ true
    → (list_any p (names_in cs) ≡ true) ⊎ (list_any p (names_in (content ∷ [])) ≡ true)
names-set p [] i content h = inl h
names-set p (c ∷ cs) zero content h = elim (names-cases p content cs h) [ inl here ↦ inr here | inr there ↦ inl (names-there p c cs there) ]
names-set p (c ∷ cs) (suc i) content h = elim (names-cases p c (set cs i content) h) [
  | inl here ↦ inl (names-here p c cs here)
  | inr there ↦ elim (names-set p cs i content there) [ inl old ↦ inl (names-there p c cs old) | inr new ↦ inr new ]
]

names-at : (p : Name → Bool) (cs : List (Option Name)) (i : ℕ) → list_any p (names_in (get_or cs i None ∷ [])) ≡ true → list_any p (names_in cs) ≡ true
names-at p [] i h = h
names-at p (c ∷ cs) zero h = names-here p c cs h
names-at p (c ∷ cs) (suc i) h = names-there p c cs (names-at p cs i h)

names-none : (p : Name → Bool) (n : ℕ) → list_any p (names_in (replicate n None)) ≡ false
names-none p zero = refl
names-none p (suc n) = names-none p n

-- Mutators.

abbrev in_registers : Mutator → List Name
in_registers m = names_in m.registers

abbrev nobody : Mutator
nobody = record { registers = []; made = [] }

registers-at : (p : Name → Bool) (ms : List Mutator) (t : ℕ) → list_any p (in_registers (get_or ms t nobody)) ≡ true → list_any p (flat_map in_registers ms) ≡ true
registers-at p [] t h = h
registers-at p (m ∷ ms) zero h = any-append-left p (in_registers m) (flat_map in_registers ms) h
registers-at p (m ∷ ms) (suc t) h = any-append-right p (in_registers m) (flat_map in_registers ms) (registers-at p ms t h)

registers-set : (p : Name → Bool) (ms : List Mutator) (t : ℕ) (m : Mutator) → list_any p (flat_map in_registers (set ms t m)) ≡ true
    → (list_any p (flat_map in_registers ms) ≡ true) ⊎ (list_any p (in_registers m) ≡ true)
registers-set p [] t m h = inl h
registers-set p (x ∷ ms) zero m h = elim (any-append-cases p (in_registers m) (flat_map in_registers ms) h) [
  | inl here ↦ inr here
  | inr there ↦ inl (any-append-right p (in_registers x) (flat_map in_registers ms) there)
]
registers-set p (x ∷ ms) (suc t) m h = elim (any-append-cases p (in_registers x) (flat_map in_registers (set ms t m)) h) [
  | inl here ↦ inl (any-append-left p (in_registers x) (flat_map in_registers ms) here)
  | inr there ↦ elim (registers-set p ms t m there) [ inl old ↦ inl (any-append-right p (in_registers x) (flat_map in_registers ms) old) | inr new ↦ inr new ]
]

-- what holds of a mutator, holds of it after a write of one of which it holds
pub mutator-set : (P : Mutator → Type 0) (ms : List Mutator) (t u : ℕ) (m : Mutator) → P (get_or ms u nobody) → (t ≡ u → P m) → P (get_or (set ms t m) u nobody)
mutator-set P [] t u m old new = old
mutator-set P (x ∷ ms) zero zero m old new = new refl
mutator-set P (x ∷ ms) zero (suc u) m old new = old
mutator-set P (x ∷ ms) (suc t) zero m old new = old
mutator-set P (x ∷ ms) (suc t) (suc u) m old new = mutator-set P ms t u m old (λ e. new (ap suc e))

-- The graph: what the roots and the objects hold.

root-register : (p : Name → Bool) (s : State) (t r : ℕ) → list_any p (names_in (register s t r ∷ [])) ≡ true → list_any p (root_names s) ≡ true
root-register p s t r h = any-append-left p (flat_map in_registers s.mutators) (names_in s.globals) (registers-at p s.mutators t (names-at p (mutator s t).registers r h))

root-global : (p : Name → Bool) (s : State) (g : ℕ) → list_any p (names_in (global s g ∷ [])) ≡ true → list_any p (root_names s) ≡ true
root-global p s g h = any-append-right p (flat_map in_registers s.mutators) (names_in s.globals) (names-at p s.globals g h)

-- where a mutator is replaced, the roots are what they were, or what it holds
roots-mutator : (p : Name → Bool) (s : State) (t : ℕ) (m : Mutator) → list_any p (root_names (with_mutator s t m)) ≡ true → (list_any p (root_names s) ≡ true) ⊎ (list_any p (in_registers m) ≡ true)
roots-mutator p s t m h = elim (any-append-cases p (flat_map in_registers (set s.mutators t m)) (names_in s.globals) h) [
  | inl here ↦ elim (registers-set p s.mutators t m here) [ inl old ↦ inl (any-append-left p (flat_map in_registers s.mutators) (names_in s.globals) old) | inr new ↦ inr new ]
  | inr there ↦ inl (any-append-right p (flat_map in_registers s.mutators) (names_in s.globals) there)
]

-- what a mutator holds is held by the roots
roots-have : (p : Name → Bool) (s : State) (t : ℕ) → list_any p (in_registers (mutator s t)) ≡ true → list_any p (root_names s) ≡ true
roots-have p s t h = any-append-left p (flat_map in_registers s.mutators) (names_in s.globals) (registers-at p s.mutators t h)

roots-global : (p : Name → Bool) (s : State) (g : ℕ) (content : Option Name) → list_any p (root_names (with_global s g content)) ≡ true
    → (list_any p (root_names s) ≡ true) ⊎ (list_any p (names_in (content ∷ [])) ≡ true)
roots-global p s g content h = elim (any-append-cases p (flat_map in_registers s.mutators) (names_in (set s.globals g content)) h) [
  | inl here ↦ inl (any-append-left p (flat_map in_registers s.mutators) (names_in s.globals) here)
  | inr there ↦ elim (names-set p s.globals g content there) [ inl old ↦ inl (any-append-right p (flat_map in_registers s.mutators) (names_in s.globals) old) | inr new ↦ inr new ]
]

-- what an object of a list holds
abbrev in_object : List Object → ℕ → List Name
in_object made o = names_in (refs_of (object_at made o))

-- an object that changed holds what it held, or one thing more
objects-changed : (p : Name → Bool) (change : Object → Object) (more : List Name)
    → ((o : Object) → list_any p (names_in (change o).refs) ≡ true → (list_any p (names_in o.refs) ≡ true) ⊎ (list_any p more ≡ true))
    → (made : List Object) (i j : ℕ) → list_any p (names_in (refs_of (slice_get (changed_at made i change) j))) ≡ true
    → (list_any p (names_in (refs_of (slice_get made j))) ≡ true) ⊎ (list_any p more ≡ true)
objects-changed p change more changes [] i j h = inl h
objects-changed p change more changes (o ∷ os) zero zero h = changes o h
objects-changed p change more changes (o ∷ os) zero (suc j) h = inl h
objects-changed p change more changes (o ∷ os) (suc i) zero h = inl h
objects-changed p change more changes (o ∷ os) (suc i) (suc j) h = objects-changed p change more changes os i j h

object-changed : (p : Name → Bool) (change : Object → Object) (more : List Name)
    → ((o : Object) → list_any p (names_in (change o).refs) ≡ true → (list_any p (names_in o.refs) ≡ true) ⊎ (list_any p more ≡ true))
    → (made : List Object) (i o : ℕ) → list_any p (in_object (changed_at made i change) o) ≡ true → (list_any p (in_object made o) ≡ true) ⊎ (list_any p more ≡ true)
object-changed p change more changes made i zero h = inl h
object-changed p change more changes made i (suc j) h = objects-changed p change more changes made i j h

-- a new object that refers to nothing adds nothing
objects-more : (p : Name → Bool) (new : Object) → list_any p (names_in new.refs) ≡ false → (made : List Object) (j : ℕ)
    → list_any p (names_in (refs_of (slice_get (made ++ new ∷ []) j))) ≡ true → list_any p (names_in (refs_of (slice_get made j))) ≡ true
objects-more p new none [] zero h = absurd (false≢true (sym none ∙ h))
objects-more p new none [] (suc j) h = h
objects-more p new none (o ∷ os) zero h = h
objects-more p new none (o ∷ os) (suc j) h = objects-more p new none os j h

object-more : (p : Name → Bool) (new : Object) → list_any p (names_in new.refs) ≡ false → (made : List Object) (o : ℕ) → list_any p (in_object (made ++ new ∷ []) o) ≡ true → list_any p (in_object made o) ≡ true
object-more p new none made zero h = h
object-more p new none made (suc j) h = objects-more p new none made j h

-- Soundness, of a graph and the present names.

pub record Holds (s : State) (names : List Name) : Type 0 where
  pub ascending : IsAscending names
  pub made : (x : Name) → IsTrue (is_among x names) → IsMade s x
  pub roots : (x : Name) → IsTrue (is_among x (root_names s)) → IsTrue (is_among x names)
  pub closed : (x y : Name) → IsTrue (is_among x names) → IsTrue (is_among y (targets s x)) → IsTrue (is_among y names)

-- a reference to an object that is present, or null
abbrev pub AreHeld : Option Name → List Name → Type 0
AreHeld content names = (x : Name) → is_among x (names_in (content ∷ [])) ≡ true → is_among x names ≡ true

pub held-register : (s : State) (names : List Name) (t r : ℕ) → Holds s names → AreHeld (register s t r) names
held-register s names t r h x e = h.roots x (root-register (same_name x) s t r e)

pub held-global : (s : State) (names : List Name) (g : ℕ) → Holds s names → AreHeld (global s g) names
held-global s names g h x e = h.roots x (root-global (same_name x) s g e)

pub held-reference : (s : State) (names : List Name) (holder : Name) (slot : ℕ) → Holds s names → is_among holder names ≡ true → AreHeld (reference s holder slot) names
held-reference s names holder slot h present x e = h.closed holder x present (names-at (same_name x) (refs s holder) slot e)

-- where a mutator that made as much takes another's place
made-kept : (s : State) (t u : ℕ) (m : Mutator) → made_by s t ≤ length m.made → made_by s u ≤ made_by (with_mutator s t m) u
made-kept s t u m h = mutator-set (λ (n : Mutator). made_by s u ≤ length n.made) s.mutators t u m (omega arith) (λ e. subst (λ (v : ℕ). made_by s v ≤ length m.made) e h)

IsMade-kept : (s s' : State) (x : Name) → made_by s x.thread ≤ made_by s' x.thread → IsMade s x → IsMade s' x
IsMade-kept s s' x more h = record { thread = h.thread; first = h.first; last = omega (arith, h.last) }

-- a mutator whose registers take something present
registers-kept : (s : State) (names : List Name) (t : ℕ) (m : Mutator) → Holds s names → m.made ≡ (mutator s t).made
    → ((x : Name) → is_among x (in_registers m) ≡ true → is_among x names ≡ true) → Holds (with_mutator s t m) names
registers-kept s names t m h same held = record {
  ascending = h.ascending;
  made = λ x present. IsMade-kept s (with_mutator s t m) x (made-kept s t x.thread m (omega (arith, ap length same))) (h.made x present);
  roots = λ x e. elim (roots-mutator (same_name x) s t m e) [ inl old ↦ h.roots x old | inr new ↦ held x new ];
  closed = λ x y present e. h.closed x y present (mutator-set (λ (n : Mutator). is_among y (in_object n.made x.ordinal) ≡ true → is_among y (targets s x) ≡ true) s.mutators t x.thread m (λ old. old)
      (λ at new. subst (λ (v : ℕ). is_among y (in_object (mutator s v).made x.ordinal) ≡ true) at (subst (λ (os : List Object). is_among y (in_object os x.ordinal) ≡ true) same new)) e);
}

sound-register : (s : State) (names : List Name) (t r : ℕ) (content : Option Name) → Holds s names → AreHeld content names → Holds (with_register s t r content) names
sound-register s names t r content h held = registers-kept s names t (holding r content (mutator s t)) h refl
    (λ x e. elim (names-set (same_name x) (mutator s t).registers r content e) [ inl old ↦ h.roots x (roots-have (same_name x) s t old) | inr new ↦ held x new ])

sound-global : (s : State) (names : List Name) (g : ℕ) (content : Option Name) → Holds s names → AreHeld content names → Holds (with_global s g content) names
sound-global s names g content h held = record {
  ascending = h.ascending;
  made = λ x present. IsMade-kept s (with_global s g content) x (omega arith) (h.made x present);
  roots = λ x e. elim (roots-global (same_name x) s g content e) [ inl old ↦ h.roots x old | inr new ↦ held x new ];
  closed = h.closed;
}

-- an object that changed refers to what it did, or to something present
sound-object : (s : State) (names : List Name) (changed : Name) (change : Object → Object) (more : List Name)
    → ((p : Name → Bool) (o : Object) → list_any p (names_in (change o).refs) ≡ true → (list_any p (names_in o.refs) ≡ true) ⊎ (list_any p more ≡ true))
    → Holds s names → ((x : Name) → is_among x more ≡ true → is_among x names ≡ true) → Holds (with_object s changed change) names
sound-object s names changed change more changes h held =
    let t = changed.thread in
    let m = altering changed.ordinal change (mutator s t) in
    record {
      ascending = h.ascending;
      made = λ x present. IsMade-kept s (with_mutator s t m) x (made-kept s t x.thread m (omega (arith, length-set (mutator s t).made (changed.ordinal - 1)))) (h.made x present);
      roots = λ x e. elim (roots-mutator (same_name x) s t m e) [ inl old ↦ h.roots x old | inr new ↦ h.roots x (roots-have (same_name x) s t new) ];
      closed = λ x y present e. elim (mutator-set (λ (n : Mutator). is_among y (in_object n.made x.ordinal) ≡ true → (is_among y (targets s x) ≡ true) ⊎ (is_among y more ≡ true)) s.mutators t x.thread m
          (λ old. inl old)
          (λ at new. subst (λ (v : ℕ). (is_among y (in_object (mutator s v).made x.ordinal) ≡ true) ⊎ (is_among y more ≡ true)) at
          (object-changed (same_name y) change more (changes (same_name y)) (mutator s t).made (changed.ordinal - 1) x.ordinal new)) e) [
            | inl old ↦ h.closed x y present old
            | inr new ↦ held y new
          ];
    }

sound-reference : (s : State) (names : List Name) (holder : Name) (slot : ℕ) (content : Option Name) → Holds s names → AreHeld content names → Holds (with_reference s holder slot content) names
sound-reference s names holder slot content h held = sound-object s names holder (referring slot content) (names_in (content ∷ [])) (λ p o e. names-set p o.refs slot content e) h held

sound-value : (s : State) (names : List Name) (holder : Name) (slot number : ℕ) → Holds s names → Holds (with_value s holder slot number) names
sound-value s names holder slot number h = sound-object s names holder (counting slot number) [] (λ p o e. inl e) h (λ x e. absurd (false≢true e))

-- The plain step.

-- a row that names a slot keeps what the row does there with a holder that is present
sound-slot : (s : State) (names : List Name) (x : Option Name) (count : Name → ℕ) (slot : ℕ) (act : Name → Step) → Holds s names → AreHeld x names
    → ((x : Name) → is_among x names ≡ true → Holds (act x).1 names) → Holds (at_slot s x count slot act).1 names
sound-slot s names None count slot act h held acts = h
sound-slot s names (Some x) count slot act h held acts = by (ltb slot (count x))
  where
    by : (b : Bool) → Holds (cond b (act x) (reply.Slot, s)).1 names
    by true = acts x (held x (any-here (same_name x) x [] (same_name-refl x)))
    by false = h

-- a row that asks for no room
step-sound : (shape : Shape) (s : State) (names : List Name) (t : ℕ) (o : Op) → want_of shape o ≡ None → Holds s names → Holds (step s t o).1 names
step-sound shape s names t (op.New r refs values) none h = cc
step-sound shape s names t (op.Arr r len) none h = cc
step-sound shape s names t (op.Store holder slot value) none h =
    sound-slot s names (register s t holder) (reference_count s) slot (λ x. (reply.Ok, with_reference s x slot (register s t value))) h (held-register s names t holder h)
    (λ x present. sound-reference s names x slot (register s t value) h (held-register s names t value h))
step-sound shape s names t (op.Load into holder slot) none h =
    sound-slot s names (register s t holder) (reference_count s) slot (λ x. taking s t into (reference s x slot)) h (held-register s names t holder h)
    (λ x present. sound-register s names t into (reference s x slot) h (held-reference s names x slot h present))
step-sound shape s names t (op.Put holder slot number) none h = sound-slot s names (register s t holder) (value_count s) slot (λ x. (reply.Ok, with_value s x slot number)) h (held-register s names t holder h)
    (λ x present. sound-value s names x slot number h)
step-sound shape s names t (op.Get holder slot) none h = sound-slot s names (register s t holder) (value_count s) slot (λ x. (reply.Number (value s x slot), s)) h (held-register s names t holder h) (λ x present. h)
step-sound shape s names t (op.GStore g r) none h = sound-global s names g (register s t r) h (held-register s names t r h)
step-sound shape s names t (op.GLoad into g) none h = sound-register s names t into (global s g) h (held-global s names g h)
step-sound shape s names t (op.Drop r) none h = sound-register s names t r None h (λ x e. absurd (false≢true e))
step-sound shape s names t op.Gc none h = h

-- A row that allocates.

-- the next name isn't that of a present object
next-new : (s : State) (names : List Name) (t : ℕ) → Holds s names → is_among (next_name s t) names ≡ true → ⊥
next-new s names t h present = absurd (omega (arith, (h.made (next_name s t) present).last))

-- and refers to nothing
next-none : (p : Name → Bool) (s : State) (t : ℕ) → list_any p (targets s (next_name s t)) ≡ true → ⊥
next-none p s t h =
    let none : object_at (mutator s t).made (made_by s t + 1) ≡ None = rw add-one (slice_get_past (mutator s t).made (made_by s t) (omega arith)) in
    absurd (false≢true (sym (ap (λ (o : Option Object). list_any p (names_in (refs_of o))) none) ∙ h))

-- a new object that refers to nothing is placed under the next name
sound-allocated : (s : State) (present : List Placed) (t r : ℕ) (new : Object) (region : ℕ) (leaves : List ℕ) → Holds s (names_placed present) → t < length s.mutators → t < 32
    → ((p : Name → Bool) → list_any p (names_in new.refs) ≡ false)
    → Holds (with_mutator s t (adopting t r new (mutator s t))) (names_placed (with_placed (record { name = next_name s t; region = region; leaves = leaves }) present))
sound-allocated s present t r new region leaves h within below none =
    let m = adopting t r new (mutator s t) in
    let s' = with_mutator s t m in
    let p : Placed = record { name = next_name s t; region = region; leaves = leaves } in
    let names = names_placed present in
    let longer : length m.made ≡ made_by s t + 1 = length-append (mutator s t).made (new ∷ []) in
    let more : made_by s' t ≡ made_by s t + 1 = ap (λ (n : Mutator). length n.made) (get_or-set_same s.mutators t m nobody within) ∙ longer in
    record {
      ascending = ascending-placed p present h.ascending (next-new s names t h);
      made = λ x e. elim (among-placed p x present e) [
        | inl same ↦ subst (IsMade s') (sym (same_name-eq x (next_name s t) same)) (record { thread = below; first = omega arith; last = omega (arith, more) })
        | inr old ↦ IsMade-kept s s' x (made-kept s t x.thread m (omega (arith, longer))) (h.made x old)
      ];
      roots = λ x e. elim (roots-mutator (same_name x) s t m e) [
        | inl old ↦ placed-old p x present (h.roots x old)
        | inr new ↦ elim (names-set (same_name x) (mutator s t).registers r (Some (next_name s t)) new) [
          | inl old ↦ placed-old p x present (h.roots x (roots-have (same_name x) s t old))
          | inr same ↦ elim (any-cases (same_name x) (next_name s t) [] same) [ inl same ↦ placed-new p x present same | inr other ↦ absurd (false≢true other) ]
        ]
      ];
      closed = λ x y e target.
          let before : is_among y (targets s x) ≡ true = mutator-set (λ (n : Mutator). is_among y (in_object n.made x.ordinal) ≡ true → is_among y (targets s x) ≡ true) s.mutators t x.thread m (λ old. old)
          (λ at now. subst (λ (v : ℕ). is_among y (in_object (mutator s v).made x.ordinal) ≡ true) at (object-more (same_name y) new (none (same_name y)) (mutator s t).made x.ordinal now)) target in
          elim (among-placed p x present e) [
            | inl same ↦ absurd (next-none (same_name y) s t (subst (λ (z : Name). is_among y (targets s z) ≡ true) (same_name-eq x (next_name s t) same) before))
            | inr old ↦ placed-old p y present (h.closed x y old before)
          ];
    }

-- Boards.

pub Holds-from : (b : Board) → IsSound b → Holds b.plain (names_placed b.present)
Holds-from b h = record { ascending = h.ascending; made = h.made; roots = h.roots; closed = h.closed }

pub IsSound-from : (b : Board) → Holds b.plain (names_placed b.present) → IsSound b
IsSound-from b h = record { ascending = h.ascending; made = h.made; roots = h.roots; closed = h.closed }

-- the empty heap
pub sound-opening : (c : Config) → IsSound (opening c)
sound-opening c = record {
  ascending = tt;
  made = λ x e. absurd (false≢true e);
  roots = λ x e. absurd (false≢true (sym (ap (is_among x) nothing) ∙ e));
  closed = λ x y e. absurd (false≢true e);
}
  where
    nothing : root_names start ≡ []
    nothing = refl

-- What such an event does to the board.

-- without a place it changes the graph alone
sound-unplaced : (c : Config) (b : Board) (t : ℕ) (o : Op) (r : Reply) → Holds (graph_after b.plain t o r) (names_placed b.present) → IsSound (after_row c b t o r None)
sound-unplaced c b t o r h = by (want_of c.geometry o)
  where
    by : (want : Option Want) → IsSound (board_after_reply want None r (record b { plain = graph_after b.plain t o r }))
    by None = IsSound-from (record b { plain = graph_after b.plain t o r }) h
    by (Some w) = IsSound-from (record b { plain = graph_after b.plain t o r }) h

-- an allocation that is placed makes one object present
sound-placed : (c : Config) (b : Board) (t : ℕ) (o : Op) (w : Want) (spot : Spot) → want_of c.geometry o ≡ Some w → Holds b.plain (names_placed b.present) → t < length b.plain.mutators → t < 32
    → IsSound (after_row c b t o (step b.plain t o).0 (Some spot))
sound-placed c b t (op.New r refs values) w spot asks h within below =
    let new = new_object refs values in
    IsSound-from (after_row c b t (op.New r refs values) (step b.plain t (op.New r refs values)).0 (Some spot)) (sound-allocated b.plain b.present t r new spot.region spot.leaves h within below (λ p. names-none p refs))
sound-placed c b t (op.Arr r len) w spot asks h within below =
    IsSound-from (after_row c b t (op.Arr r len) (step b.plain t (op.Arr r len)).0 (Some spot)) (sound-allocated b.plain b.present t r (new_array len) spot.region spot.leaves h within below (λ p. names-none p len))
sound-placed c b t (op.Store holder slot value) w spot asks h within below = absurd (none-some w asks)
sound-placed c b t (op.Load into holder slot) w spot asks h within below = absurd (none-some w asks)
sound-placed c b t (op.Put holder slot number) w spot asks h within below = absurd (none-some w asks)
sound-placed c b t (op.Get holder slot) w spot asks h within below = absurd (none-some w asks)
sound-placed c b t (op.GStore g r) w spot asks h within below = absurd (none-some w asks)
sound-placed c b t (op.GLoad into g) w spot asks h within below = absurd (none-some w asks)
sound-placed c b t (op.Drop r) w spot asks h within below = absurd (none-some w asks)
sound-placed c b t op.Gc w spot asks h within below = absurd (none-some w asks)

-- a row's own event keeps the board sound, where there are 32 threads
pub sound-row : (rule : Rule) (c : Config) (turn : Turn) (stage : Stage) (b : Board) (e : Entry) → IsSound b → length b.plain.mutators ≡ 32 → turn.row.thread < 32
    → own_at rule c turn stage b ≡ Some e → IsSound (after c b e)
sound-row rule c turn stage b e sound threads below own =
    let h = Holds-from b sound in
    let t = turn.row.thread in
    let o = turn.row.op in
    let r = (step b.plain t o).0 in
    own-event (λ (e : Entry). IsSound (after c b e)) rule c turn stage b e
    (λ none. sound-unplaced c b t o r (cond_both (is_full r) b.plain (step b.plain t o).1 (λ (s : State). Holds s (names_placed b.present)) (λ full. h) (λ no. step-sound c.geometry b.plain (names_placed b.present) t o none h)))
    (λ w asks. sound-placed c b t o w (spot_for c.geometry b.regions b.current w) asks h (omega arith) below)
    (λ w asks full. sound-unplaced c b t o reply.Full h)
    own

-- The threads of a graph.

threads-slot : (s : State) (x : Option Name) (count : Name → ℕ) (slot : ℕ) (act : Name → Step) → ((x : Name) → length (act x).1.mutators ≡ length s.mutators) → length (at_slot s x count slot act).1.mutators ≡ length s.mutators
threads-slot s None count slot act h = refl
threads-slot s (Some x) count slot act h = by (ltb slot (count x))
  where
    by : (b : Bool) → length (cond b (act x) (reply.Slot, s)).1.mutators ≡ length s.mutators
    by true = h x
    by false = refl

-- a step makes no thread
threads-step : (s : State) (t : ℕ) (o : Op) → length (step s t o).1.mutators ≡ length s.mutators
threads-step s t (op.New r refs values) = length-set s.mutators t (adopting t r (new_object refs values) (mutator s t))
threads-step s t (op.Arr r len) = length-set s.mutators t (adopting t r (new_array len) (mutator s t))
threads-step s t (op.Store holder slot value) = threads-slot s (register s t holder) (reference_count s) slot (λ x. (reply.Ok, with_reference s x slot (register s t value)))
    (λ x. length-set s.mutators x.thread (altering x.ordinal (referring slot (register s t value)) (mutator s x.thread)))
threads-step s t (op.Load into holder slot) = threads-slot s (register s t holder) (reference_count s) slot (λ x. taking s t into (reference s x slot))
    (λ x. length-set s.mutators t (holding into (reference s x slot) (mutator s t)))
threads-step s t (op.Put holder slot number) = threads-slot s (register s t holder) (value_count s) slot (λ x. (reply.Ok, with_value s x slot number))
    (λ x. length-set s.mutators x.thread (altering x.ordinal (counting slot number) (mutator s x.thread)))
threads-step s t (op.Get holder slot) = threads-slot s (register s t holder) (value_count s) slot (λ x. (reply.Number (value s x slot), s)) (λ x. refl)
threads-step s t (op.GStore g r) = refl
threads-step s t (op.GLoad into g) = length-set s.mutators t (holding into (global s g) (mutator s t))
threads-step s t (op.Drop r) = length-set s.mutators t (holding r None (mutator s t))
threads-step s t op.Gc = refl

-- placing leaves the graph
graph-settled : (want : Option Want) (p : Option Spot) (r : Reply) (b : Board) → (board_after_reply want p r b).plain ≡ b.plain
graph-settled None p r b = refl
graph-settled (Some w) None r b = refl
graph-settled (Some w) (Some spot) (reply.Name x) b = refl
graph-settled (Some w) (Some spot) reply.Null b = refl
graph-settled (Some w) (Some spot) (reply.Number n) b = refl
graph-settled (Some w) (Some spot) reply.Ok b = refl
graph-settled (Some w) (Some spot) reply.Nil b = refl
graph-settled (Some w) (Some spot) reply.Slot b = refl
graph-settled (Some w) (Some spot) reply.Full b = refl

-- the graph after a row's event, whatever it says
pub graph-row : (c : Config) (b : Board) (t k : ℕ) (o : Op) (r : Reply) (p : Option Spot) → (after c b (row t k o r p)).plain ≡ graph_after b.plain t o r
graph-row c b t k o r p = graph-settled (want_of c.geometry o) p r (record b { plain = graph_after b.plain t o r })

pub threads-row : (c : Config) (b : Board) (t k : ℕ) (o : Op) (r : Reply) (p : Option Spot) → length (after c b (row t k o r p)).plain.mutators ≡ length b.plain.mutators
threads-row c b t k o r p = ap (λ (s : State). length s.mutators) (graph-row c b t k o r p)
    ∙ cond_both (is_full r) b.plain (step b.plain t o).1 (λ (s : State). length s.mutators ≡ length b.plain.mutators) (λ full. refl) (λ no. threads-step b.plain t o)
