-- What the plain step never does, and how many objects it makes.
use Rattle.std.proofs.Common.{◌≡◌, ◌≤◌, ◌+◌, ◌-◌, ◌⊎◌, inl, inr, replicate, ℕ, zero, suc, List, [], ◌∷◌, length, get_or, set, Option, None, Some, Bool, true, false, cond, eqb, ltb, refl, ap, arith, length-append}
use Rattle.std.proofs.lemmas.Bool.{cond-false, eq-eqb}
use Rattle.std.proofs.lemmas.List.{length-set}
use Rattle.bal_layout.specs.declared.name.Name.{Name}
use Rattle.bal_model.specs.declared.row.Op.{Op}
use Rattle.bal_model.specs.declared.row.Op.TheVariants as op
use Rattle.bal_model.specs.declared.row.Reply.TheVariants as reply
use Rattle.bal_model.specs.Plain.{State, Mutator, Object, Step, allocating, step, start, idle, at_slot, taking, register, reference, reference_count, value, value_count, global, name_or_null, mutator, made_by, with_mutator, adopting, holding, altering, referring, counting, new_object, new_array, with_reference, with_value}
use Rattle.bal_model.specs.Plain.{is_full, graph_after}

-- a row that names a slot isn't full where what it does there isn't
not-full-at : (s : State) (x : Option Name) (count : Name → ℕ) (slot : ℕ) (act : Name → Step) → ((x : Name) → is_full (act x).0 ≡ false) → is_full (at_slot s x count slot act).0 ≡ false
not-full-at s None count slot act h = refl
not-full-at s (Some x) count slot act h = by (ltb slot (count x))
  where
    by : (b : Bool) → is_full (cond b (act x) (reply.Slot, s)).0 ≡ false
    by true = h x
    by false = refl

not-full-name : (x : Option Name) → is_full (name_or_null x) ≡ false
not-full-name None = refl
not-full-name (Some x) = refl

-- the plain step never replies full
pub not-full : (s : State) (t : ℕ) (o : Op) → is_full (step s t o).0 ≡ false
not-full s t (op.New r many numbers) = refl
not-full s t (op.Arr r len) = refl
not-full s t (op.Store holder slot content) = not-full-at s (register s t holder) (reference_count s) slot (λ x. (reply.Ok, with_reference s x slot (register s t content))) (λ x. refl)
not-full s t (op.Load into holder slot) = not-full-at s (register s t holder) (reference_count s) slot (λ x. taking s t into (reference s x slot)) (λ x. not-full-name (reference s x slot))
not-full s t (op.Put holder slot number) = not-full-at s (register s t holder) (value_count s) slot (λ x. (reply.Ok, with_value s x slot number)) (λ x. refl)
not-full s t (op.Get holder slot) = not-full-at s (register s t holder) (value_count s) slot (λ x. (reply.Number (value s x slot), s)) (λ x. refl)
not-full s t (op.GStore g r) = refl
not-full s t (op.GLoad into g) = not-full-name (global s g)
not-full s t (op.Drop r) = refl
not-full s t op.Gc = refl

-- so the graph after a row with the reply of the plain step is that of the step
pub graph_after-step : (s : State) (t : ℕ) (o : Op) → graph_after s t o (step s t o).0 ≡ (step s t o).1
graph_after-step s t o = cond-false (is_full (step s t o).0) s (step s t o).1 (not-full s t o)

-- a mutator past the end
abbrev nobody : Mutator
nobody = record { registers = []; made = [] }

made-replicate : (n t : ℕ) → length (get_or (replicate n idle) t nobody).made ≡ 0
made-replicate zero t = refl
made-replicate (suc n) zero = refl
made-replicate (suc n) (suc t) = made-replicate n t

-- nobody has made anything at the start
pub made_by-start : (t : ℕ) → made_by start t ≡ 0
made_by-start t = made-replicate 32 t

-- where one mutator is replaced, each other one has made what it had
made-set : (ms : List Mutator) (t u : ℕ) (m : Mutator)
    → (length (get_or (set ms t m) u nobody).made ≡ length (get_or ms u nobody).made) ⊎ ((t ≡ u) × (length (get_or (set ms t m) u nobody).made ≡ length m.made))
made-set [] t u m = inl refl
made-set (x ∷ ms) zero zero m = inr (refl, refl)
made-set (x ∷ ms) zero (suc u) m = inl refl
made-set (x ∷ ms) (suc t) zero m = inl refl
made-set (x ∷ ms) (suc t) (suc u) m = elim (made-set ms t u m) [ inl e ↦ inl e | inr e ↦ inr (ap suc e.0, e.1) ]

-- a step makes at most one object, of its own thread
abbrev pub one_for : ℕ → ℕ → ℕ
one_for t u = cond (eqb t u) 1 0

one-for-same : (t u : ℕ) → t ≡ u → one_for t u ≡ 1
one-for-same t u e = rw (eq-eqb t u e) refl

-- a mutator that is replaced by one that has made as much
kept : (s : State) (t v u : ℕ) (m : Mutator) → length m.made ≡ made_by s v → made_by (with_mutator s v m) u ≤ made_by s u + one_for t u
kept s t v u m h = elim (made-set s.mutators v u m) [ inl e ↦ omega (arith, e) | inr e ↦ omega (arith, e.1, h, ap (made_by s) e.0) ]

kept-at : (s : State) (t u : ℕ) (x : Option Name) (count : Name → ℕ) (slot : ℕ) (act : Name → Step) → ((x : Name) → made_by (act x).1 u ≤ made_by s u + one_for t u)
    → made_by (at_slot s x count slot act).1 u ≤ made_by s u + one_for t u
kept-at s t u None count slot act h = omega arith
kept-at s t u (Some x) count slot act h = by (ltb slot (count x))
  where
    by : (b : Bool) → made_by (cond b (act x) (reply.Slot, s)).1 u ≤ made_by s u + one_for t u
    by true = h x
    by false = omega arith

-- a changed object is the same one
kept-changed : (s : State) (t u : ℕ) (x : Name) (change : Object → Object) → made_by (with_mutator s x.thread (altering x.ordinal change (mutator s x.thread))) u ≤ made_by s u + one_for t u
kept-changed s t u x change = kept s t x.thread u (altering x.ordinal change (mutator s x.thread)) (length-set (mutator s x.thread).made (x.ordinal - 1) _)

-- one more object is the thread's
made_by-allocating : (s : State) (t r : ℕ) (o : Object) (u : ℕ) → made_by (allocating s t r o).1 u ≤ made_by s u + one_for t u
made_by-allocating s t r o u =
    let m = adopting t r o (mutator s t) in
    let more : length m.made ≡ made_by s t + 1 = length-append (mutator s t).made (o ∷ []) in
    elim (made-set s.mutators t u m) [ inl e ↦ omega (arith, e) | inr e ↦ omega (arith, e.1, more, ap (made_by s) e.0, one-for-same t u e.0) ]

pub made_by-step : (s : State) (t : ℕ) (o : Op) (u : ℕ) → made_by (step s t o).1 u ≤ made_by s u + one_for t u
made_by-step s t (op.New r many numbers) u = made_by-allocating s t r (new_object many numbers) u
made_by-step s t (op.Arr r len) u = made_by-allocating s t r (new_array len) u
made_by-step s t (op.Store holder slot content) u =
    kept-at s t u (register s t holder) (reference_count s) slot (λ x. (reply.Ok, with_reference s x slot (register s t content)))
    (λ x. kept-changed s t u x (referring slot (register s t content)))
made_by-step s t (op.Load into holder slot) u =
    kept-at s t u (register s t holder) (reference_count s) slot (λ x. taking s t into (reference s x slot))
    (λ x. kept s t t u (holding into (reference s x slot) (mutator s t)) refl)
made_by-step s t (op.Put holder slot number) u =
    kept-at s t u (register s t holder) (value_count s) slot (λ x. (reply.Ok, with_value s x slot number))
    (λ x. kept-changed s t u x (counting slot number))
made_by-step s t (op.Get holder slot) u =
    kept-at s t u (register s t holder) (value_count s) slot (λ x. (reply.Number (value s x slot), s)) (λ x. omega arith)
made_by-step s t (op.GStore g r) u = omega arith
made_by-step s t (op.GLoad into g) u = kept s t t u (holding into (global s g) (mutator s t)) refl
made_by-step s t (op.Drop r) u = kept s t t u (holding r None (mutator s t)) refl
made_by-step s t op.Gc u = omega arith
