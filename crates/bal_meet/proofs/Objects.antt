-- The objects of the plain state once a mutator has changed.
use Rattle.std.proofs.Common.{◌≡◌, ◌<◌, ◌+◌, ◌-◌, inl, inr, ℕ, zero, suc, List, [], ◌∷◌, ◌++◌, length, get_or, None, Some, refl, ap, sym, ◌∙◌, arith, add-one}
use Rattle.std.specs.Prelude.{slice_get}
use Rattle.std.proofs.lemmas.Bool.{cases_lt}
use Rattle.std.proofs.lemmas.List.{get_or-set_other, get_or-set_same, get_or_past, set_past}
use Rattle.std.proofs.lemmas.Option.{get_or_from_slice_get, none-some, slice_get_past}
use Rattle.bal_layout.specs.declared.name.Name.{Name}
use Rattle.bal_meet.proofs.Lists.{slice_get-last, slice_get-more, slice_get-set_other, slice_get-set_same}
use Rattle.bal_model.specs.Plain.{Mutator, Object, State, adopting, altering, changed_at, mutator, new_object, next_name, object, object_at, with_mutator, with_object}
use Rattle.bal_words.proofs.Lemmas.{same-or, same_parts}

-- a mutator past the end
abbrev pub nobody : Mutator
nobody = record { registers = []; made = [] }

-- what a thread made
abbrev made_at : State → ℕ → List Object
made_at s t = (mutator s t).made

-- A mutator is replaced.

-- the one at this number is the new one
made-here : (s : State) (t : ℕ) (m : Mutator) → t < length s.mutators → made_at (with_mutator s t m) t ≡ m.made
made-here s t m within = ap (λ (m : Mutator). m.made) (get_or-set_same s.mutators t m nobody within)

-- and the others are as they were
made-other : (s : State) (t u : ℕ) (m : Mutator) → (u ≡ t → ⊥) → made_at (with_mutator s t m) u ≡ made_at s u
made-other s t u m other = ap (λ (m : Mutator). m.made) (get_or-set_other s.mutators t u m nobody other)

-- where it made what the old one did, all have made what they had
made-kept : (s : State) (t u : ℕ) (m : Mutator) → m.made ≡ made_at s t → made_at (with_mutator s t m) u ≡ made_at s u
made-kept s t u m same = elim (same-or u t) [
  | inl here ↦ elim (cases_lt t (length s.mutators)) [
    | inl within ↦ ap (made_at (with_mutator s t m)) here ∙ (made-here s t m within ∙ (same ∙ ap (made_at s) (sym here)))
    | inr past ↦ ap (λ ms. (get_or ms u nobody).made) (set_past s.mutators t m past)
  ]
  | inr other ↦ made-other s t u m other
]

-- so all objects stay
pub object-kept : (s : State) (t : ℕ) (m : Mutator) → m.made ≡ made_at s t → (y : Name) → object (with_mutator s t m) y ≡ object s y
object-kept s t m same y = ap (λ made. object_at made y.ordinal) (made-kept s t y.thread m same)

-- An object is made.

-- the next name is of no object yet
pub object-unmade : (s : State) (t : ℕ) → object s (next_name s t) ≡ None
object-unmade s t = ap (object_at (made_at s t)) (add-one (length (made_at s t))) ∙ slice_get_past (made_at s t) (length (made_at s t)) (omega arith)

-- the new object has the next name
pub object-made : (s : State) (t r : ℕ) (o : Object) → t < length s.mutators
    → object (with_mutator s t (adopting t r o (mutator s t))) (next_name s t) ≡ Some o
object-made s t r o within =
    ap (λ made. object_at made (length (made_at s t) + 1)) (made-here s t (adopting t r o (mutator s t)) within)
    ∙ (ap (object_at (made_at s t ++ o ∷ [])) (add-one (length (made_at s t))) ∙ slice_get-last (made_at s t) o)

-- one more object leaves the others of a thread
object_at-more : (made : List Object) (o : Object) (i : ℕ) → (i ≡ length made + 1 → ⊥) → object_at (made ++ o ∷ []) i ≡ object_at made i
object_at-more made o zero other = refl
object_at-more made o (suc i) other = slice_get-more made o i (λ e. other (ap suc e ∙ sym (add-one (length made))))

-- and all others stay
pub object-others : (s : State) (t r : ℕ) (o : Object) → t < length s.mutators → (y : Name) → (y ≡ next_name s t → ⊥)
    → object (with_mutator s t (adopting t r o (mutator s t))) y ≡ object s y
object-others s t r o within y other = elim (same-or y.thread t) [
  | inl here ↦
      let m : Mutator = adopting t r o (mutator s t) in
      let old : made_at s t ≡ made_at s y.thread = ap (made_at s) (sym here) in
      let new : made_at (with_mutator s t m) y.thread ≡ made_at s t ++ o ∷ [] = ap (made_at (with_mutator s t m)) here ∙ made-here s t m within in
      ap (λ made. object_at made y.ordinal) new
      ∙ (object_at-more (made_at s t) o y.ordinal (λ e. other (same_parts y (next_name s t) here e)) ∙ ap (λ made. object_at made y.ordinal) old)
  | inr apart ↦ ap (λ made. object_at made y.ordinal) (made-other s t y.thread (adopting t r o (mutator s t)) apart)
]

-- An object is changed.

-- what has an object has a place among the mutators
pub object-within : (s : State) (x : Name) (o : Object) → object s x ≡ Some o → x.thread < length s.mutators
object-within s x o is = elim (cases_lt x.thread (length s.mutators)) [
  | inl within ↦ within
  | inr past ↦
      let none : made_at s x.thread ≡ [] = ap (λ (m : Mutator). m.made) (get_or_past s.mutators x.thread nobody past) in
      absurd (none-some o (sym (nothing x.ordinal) ∙ (ap (λ made. object_at made x.ordinal) (sym none) ∙ is)))
]
  where
    nothing : (i : ℕ) → object_at [] i ≡ None
    nothing zero = refl
    nothing (suc i) = refl

-- the object that was changed, among those of its thread
object_at-changed : (made : List Object) (i : ℕ) (o : Object) (f : Object → Object) → object_at made i ≡ Some o
    → object_at (changed_at made (i - 1) f) i ≡ Some (f o)
object_at-changed made zero o f is = absurd (none-some o is)
object_at-changed made (suc i) o f is =
    let at : suc i - 1 ≡ i = omega arith in
    let old : get_or made i (new_object 0 0) ≡ o = get_or_from_slice_get made i o (new_object 0 0) is in
    ap (λ k. slice_get (changed_at made k f) i) at ∙ (slice_get-set_same made i o (f (get_or made i (new_object 0 0))) is ∙ ap (λ p. Some (f p)) old)

-- and the others of its thread
object_at-unchanged : (made : List Object) (i j : ℕ) (o : Object) (f : Object → Object) → object_at made i ≡ Some o → (j ≡ i → ⊥)
    → object_at (changed_at made (i - 1) f) j ≡ object_at made j
object_at-unchanged made zero j o f is other = absurd (none-some o is)
object_at-unchanged made (suc i) zero o f is other = refl
object_at-unchanged made (suc i) (suc j) o f is other =
    slice_get-set_other made (suc i - 1) j (f (get_or made (suc i - 1) (new_object 0 0))) (λ e. other (omega (arith, e)))

-- the object that was changed
pub object-changed : (s : State) (x : Name) (o : Object) (f : Object → Object) → object s x ≡ Some o → object (with_object s x f) x ≡ Some (f o)
object-changed s x o f is =
    ap (λ made. object_at made x.ordinal) (made-here s x.thread (altering x.ordinal f (mutator s x.thread)) (object-within s x o is))
    ∙ object_at-changed (made_at s x.thread) x.ordinal o f is

-- all others stay
pub object-unchanged : (s : State) (x : Name) (o : Object) (f : Object → Object) → object s x ≡ Some o → (y : Name) → (y ≡ x → ⊥)
    → object (with_object s x f) y ≡ object s y
object-unchanged s x o f is y other = elim (same-or y.thread x.thread) [
  | inl here ↦
      let m : Mutator = altering x.ordinal f (mutator s x.thread) in
      let old : made_at s x.thread ≡ made_at s y.thread = ap (made_at s) (sym here) in
      let new : made_at (with_mutator s x.thread m) y.thread ≡ m.made =
      ap (made_at (with_mutator s x.thread m)) here ∙ made-here s x.thread m (object-within s x o is) in
      ap (λ made. object_at made y.ordinal) new
      ∙ (object_at-unchanged (made_at s x.thread) x.ordinal y.ordinal o f is (λ e. other (same_parts y x here e)) ∙ ap (λ made. object_at made y.ordinal) old)
  | inr apart ↦ ap (λ made. object_at made y.ordinal) (made-other s x.thread y.thread (altering x.ordinal f (mutator s x.thread)) apart)
]
