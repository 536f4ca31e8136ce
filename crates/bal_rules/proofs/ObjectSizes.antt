-- No step changes how large an object is, and a new object is as large as what was asked for.
use Rattle.std.proofs.Common.{◌≡◌, ◌<◌, ◌≤◌, ◌+◌, ◌-◌, ℕ, zero, suc, List, [], ◌∷◌, ◌++◌, Bool, true, false, cond, ltb, Option, Some, None, get_or, set, length, refl, ap, ap₂, subst, ◌∙◌, add-one, arith, get_or-set_same, length-set}
use Rattle.std.specs.Prelude.{slice_get}
use Rattle.std.proofs.lemmas.List.{length-replicate}
use Rattle.std.proofs.lemmas.Option.{none-some, same_Some}
use Rattle.bal_layout.specs.Geometry.{size_of_plain}
use Rattle.bal_layout.specs.Shape.{Shape, largest_of}
use Rattle.bal_layout.specs.declared.geometry.Want.{Want}
use Rattle.bal_layout.specs.declared.name.Kind.{Kind}
use Rattle.bal_layout.specs.declared.name.Name.{Name}
use Rattle.bal_model.specs.Plain.{State, Mutator, Object, Step, adopting, allocating, altering, at_slot, changed_at, counting, global, holding, made_by, mutator, new_array, new_object, next_name, object, object_at, reference, reference_count, referring, register, step, taking, value, value_count, with_mutator, with_reference, with_value}
use Rattle.bal_model.specs.Sizes.{size_of, size_of_array, size_of_kind}
use Rattle.bal_model.specs.Spelling.{IsOp}
use Rattle.bal_model.specs.declared.config.Config.{Config}
use Rattle.bal_model.specs.declared.row.Op.{Op}
use Rattle.bal_model.specs.declared.row.Op.TheVariants as op
use Rattle.bal_model.specs.declared.row.Reply.TheVariants as reply
use Rattle.bal_rules.specs.Board.{words_of_object}
use Rattle.bal_rules.specs.Occupied.{leaves_of_object}
use Rattle.bal_rules.specs.RowEvents.{want_of}
use Rattle.bal_rules.proofs.RowsSound.{mutator-set}

-- a number that an object's references and values don't change
pub record IsMeasure (g : Option Object → ℕ) : Type 0 where
  pub references : (slot : ℕ) (content : Option Name) (o : Object) → g (Some (referring slot content o)) ≡ g (Some o)
  pub values : (slot number : ℕ) (o : Object) → g (Some (counting slot number o)) ≡ g (Some o)

-- One object.

changed-measure : (g : Option Object → ℕ) (change : Object → Object) → ((o : Object) → g (Some (change o)) ≡ g (Some o)) → (made : List Object) (i j : ℕ) (d : Object)
    → g (slice_get (set made i (change (get_or made i d))) j) ≡ g (slice_get made j)
changed-measure g change keeps [] i j d = refl
changed-measure g change keeps (o ∷ made) zero zero d = keeps o
changed-measure g change keeps (o ∷ made) zero (suc j) d = refl
changed-measure g change keeps (o ∷ made) (suc i) zero d = refl
changed-measure g change keeps (o ∷ made) (suc i) (suc j) d = changed-measure g change keeps made i j d

changed-at : (g : Option Object → ℕ) (change : Object → Object) → ((o : Object) → g (Some (change o)) ≡ g (Some o)) → (made : List Object) (i ordinal : ℕ)
    → g (object_at (changed_at made i change) ordinal) ≡ g (object_at made ordinal)
changed-at g change keeps made i zero = refl
changed-at g change keeps made i (suc j) = changed-measure g change keeps made i j (new_object 0 0)

get-first : (made : List Object) (new : Object) (j : ℕ) → j < length made → slice_get (made ++ new ∷ []) j ≡ slice_get made j
get-first [] new j h = absurd (omega (arith, h))
get-first (o ∷ made) new zero h = refl
get-first (o ∷ made) new (suc j) h = get-first made new j (omega (arith, h))

get-last : (made : List Object) (new : Object) → slice_get (made ++ new ∷ []) (length made) ≡ Some new
get-last [] new = refl
get-last (o ∷ made) new = get-last made new

object-first : (made : List Object) (new : Object) (ordinal : ℕ) → ordinal ≤ length made → object_at (made ++ new ∷ []) ordinal ≡ object_at made ordinal
object-first made new zero h = refl
object-first made new (suc j) h = get-first made new j (omega (arith, h))

-- A mutator that was replaced.

replaced : (g : Option Object → ℕ) (s : State) (t : ℕ) (m : Mutator) (x : Name) → (t ≡ x.thread → g (object_at m.made x.ordinal) ≡ g (object s x)) → g (object (with_mutator s t m) x) ≡ g (object s x)
replaced g s t m x new = mutator-set (λ (n : Mutator). g (object_at n.made x.ordinal) ≡ g (object s x)) s.mutators t x.thread m refl new

by-thread : (g : Option Object → ℕ) (s : State) (t : ℕ) (x : Name) → t ≡ x.thread → g (object_at (mutator s t).made x.ordinal) ≡ g (object s x)
by-thread g s t x same = ap (λ (v : ℕ). g (object_at (mutator s v).made x.ordinal)) same

measure-held : (g : Option Object → ℕ) (s : State) (t r : ℕ) (content : Option Name) (x : Name) → g (object (with_mutator s t (holding r content (mutator s t))) x) ≡ g (object s x)
measure-held g s t r content x = replaced g s t (holding r content (mutator s t)) x (by-thread g s t x)

measure-changed : (g : Option Object → ℕ) (s : State) (y : Name) (change : Object → Object) (x : Name) → ((o : Object) → g (Some (change o)) ≡ g (Some o))
    → g (object (with_mutator s y.thread (altering y.ordinal change (mutator s y.thread))) x) ≡ g (object s x)
measure-changed g s y change x keeps =
    replaced g s y.thread (altering y.ordinal change (mutator s y.thread)) x
    (λ same. changed-at g change keeps (mutator s y.thread).made (y.ordinal - 1) x.ordinal ∙ by-thread g s y.thread x same)

measure-more : (g : Option Object → ℕ) (s : State) (t r : ℕ) (new : Object) (x : Name) → x.ordinal ≤ made_by s x.thread → g (object (allocating s t r new).1 x) ≡ g (object s x)
measure-more g s t r new x was =
    replaced g s t (adopting t r new (mutator s t)) x
    (λ same. ap g (object-first (mutator s t).made new x.ordinal (omega (arith, was, ap (made_by s) same))) ∙ by-thread g s t x same)

measure-slot : (g : Option Object → ℕ) (s : State) (y : Option Name) (count : Name → ℕ) (slot : ℕ) (act : Name → Step) (x : Name) → ((y : Name) → g (object (act y).1 x) ≡ g (object s x))
    → g (object (at_slot s y count slot act).1 x) ≡ g (object s x)
measure-slot g s None count slot act x acts = refl
measure-slot g s (Some y) count slot act x acts = by (ltb slot (count y))
  where
    by : (b : Bool) → g (object (cond b (act y) (reply.Slot, s)).1 x) ≡ g (object s x)
    by true = acts y
    by false = refl

-- Each object that was made stays as large as it was.
pub measure-step : (g : Option Object → ℕ) (s : State) (t : ℕ) (o : Op) (x : Name) → IsMeasure g → x.ordinal ≤ made_by s x.thread → g (object (step s t o).1 x) ≡ g (object s x)
measure-step g s t (op.New r refs values) x keeps was = measure-more g s t r (new_object refs values) x was
measure-step g s t (op.Arr r len) x keeps was = measure-more g s t r (new_array len) x was
measure-step g s t (op.Store holder slot content) x keeps was =
    measure-slot g s (register s t holder) (reference_count s) slot (λ y. (reply.Ok, with_reference s y slot (register s t content))) x
    (λ y. measure-changed g s y (referring slot (register s t content)) x (keeps.references slot (register s t content)))
measure-step g s t (op.Load into holder slot) x keeps was =
    measure-slot g s (register s t holder) (reference_count s) slot (λ y. taking s t into (reference s y slot)) x (λ y. measure-held g s t into (reference s y slot) x)
measure-step g s t (op.Put holder slot number) x keeps was =
    measure-slot g s (register s t holder) (value_count s) slot (λ y. (reply.Ok, with_value s y slot number)) x
    (λ y. measure-changed g s y (counting slot number) x (keeps.values slot number))
measure-step g s t (op.Get holder slot) x keeps was = measure-slot g s (register s t holder) (value_count s) slot (λ y. (reply.Number (value s y slot), s)) x (λ y. refl)
measure-step g s t (op.GStore number r) x keeps was = refl
measure-step g s t (op.GLoad into number) x keeps was = measure-held g s t into (global s number) x
measure-step g s t (op.Drop r) x keeps was = measure-held g s t r None x
measure-step g s t op.Gc x keeps was = refl

-- The two numbers.

same-size : (s : Shape) (kind : Kind) (m n k l : ℕ) → m ≡ n → k ≡ l → size_of_kind s kind m k ≡ size_of_kind s kind n l
same-size s kind m n k l e f = ap₂ (size_of_kind s kind) e f

pub words-measure : (c : Config) → IsMeasure (words_of_object c)
words-measure c = record {
  references = λ slot content o. ap (λ (w : Want). w.words) (same-size c.geometry o.kind (length (set o.refs slot content)) (length o.refs) (length o.values) (length o.values) (length-set o.refs slot content) refl);
  values = λ slot number o. ap (λ (w : Want). w.words) (same-size c.geometry o.kind (length o.refs) (length o.refs) (length (set o.values slot number)) (length o.values) refl (length-set o.values slot number));
}

pub leaves-measure : (c : Config) → IsMeasure (leaves_of_object c)
leaves-measure c = record {
  references = λ slot content o. ap (λ (w : Want). w.leaves) (same-size c.geometry o.kind (length (set o.refs slot content)) (length o.refs) (length o.values) (length o.values) (length-set o.refs slot content) refl);
  values = λ slot number o. ap (λ (w : Want). w.leaves) (same-size c.geometry o.kind (length o.refs) (length o.refs) (length (set o.values slot number)) (length o.values) refl (length-set o.values slot number));
}

-- A new object.

new-made : (s : State) (t r : ℕ) (new : Object) → t < length s.mutators → object (allocating s t r new).1 (next_name s t) ≡ Some new
new-made s t r new within =
    ap (λ (m : Mutator). object_at m.made (made_by s t + 1)) (get_or-set_same s.mutators t (adopting t r new (mutator s t)) (record { registers = []; made = [] }) within)
    ∙ rw add-one (get-last (mutator s t).made new)

-- what the object of an allocation takes is what the row asked for
pub record IsMadeAsAsked (c : Config) (s : State) (t : ℕ) (o : Op) (w : Want) : Type 0 where
  pub name : (step s t o).0 ≡ reply.Name (next_name s t)
  pub words : words_of_object c (object (step s t o).1 (next_name s t)) ≡ w.words
  pub leaves : leaves_of_object c (object (step s t o).1 (next_name s t)) ≡ w.leaves
  pub small : w.words ≤ largest_of c.geometry

pub made-as-asked : (c : Config) (s : State) (t : ℕ) (o : Op) (w : Want) → IsOp c.geometry o → t < length s.mutators → want_of c.geometry o ≡ Some w → IsMadeAsAsked c s t o w
made-as-asked c s t (op.New r refs values) w is within asks =
    let new = new_object refs values in
    let made : object (step s t (op.New r refs values)).1 (next_name s t) ≡ Some new = new-made s t r new within in
    let want : record { words = size_of_plain refs values; leaves = 0 } ≡ w = same_Some (record { words = size_of_plain refs values; leaves = 0 }) w asks in
    record {
      name = refl;
      words = ap (words_of_object c) made ∙ (ap₂ size_of_plain (length-replicate refs None) (length-replicate values 0) ∙ ap (λ (v : Want). v.words) want);
      leaves = ap (leaves_of_object c) made ∙ ap (λ (v : Want). v.leaves) want;
      small = subst (λ (v : Want). v.words ≤ largest_of c.geometry) want is.1;
    }
made-as-asked c s t (op.Arr r len) w is within asks =
    let new = new_array len in
    let made : object (step s t (op.Arr r len)).1 (next_name s t) ≡ Some new = new-made s t r new within in
    let want : size_of_array c.geometry len ≡ w = same_Some (size_of_array c.geometry len) w asks in
    let size : size_of c.geometry new ≡ w = ap (size_of_array c.geometry) (length-replicate len None) ∙ want in
    record {
      name = refl;
      words = ap (words_of_object c) made ∙ ap (λ (v : Want). v.words) size;
      leaves = ap (leaves_of_object c) made ∙ ap (λ (v : Want). v.leaves) size;
      small = subst (λ (v : Want). v.words ≤ largest_of c.geometry) want is.2;
    }
made-as-asked c s t (op.Store holder slot value) w is within asks = absurd (none-some w asks)
made-as-asked c s t (op.Load into holder slot) w is within asks = absurd (none-some w asks)
made-as-asked c s t (op.Put holder slot number) w is within asks = absurd (none-some w asks)
made-as-asked c s t (op.Get holder slot) w is within asks = absurd (none-some w asks)
made-as-asked c s t (op.GStore g r) w is within asks = absurd (none-some w asks)
made-as-asked c s t (op.GLoad into g) w is within asks = absurd (none-some w asks)
made-as-asked c s t (op.Drop r) w is within asks = absurd (none-some w asks)
made-as-asked c s t op.Gc w is within asks = absurd (none-some w asks)
