-- The objects of a graph keep to their ranges where the rows do.
use Rattle.std.proofs.Common.{◌<◌, ◌≤◌, ◌-◌, ℕ, [], ◌∷◌, Bool, true, false, cond, ltb, Option, Some, None, get_or, arith, length-set}
use Rattle.std.proofs.lemmas.List.{length-replicate}
use Rattle.std.specs.Prelude.{◌^◌}
use Rattle.std.specs.List.{AllByRecursion}
use Rattle.bal_layout.specs.Shape.{Shape, IsShape, largest_of}
use Rattle.bal_layout.specs.Geometry.{size_of_plain}
use Rattle.bal_layout.specs.declared.name.Name.{Name}
use Rattle.bal_model.specs.declared.row.Op.{Op}
use Rattle.bal_model.specs.declared.row.Op.TheVariants as op
use Rattle.bal_model.specs.declared.row.Reply.TheVariants as reply
use Rattle.bal_model.specs.Plain.{State, Mutator, Object, Step, start, idle, mutator, register, reference, reference_count, value, value_count, global, new_object, new_array, with_mutator, with_reference, with_value, adopting, altering, referring, counting, holding, at_slot, taking, step}
use Rattle.bal_model.specs.Spelling.{IsOp}
use Rattle.bal_rules.specs.Range.{IsObjectInRange, AreObjectsInRange}
use Rattle.bal_rules.proofs.Each.{each-set, each-at, each-append, each-replicate}

-- what a thread has made
abbrev pub MadeInRange : Mutator → Type 0
MadeInRange m = AllByRecursion IsObjectInRange m.made

-- the numbers of an object without any are in range
pub blank-in-range : (refs values : ℕ) → refs < 2 ^ 24 → IsObjectInRange (new_object refs values)
blank-in-range refs values few = record {
  refs = let e = length-replicate {A = Option Name} refs None in omega (arith, e);
  values = each-replicate (λ (v : ℕ). v < 2 ^ 64) values 0 (omega arith);
}

pub array-in-range : (len : ℕ) → len < 2 ^ 24 → IsObjectInRange (new_array len)
array-in-range len few = record { refs = let e = length-replicate {A = Option Name} len None in omega (arith, e); values = tt }

-- at the start nothing was made
pub start-in-range : AreObjectsInRange start
start-in-range = each-replicate MadeInRange 32 idle tt

pub mutator-in-range : (s : State) (t : ℕ) → AreObjectsInRange s → MadeInRange (mutator s t)
mutator-in-range s t h = each-at MadeInRange s.mutators t (record { registers = []; made = [] }) h tt

with-mutator-in-range : (s : State) (t : ℕ) (m : Mutator) → AreObjectsInRange s → MadeInRange m → AreObjectsInRange (with_mutator s t m)
with-mutator-in-range s t m h new = each-set MadeInRange s.mutators t m h new

-- an object that was changed
with-object-in-range : (s : State) (x : Name) (change : Object → Object) → ((o : Object) → IsObjectInRange o → IsObjectInRange (change o)) → AreObjectsInRange s
    → AreObjectsInRange (with_mutator s x.thread (altering x.ordinal change (mutator s x.thread)))
with-object-in-range s x change keeps h =
    let made = (mutator s x.thread).made in
    let i = x.ordinal - 1 in
    let here = mutator-in-range s x.thread h in
    with-mutator-in-range s x.thread (altering x.ordinal change (mutator s x.thread)) h
    (each-set IsObjectInRange made i (change (get_or made i (new_object 0 0))) here
    (keeps (get_or made i (new_object 0 0)) (each-at IsObjectInRange made i (new_object 0 0) here (blank-in-range 0 0 (omega arith)))))

reference-in-range : (slot : ℕ) (content : Option Name) (o : Object) → IsObjectInRange o → IsObjectInRange (referring slot content o)
reference-in-range slot content o h = record { refs = let e = length-set o.refs slot content in omega (arith, e, h.refs); values = h.values }

value-in-range : (slot number : ℕ) → number < 2 ^ 64 → (o : Object) → IsObjectInRange o → IsObjectInRange (counting slot number o)
value-in-range slot number small o h = record { refs = h.refs; values = each-set (λ (v : ℕ). v < 2 ^ 64) o.values slot number h.values small }

slot-in-range : (s : State) (x : Option Name) (count : Name → ℕ) (slot : ℕ) (act : Name → Step) → AreObjectsInRange s → ((x : Name) → AreObjectsInRange (act x).1) → AreObjectsInRange (at_slot s x count slot act).1
slot-in-range s None count slot act h acts = h
slot-in-range s (Some x) count slot act h acts = by (ltb slot (count x))
  where
    by : (b : Bool) → AreObjectsInRange (cond b (act x) (reply.Slot, s)).1
    by true = acts x
    by false = h

allocated-in-range : (s : State) (t r : ℕ) (o : Object) → AreObjectsInRange s → IsObjectInRange o → AreObjectsInRange (with_mutator s t (adopting t r o (mutator s t)))
allocated-in-range s t r o h new =
    with-mutator-in-range s t (adopting t r o (mutator s t)) h (each-append IsObjectInRange (mutator s t).made (o ∷ []) (mutator-in-range s t h) (new, tt))

held-in-range : (s : State) (t r : ℕ) (content : Option Name) → AreObjectsInRange s → AreObjectsInRange (with_mutator s t (holding r content (mutator s t)))
held-in-range s t r content h = with-mutator-in-range s t (holding r content (mutator s t)) h (mutator-in-range s t h)

-- a plain object that isn't larger than the largest has few references
few-refs : (s : Shape) (refs values : ℕ) → s.words ≤ 65536 → size_of_plain refs values ≤ largest_of s → refs < 2 ^ 24
few-refs s refs values most h = omega arith

pub step-in-range : (shape : Shape) (s : State) (t : ℕ) (o : Op) → IsShape shape → IsOp shape o → AreObjectsInRange s → AreObjectsInRange (step s t o).1
step-in-range shape s t (op.New r refs values) limits is h =
    allocated-in-range s t r (new_object refs values) h (blank-in-range refs values (few-refs shape refs values limits.most_words is.1))
step-in-range shape s t (op.Arr r len) limits is h = allocated-in-range s t r (new_array len) h (array-in-range len is.1)
step-in-range shape s t (op.Store holder slot content) limits is h =
    slot-in-range s (register s t holder) (reference_count s) slot (λ x. (reply.Ok, with_reference s x slot (register s t content))) h
    (λ x. with-object-in-range s x (referring slot (register s t content)) (reference-in-range slot (register s t content)) h)
step-in-range shape s t (op.Load into holder slot) limits is h =
    slot-in-range s (register s t holder) (reference_count s) slot (λ x. taking s t into (reference s x slot)) h (λ x. held-in-range s t into (reference s x slot) h)
step-in-range shape s t (op.Put holder slot number) limits is h =
    slot-in-range s (register s t holder) (value_count s) slot (λ x. (reply.Ok, with_value s x slot number)) h
    (λ x. with-object-in-range s x (counting slot number) (value-in-range slot number is.2) h)
step-in-range shape s t (op.Get holder slot) limits is h =
    slot-in-range s (register s t holder) (value_count s) slot (λ x. (reply.Number (value s x slot), s)) h (λ x. h)
step-in-range shape s t (op.GStore g r) limits is h = h
step-in-range shape s t (op.GLoad into g) limits is h = held-in-range s t into (global s g) h
step-in-range shape s t (op.Drop r) limits is h = held-in-range s t r None h
step-in-range shape s t op.Gc limits is h = h
