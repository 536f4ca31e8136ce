-- The plain graph: objects by name, registers and globals. There are no addresses, regions, cards or ages in it, and it
-- never loses an object.
use Rattle.std.specs.Prelude.{ℕ, zero, suc, Bool, true, false, ◌+◌, ◌-◌, List, [], ◌∷◌, ◌++◌, length, replicate, Option, Some, None, slice_get, slice_index_or, slice_set, nat_lt, if◌then◌else◌}
use Rattle.bal_layout.specs.declared.name.Name.{Name}
use Rattle.bal_layout.specs.declared.name.Kind.TheVariants as kind
pub use Rattle.bal_layout.specs.Graph.{Object}
use Rattle.bal_model.specs.declared.row.Op.{Op}
use Rattle.bal_model.specs.declared.row.Op.TheVariants as op
use Rattle.bal_model.specs.declared.row.Reply.{Reply}
use Rattle.bal_model.specs.declared.row.Reply.TheVariants as reply

-- a program thread: its registers, and the objects that it made, in order; the o-th one of thread t is named t.o
pub record Mutator : Type 0 where
  pub registers : List (Option Name)
  pub made : List Object

-- the mutators by number, and the globals
pub record State : Type 0 where
  pub mutators : List Mutator
  pub globals : List (Option Name)

-- a mutator that has done nothing yet: its 32 registers are null
abbrev pub idle : Mutator
idle = record { registers = replicate 32 None; made = [] }

-- 32 idle mutators, and 64 globals that are null
abbrev pub start : State
start = record { mutators = replicate 32 idle; globals = replicate 64 None }

-- Look-ups. Past the end of what there is, a mutator is an empty one, and a register or a reference is null.

abbrev pub mutator : State → ℕ → Mutator
mutator s t = slice_index_or s.mutators t (record { registers = []; made = [] })

abbrev pub register : State → ℕ → ℕ → Option Name
register s t r = slice_index_or (mutator s t).registers r None

abbrev pub global : State → ℕ → Option Name
global s g = slice_index_or s.globals g None

-- how many objects a thread has made
abbrev pub made_by : State → ℕ → ℕ
made_by s t = length (mutator s t).made

-- the name of the next object that a mutator with this number makes
abbrev pub next_of : ℕ → Mutator → Name
next_of t m = record { thread = t; ordinal = length m.made + 1 }

abbrev pub next_name : State → ℕ → Name
next_name s t = next_of t (mutator s t)

-- the object with this ordinal among those that a thread made: ordinals count from 1
abbrev pub object_at : List Object → ℕ → Option Object
object_at objects zero = None
object_at objects (suc i) = slice_get objects i

abbrev pub object : State → Name → Option Object
object s x = object_at (mutator s x.thread).made x.ordinal

-- the references of an object; of a name that no object has, none
abbrev pub refs_of : Option Object → List (Option Name)
refs_of None = []
refs_of (Some o) = o.refs

abbrev pub refs : State → Name → List (Option Name)
refs s x = refs_of (object s x)

abbrev pub reference : State → Name → ℕ → Option Name
reference s x slot = slice_index_or (refs s x) slot None

-- the numbers of an object; of a name that no object has, none
abbrev pub values_of : Option Object → List ℕ
values_of None = []
values_of (Some o) = o.values

abbrev pub values : State → Name → List ℕ
values s x = values_of (object s x)

abbrev pub value : State → Name → ℕ → ℕ
value s x slot = slice_index_or (values s x) slot 0

-- how many references and how many numbers an object has
abbrev pub reference_count : State → Name → ℕ
reference_count s x = length (refs s x)

abbrev pub value_count : State → Name → ℕ
value_count s x = length (values s x)

-- Changes.

-- a new object has null references and zero values
abbrev pub new_object : ℕ → ℕ → Object
new_object refs values = record { kind = kind.Plain; refs = replicate refs None; values = replicate values 0 }

-- a new array has null references and no values
abbrev pub new_array : ℕ → Object
new_array len = record { kind = kind.Array; refs = replicate len None; values = [] }

abbrev pub with_mutator : State → ℕ → Mutator → State
with_mutator s t m = record s { mutators = slice_set s.mutators t m }

-- a mutator one of whose registers takes a name or null
abbrev pub holding : ℕ → Option Name → Mutator → Mutator
holding r content m = record { registers = slice_set m.registers r content; made = m.made }

abbrev pub with_register : State → ℕ → ℕ → Option Name → State
with_register s t r content = with_mutator s t (holding r content (mutator s t))

-- a mutator that has made one more object, which a register then holds
abbrev pub adopting : ℕ → ℕ → Object → Mutator → Mutator
adopting t r o m = record { registers = slice_set m.registers r (Some (next_of t m)); made = m.made ++ o ∷ [] }

-- a list of objects one of which has changed
abbrev pub changed_at : List Object → ℕ → (Object → Object) → List Object
changed_at objects i change = slice_set objects i (change (slice_index_or objects i (new_object 0 0)))

-- a mutator one of whose objects has changed
abbrev pub altering : ℕ → (Object → Object) → Mutator → Mutator
altering ordinal change m = record { registers = m.registers; made = changed_at m.made (ordinal - 1) change }

abbrev pub with_object : State → Name → (Object → Object) → State
with_object s x change = with_mutator s x.thread (altering x.ordinal change (mutator s x.thread))

-- an object whose reference takes a name or null
abbrev pub referring : ℕ → Option Name → Object → Object
referring slot content o = record { kind = o.kind; refs = slice_set o.refs slot content; values = o.values }

abbrev pub with_reference : State → Name → ℕ → Option Name → State
with_reference s x slot content = with_object s x (referring slot content)

-- an object whose value becomes a number
abbrev pub counting : ℕ → ℕ → Object → Object
counting slot number o = record { kind = o.kind; refs = o.refs; values = slice_set o.values slot number }

abbrev pub with_value : State → Name → ℕ → ℕ → State
with_value s x slot number = with_object s x (counting slot number)

-- a global takes a name or null
abbrev pub with_global : State → ℕ → Option Name → State
with_global s g content = record { mutators = s.mutators; globals = slice_set s.globals g content }

-- The step of one row: its reply, and the graph after it.

abbrev pub Step : Type 0
Step = Reply × State

abbrev pub name_or_null : Option Name → Reply
name_or_null None = reply.Null
name_or_null (Some x) = reply.Name x

-- a row that allocates: the thread's next name, which the register then holds
abbrev pub allocating : State → ℕ → ℕ → Object → Step
allocating s t r o = (reply.Name (next_name s t), with_mutator s t (adopting t r o (mutator s t)))

-- a row that names a slot: nil where the holder is null, slot where it has no such slot, else what the row does there
abbrev pub at_slot : State → Option Name → (Name → ℕ) → ℕ → (Name → Step) → Step
at_slot s None count slot act = (reply.Nil, s)
at_slot s (Some x) count slot act = if nat_lt slot (count x) then act x else (reply.Slot, s)

-- a register takes a name or null, and that is the reply
abbrev pub taking : State → ℕ → ℕ → Option Name → Step
taking s t into content = (name_or_null content, with_register s t into content)

abbrev pub step : State → ℕ → Op → Step
step s t (op.New r refs values) = allocating s t r (new_object refs values)
step s t (op.Arr r len) = allocating s t r (new_array len)
step s t (op.Store holder slot value) =
    at_slot s (register s t holder) (reference_count s) slot (λ x. (reply.Ok, with_reference s x slot (register s t value)))
step s t (op.Load into holder slot) =
    at_slot s (register s t holder) (reference_count s) slot (λ x. taking s t into (reference s x slot))
step s t (op.Put holder slot number) =
    at_slot s (register s t holder) (value_count s) slot (λ x. (reply.Ok, with_value s x slot number))
step s t (op.Get holder slot) = at_slot s (register s t holder) (value_count s) slot (λ x. (reply.Number (value s x slot), s))
step s t (op.GStore g r) = (reply.Ok, with_global s g (register s t r))
step s t (op.GLoad into g) = taking s t into (global s g)
step s t (op.Drop r) = (reply.Ok, with_register s t r None)
step s t op.Gc = (reply.Ok, s)

-- What the plain graph is after a row, when the heap may be full.

abbrev pub is_full : Reply → Bool
is_full reply.Full = true
is_full (reply.Name x) = false
is_full reply.Null = false
is_full (reply.Number n) = false
is_full reply.Ok = false
is_full reply.Nil = false
is_full reply.Slot = false

-- the graph after a row that replied so: a full heap leaves it
abbrev pub graph_after : State → ℕ → Op → Reply → State
graph_after s t o r = if is_full r then s else (step s t o).1
