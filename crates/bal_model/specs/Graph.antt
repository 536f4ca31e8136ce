-- How the plain graph of the definitions is kept.
use Rattle.std.specs.Prelude.{◌≡◌, ⊤, ◌<◌, ◌^◌, map, length, All}
use Rattle.bal_model.specs.Plain.{State, Mutator, Object}
use Rattle.bal_model.specs.declared.row.Op.{Op}
use Rattle.bal_model.specs.declared.row.Op.TheVariants as op
use Rattle.bal_model.specs.declared.plain.Node.{Node}
use Rattle.bal_model.specs.declared.plain.Mutator as code
use Rattle.bal_model.specs.declared.plain.Plain.TheInside.{Inside}

-- a node without the room that it has reserved
abbrev pub object_of : Node → Object
object_of n = record { kind = n.kind; refs = n.refs.list; values = n.values.list }

abbrev pub mutator_of : code.Mutator → Mutator
mutator_of m = record { registers = m.registers.list; made = map object_of m.made.items }

abbrev pub graph_of : Inside → State
graph_of p = record { mutators = map mutator_of p.mutators.items; globals = p.globals.list }

-- there are 32 mutators with 32 registers each, and 64 globals
pub record IsGraph (p : Inside) : Type 0 where
  pub mutators : length p.mutators.items ≡ 32
  pub registers : All (λ m. length m.registers.list ≡ 32) p.mutators.items
  pub ordinals : All (λ m. length m.made.items < 2 ^ 32) p.mutators.items
  pub globals : length p.globals.list ≡ 64

-- a row's registers are below 32, its global is below 64, and what it asks for is below 2^24
abbrev pub IsInRange : Op → Type 0
IsInRange (op.New register refs values) = (register < 32) × (refs < 2 ^ 24) × (values < 2 ^ 24)
IsInRange (op.Arr register len) = (register < 32) × (len < 2 ^ 24)
IsInRange (op.Store holder slot value) = (holder < 32) × (value < 32)
IsInRange (op.Load into holder slot) = (into < 32) × (holder < 32)
IsInRange (op.Put holder slot number) = holder < 32
IsInRange (op.Get holder slot) = holder < 32
IsInRange (op.GStore global register) = (global < 64) × (register < 32)
IsInRange (op.GLoad into global) = (into < 32) × (global < 64)
IsInRange (op.Drop register) = register < 32
IsInRange op.Gc = ⊤
