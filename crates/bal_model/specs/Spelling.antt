-- How rows are spelled: the fields of a record of the trace, and the words of a journal's line.
use Rattle.std.specs.Prelude.{ℕ, ⊤, ◌<◌, ◌≤◌, ◌^◌, Bool, true, false, List, [], ◌∷◌, Option, None, Some, map, zip, codes}
use Rattle.std.specs.Fmt.{decimal}
use Rattle.std.specs.List.{filter}
use Rattle.bal_layout.specs.Geometry.{size_of_plain}
use Rattle.bal_layout.specs.Shape.{Shape, largest_of}
use Rattle.bal_model.specs.declared.row.Op.{Op}
use Rattle.bal_model.specs.declared.row.Op.TheVariants as op
use Rattle.bal_model.specs.declared.row.Row.{Row}
use Rattle.bal_model.specs.declared.row.Word.{Word}
use Rattle.bal_model.specs.declared.row.Word.TheVariants as word
use Rattle.bal_model.specs.Sizes.{size_of_array}

-- what a number of a row tells: a register, a global, a slot, how many slots a new object has, or what a slot takes
pub data Field : Type 0 where
  Register : Field
  Global : Field
  Slot : Field
  Count : Field
  Value : Field

-- how a word is spelled, and what each number after it tells, without the thread
pub record Signature : Type 0 where
  pub spelled : List ℕ
  pub wants : List Field

abbrev pub signature : Word → Signature
signature word.New = record { spelled = codes "new"; wants = Register ∷ Count ∷ Count ∷ [] }
signature word.Arr = record { spelled = codes "arr"; wants = Register ∷ Count ∷ [] }
signature word.Store = record { spelled = codes "store"; wants = Register ∷ Slot ∷ Register ∷ [] }
signature word.Load = record { spelled = codes "load"; wants = Register ∷ Register ∷ Slot ∷ [] }
signature word.Put = record { spelled = codes "put"; wants = Register ∷ Slot ∷ Value ∷ [] }
signature word.Get = record { spelled = codes "get"; wants = Register ∷ Slot ∷ [] }
signature word.GStore = record { spelled = codes "gstore"; wants = Global ∷ Register ∷ [] }
signature word.GLoad = record { spelled = codes "gload"; wants = Register ∷ Global ∷ [] }
signature word.Drop = record { spelled = codes "drop"; wants = Register ∷ [] }
signature word.Gc = record { spelled = codes "gc"; wants = [] }

abbrev pub spelling : Word → List ℕ
spelling w = (signature w).spelled

abbrev pub wants : Word → List Field
wants w = (signature w).wants

-- an operation's word
abbrev pub word_of : Op → Word
word_of (op.New a b c) = word.New
word_of (op.Arr a b) = word.Arr
word_of (op.Store a b c) = word.Store
word_of (op.Load a b c) = word.Load
word_of (op.Put a b c) = word.Put
word_of (op.Get a b) = word.Get
word_of (op.GStore a b) = word.GStore
word_of (op.GLoad a b) = word.GLoad
word_of (op.Drop a) = word.Drop
word_of op.Gc = word.Gc

-- and its numbers, in the order of what the word wants
abbrev pub op_numbers : Op → List ℕ
op_numbers (op.New a b c) = a ∷ b ∷ c ∷ []
op_numbers (op.Arr a b) = a ∷ b ∷ []
op_numbers (op.Store a b c) = a ∷ b ∷ c ∷ []
op_numbers (op.Load a b c) = a ∷ b ∷ c ∷ []
op_numbers (op.Put a b c) = a ∷ b ∷ c ∷ []
op_numbers (op.Get a b) = a ∷ b ∷ []
op_numbers (op.GStore a b) = a ∷ b ∷ []
op_numbers (op.GLoad a b) = a ∷ b ∷ []
op_numbers (op.Drop a) = a ∷ []
op_numbers op.Gc = []

-- the operation of a word and its numbers
abbrev pub op_of : Word → List ℕ → Option Op
op_of word.New (a ∷ b ∷ c ∷ []) = Some (op.New a b c)
op_of word.Arr (a ∷ b ∷ []) = Some (op.Arr a b)
op_of word.Store (a ∷ b ∷ c ∷ []) = Some (op.Store a b c)
op_of word.Load (a ∷ b ∷ c ∷ []) = Some (op.Load a b c)
op_of word.Put (a ∷ b ∷ c ∷ []) = Some (op.Put a b c)
op_of word.Get (a ∷ b ∷ []) = Some (op.Get a b)
op_of word.GStore (a ∷ b ∷ []) = Some (op.GStore a b)
op_of word.GLoad (a ∷ b ∷ []) = Some (op.GLoad a b)
op_of word.Drop (a ∷ []) = Some (op.Drop a)
op_of word.Gc [] = Some op.Gc
op_of w numbers = None

abbrev pub op_word : Op → List ℕ
op_word o = spelling (word_of o)

abbrev pub is_same_field : Field → Field → Bool
is_same_field Register Register = true
is_same_field Global Global = true
is_same_field Slot Slot = true
is_same_field Count Count = true
is_same_field Value Value = true
is_same_field f g = false

-- the numbers that tell one kind of thing
abbrev pub numbers_in : Field → Op → List ℕ
numbers_in kind o = map (λ (n : Field × ℕ). n.1) (filter (λ (n : Field × ℕ). is_same_field n.0 kind) (zip (wants (word_of o)) (op_numbers o)))

-- a record of the trace: the word, the thread and the numbers
abbrev pub fields : Row → List (List ℕ)
fields r = op_word r.op ∷ map decimal (r.thread ∷ op_numbers r.op)

-- the limits of a row: threads and registers are below 32, globals below 64, slots and lengths below 2^24, numbers below
-- 2^64, and what an object takes of one region is no larger than the largest
abbrev pub IsOp : Shape → Op → Type 0
IsOp s (op.New register refs values) = (register < 32) × (size_of_plain refs values ≤ largest_of s)
IsOp s (op.Arr register len) = (register < 32) × (len < 2 ^ 24) × ((size_of_array s len).words ≤ largest_of s)
IsOp s (op.Store holder slot value) = (holder < 32) × (slot < 2 ^ 24) × (value < 32)
IsOp s (op.Load into holder slot) = (into < 32) × (holder < 32) × (slot < 2 ^ 24)
IsOp s (op.Put holder slot number) = (holder < 32) × (slot < 2 ^ 24) × (number < 2 ^ 64)
IsOp s (op.Get holder slot) = (holder < 32) × (slot < 2 ^ 24)
IsOp s (op.GStore global register) = (global < 64) × (register < 32)
IsOp s (op.GLoad into global) = (into < 32) × (global < 64)
IsOp s (op.Drop register) = register < 32
IsOp s op.Gc = ⊤

abbrev pub IsRow : Shape → Row → Type 0
IsRow s r = (r.thread < 32) × IsOp s r.op
