-- Why a record is no row of a trace. The causes have an order, and a record's cause is the first that it has: its first
-- field is no word; it has not as many fields as the word wants; a field after the word is no number; the thread is over
-- 31; a register is over 31; the global is over 63; the slot is over 2^24 - 1; the object is too big.
use Rattle.std.specs.Prelude.{◌≡◌, ◌≢◌, ◌<◌, ◌^◌, ◌||◌, ◌∷◌, [], ℕ, Bool, false, Any, List, Option, Some, find, if◌then◌else◌, length, nat_le, nat_lt}
use Rattle.std.specs.List.{AllByRecursion, list_any}
use Rattle.bal_layout.specs.Geometry.{size_of_plain}
use Rattle.bal_base.specs.Number.{SpellsNumber}
use Rattle.bal_layout.specs.Shape.{Shape, largest_of}
use Rattle.bal_model.specs.declared.row.Op.{Op}
use Rattle.bal_model.specs.declared.row.Op.TheVariants as op
use Rattle.bal_model.specs.declared.row.Row.{Row}
use Rattle.bal_model.specs.Sizes.{size_of_array}
use Rattle.bal_model.specs.Spelling.{Register, Global, Slot, fields, numbers_in, op_numbers, op_word}
use Rattle.bal_model.specs.Built.{needs_leaves}
use Rattle.bal_rows.specs.declared.cause.RowCause.{RowCause}
use Rattle.bal_rows.specs.declared.cause.RowCause.TheVariants as cause

-- the registers, the globals and the slots among an operation's numbers
abbrev pub registers_of : Op → List ℕ
registers_of o = numbers_in Register o

abbrev pub globals_of : Op → List ℕ
globals_of o = numbers_in Global o

abbrev pub slots_of : Op → List ℕ
slots_of o = numbers_in Slot o

-- what the object takes of one region has more words than the largest, or an array has 2^24 slots or more
abbrev pub is_too_big : Shape → Op → Bool
is_too_big s (op.New register refs values) = nat_lt (largest_of s) (size_of_plain refs values)
is_too_big s (op.Arr register len) = nat_le (2 ^ 24) len || nat_lt (largest_of s) (size_of_array s len).words
is_too_big s o = false

-- whether an operation breaks the limit that a cause names
abbrev pub breaks : Shape → Op → RowCause → Bool
breaks s o cause.Register = list_any (nat_le 32) (registers_of o)
breaks s o cause.Global = list_any (nat_le 64) (globals_of o)
breaks s o cause.Slot = list_any (nat_le (2 ^ 24)) (slots_of o)
breaks s o cause.TooBig = is_too_big s o || needs_leaves s o
breaks s o other = false

-- the first limit that an operation, and a row, breaks
abbrev pub broken_by_op : Shape → Op → Option RowCause
broken_by_op s o = find (breaks s o) (cause.Register ∷ cause.Global ∷ cause.Slot ∷ cause.TooBig ∷ [])

abbrev pub broken_by : Shape → Row → Option RowCause
broken_by s r = if nat_le 32 r.thread then Some cause.Thread else broken_by_op s r.op

-- the record begins with the operation's word
pub record BeginsWith (cells : List (List ℕ)) (o : Op) : Type 0 where
  pub behind : List (List ℕ)
  pub begins : cells ≡ op_word o ∷ behind

-- how many fields an operation has after its word: the thread and its numbers
abbrev pub count_behind : Op → ℕ
count_behind o = length (0 ∷ op_numbers o)

-- the field is no number of 64 bits
abbrev pub IsNoNumber : List ℕ → Type 0
IsNoNumber field = (n : ℕ) → SpellsNumber field n → ⊥

-- the record has the fields of a row whose numbers are any of 64 bits
pub record Spells (cells : List (List ℕ)) (r : Row) : Type 0 where
  pub spelled : cells ≡ fields r
  pub numbers : AllByRecursion (λ n. n < 2 ^ 64) (r.thread ∷ op_numbers r.op)

-- the first cause that a record has. Each says what the record has passed before: it begins with a word, it has as many
-- fields as the word wants, they are numbers, and it breaks no limit that comes before.
abbrev pub HasCause : Shape → List (List ℕ) → RowCause → Type 0
HasCause s cells cause.TooManyRows = ⊥
HasCause s cells cause.Word = (o : Op) → BeginsWith cells o → ⊥
HasCause s cells cause.Fields = (o : Op) × (b : BeginsWith cells o) × (length b.behind ≢ count_behind o)
HasCause s cells cause.Number = (o : Op) × (b : BeginsWith cells o) × (length b.behind ≡ count_behind o) × Any IsNoNumber b.behind
HasCause s cells limit = (r : Row) × Spells cells r × (broken_by s r ≡ Some limit)
