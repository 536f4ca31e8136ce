-- Which rows break no limit: those in range that are built.
use Rattle.std.proofs.Common.{◌≡◌, ◌+◌, ◌<◌, ◌≤◌, ◌^◌, ◌||◌, ◌∷◌, Bool, true, false, ℕ, List, [], Option, None, Some, refl, subst, arith}
use Rattle.std.specs.Prelude.{⊤, cond, find, nat_le, nat_lt}
use Rattle.std.specs.List.{AllByRecursion, list_any}
use Rattle.std.proofs.lemmas.Bool.{or_from, or_parts}
use Rattle.std.proofs.lemmas.Bool.Decides.{nat_tests}
use Rattle.bal_layout.specs.Geometry.{size_of_plain}
use Rattle.bal_layout.specs.Shape.{Shape, largest_of}
use Rattle.bal_model.specs.Sizes.{size_of_array}
use Rattle.bal_model.specs.declared.row.Op.{Op}
use Rattle.bal_model.specs.declared.row.Op.TheVariants as op
use Rattle.bal_model.specs.declared.row.Row.{Row}
use Rattle.bal_model.specs.Spelling.{IsOp, op_numbers}
use Rattle.bal_model.specs.Built.{IsBuilt, IsTraceRow}
use Rattle.bal_rows.specs.Causes.{HasCause, Spells, breaks, broken_by, broken_by_op, globals_of, registers_of, slots_of}
use Rattle.bal_rows.specs.declared.cause.RowCause.{RowCause}
use Rattle.bal_rows.specs.declared.cause.RowCause.TheVariants as cause

-- what the tests of numbers say
le_fails : (a b : ℕ) → b < a → nat_le a b ≡ false
le_fails a b h = grind (arith, nat_tests)

lt_fails : (a b : ℕ) → b ≤ a → nat_lt a b ≡ false
lt_fails a b h = grind (arith, nat_tests)

below-fails : (a b : ℕ) → nat_le a b ≡ false → b < a
below-fails a b h = grind (arith, nat_tests)

most-fails : (a b : ℕ) → nat_lt a b ≡ false → b ≤ a
most-fails a b h = grind (arith, nat_tests)

neither : {s t : Bool} → s ≡ false → t ≡ false → (s || t) ≡ false
neither {s} {t} e f = or_from s t e f

-- a test that is passed over
passed : (t : Bool) (why : RowCause) (rest : Option RowCause) → cond t (Some why) rest ≡ None → (t ≡ false) × (rest ≡ None)
passed true why rest e = cc
passed false why rest e = (refl, e)

-- none of the numbers is over the limit
all-below : (limit : ℕ) (ns : List ℕ) → list_any (nat_le limit) ns ≡ false → AllByRecursion (λ n. n < limit) ns
all-below limit [] e = tt
all-below limit (n ∷ ns) e =
    let (first, others) = or_parts (nat_le limit n) (list_any (nat_le limit) ns) e in
    (below-fails limit n first, all-below limit ns others)

none-over : (limit : ℕ) (ns : List ℕ) → AllByRecursion (λ n. n < limit) ns → list_any (nat_le limit) ns ≡ false
none-over limit [] all = refl
none-over limit (n ∷ ns) all = neither (le_fails limit n all.0) (none-over limit ns all.1)

-- an operation that breaks no limit
record IsWithin (s : Shape) (o : Op) : Type 0 where
  registers : AllByRecursion (λ n. n < 32) (registers_of o)
  globals : AllByRecursion (λ n. n < 64) (globals_of o)
  slots : AllByRecursion (λ n. n < 2 ^ 24) (slots_of o)
  fits : breaks s o cause.TooBig ≡ false

within-none : (s : Shape) (o : Op) → broken_by_op s o ≡ None → IsWithin s o
within-none s o e =
    let (registers, e1) = passed (breaks s o cause.Register) cause.Register (find (breaks s o) (cause.Global ∷ cause.Slot ∷ cause.TooBig ∷ [])) e in
    let (globals, e2) = passed (breaks s o cause.Global) cause.Global (find (breaks s o) (cause.Slot ∷ cause.TooBig ∷ [])) e1 in
    let (slots, e3) = passed (breaks s o cause.Slot) cause.Slot (find (breaks s o) (cause.TooBig ∷ [])) e2 in
    let (fits, e4) = passed (breaks s o cause.TooBig) cause.TooBig None e3 in
    record {
      registers = all-below 32 (registers_of o) registers;
      globals = all-below 64 (globals_of o) globals;
      slots = all-below (2 ^ 24) (slots_of o) slots;
      fits = fits;
    }

none-within : (s : Shape) (o : Op) → IsWithin s o → broken_by_op s o ≡ None
none-within s o w =
    let registers : breaks s o cause.Register ≡ false = none-over 32 (registers_of o) w.registers in
    let globals : breaks s o cause.Global ≡ false = none-over 64 (globals_of o) w.globals in
    let slots : breaks s o cause.Slot ≡ false = none-over (2 ^ 24) (slots_of o) w.slots in
    let fits : breaks s o cause.TooBig ≡ false = w.fits in
    rw (registers, globals, slots, fits) refl

-- an operation in range that is built breaks none
within-range : (s : Shape) (o : Op) → IsOp s o → IsBuilt s o → IsWithin s o
within-range s (op.New a b c) is built = record {
  registers = (is.0, tt);
  globals = tt;
  slots = tt;
  fits = neither (lt_fails (largest_of s) (size_of_plain b c) is.1) refl;
}
within-range s (op.Arr a b) is built = record {
  registers = (is.0, tt);
  globals = tt;
  slots = tt;
  fits = neither (neither (le_fails (2 ^ 24) b is.1) (lt_fails (largest_of s) (size_of_array s b).words is.2)) built.one_piece;
}
within-range s (op.Store a b c) is built = record { registers = (is.0, (is.2, tt)); globals = tt; slots = (is.1, tt); fits = refl }
within-range s (op.Load a b c) is built = record { registers = (is.0, (is.1, tt)); globals = tt; slots = (is.2, tt); fits = refl }
within-range s (op.Put a b c) is built = record { registers = (is.0, tt); globals = tt; slots = (is.1, tt); fits = refl }
within-range s (op.Get a b) is built = record { registers = (is.0, tt); globals = tt; slots = (is.1, tt); fits = refl }
within-range s (op.GStore a b) is built = record { registers = (is.1, tt); globals = (is.0, tt); slots = tt; fits = refl }
within-range s (op.GLoad a b) is built = record { registers = (is.0, tt); globals = (is.1, tt); slots = tt; fits = refl }
within-range s (op.Drop a) is built = record { registers = (is, tt); globals = tt; slots = tt; fits = refl }
within-range s op.Gc is built = record { registers = tt; globals = tt; slots = tt; fits = refl }

-- and the other way round, where its numbers are of 64 bits
range-within : (s : Shape) (o : Op) → AllByRecursion (λ n. n < 2 ^ 64) (op_numbers o) → IsWithin s o → IsOp s o
range-within s (op.New a b c) small w =
    let (size, more) = or_parts (nat_lt (largest_of s) (size_of_plain b c)) false w.fits in
    (w.registers.0, most-fails (largest_of s) (size_of_plain b c) size)
range-within s (op.Arr a b) small w =
    let (size, more) = or_parts (nat_le (2 ^ 24) b || nat_lt (largest_of s) (size_of_array s b).words) (nat_lt (largest_of s) (2 + b)) w.fits in
    let (slots, words) = or_parts (nat_le (2 ^ 24) b) (nat_lt (largest_of s) (size_of_array s b).words) size in
    (w.registers.0, below-fails (2 ^ 24) b slots, most-fails (largest_of s) (size_of_array s b).words words)
range-within s (op.Store a b c) small w = (w.registers.0, w.slots.0, w.registers.1.0)
range-within s (op.Load a b c) small w = (w.registers.0, w.registers.1.0, w.slots.0)
range-within s (op.Put a b c) small w = (w.registers.0, w.slots.0, small.1.1.0)
range-within s (op.Get a b) small w = (w.registers.0, w.slots.0)
range-within s (op.GStore a b) small w = (w.globals.0, w.registers.0)
range-within s (op.GLoad a b) small w = (w.registers.0, w.globals.0)
range-within s (op.Drop a) small w = w.registers.0
range-within s op.Gc small w = tt

one_piece-within : (s : Shape) (o : Op) → IsWithin s o → IsBuilt s o
one_piece-within s (op.Arr a b) w =
    let (size, more) = or_parts (nat_le (2 ^ 24) b || nat_lt (largest_of s) (size_of_array s b).words) (nat_lt (largest_of s) (2 + b)) w.fits in
    record { one_piece = more }
one_piece-within s o w = record { one_piece = refl }

-- a row of a trace breaks no limit
pub none-broken : (s : Shape) (r : Row) → IsTraceRow s r → broken_by s r ≡ None
none-broken s r is =
    let thread = le_fails 32 r.thread is.in_range.0 in
    rw thread (none-within s r.op (within-range s r.op is.in_range.1 is.built))

-- a row that breaks none is one of a trace, where its numbers are of 64 bits
pub row-within : (s : Shape) (r : Row) → AllByRecursion (λ n. n < 2 ^ 64) (op_numbers r.op) → r.thread < 32 → broken_by_op s r.op ≡ None → IsTraceRow s r
row-within s r small thread none =
    let within = within-none s r.op none in
    record { in_range = (thread, range-within s r.op small within); built = one_piece-within s r.op within }

pub unbroken : (s : Shape) (r : Row) → broken_by s r ≡ None → (r.thread < 32) × (broken_by_op s r.op ≡ None)
unbroken s r none =
    let (thread, others) = passed (nat_le 32 r.thread) cause.Thread (broken_by_op s r.op) none in
    (below-fails 32 r.thread thread, others)

-- the thread is the first limit
pub broken-thread : (s : Shape) (r : Row) → 32 ≤ r.thread → broken_by s r ≡ Some cause.Thread
broken-thread s r over =
    let holds : nat_le 32 r.thread ≡ true = grind (arith, nat_tests) in
    rw holds refl

pub broken-op : (s : Shape) (r : Row) (why : RowCause) → r.thread < 32 → broken_by_op s r.op ≡ Some why → broken_by s r ≡ Some why
broken-op s r why below broken = rw (le_fails 32 r.thread below) broken

-- the causes that are limits
abbrev IsLimit : RowCause → Type 0
IsLimit cause.TooManyRows = ⊥
IsLimit cause.Word = ⊥
IsLimit cause.Fields = ⊥
IsLimit cause.Number = ⊥
IsLimit why = ⊤

-- the first one of a list is one of it
chosen : (t : Bool) (one why : RowCause) (rest : Option RowCause) → IsLimit one → (rest ≡ Some why → IsLimit why) → cond t (Some one) rest ≡ Some why → IsLimit why
chosen true one why rest is later e = subst IsLimit (let same : one ≡ why = cc in same) is
chosen false one why rest is later e = later e

is-limit : (s : Shape) (r : Row) (why : RowCause) → broken_by s r ≡ Some why → IsLimit why
is-limit s r why =
    chosen (nat_le 32 r.thread) cause.Thread why (broken_by_op s r.op) tt
    (chosen (breaks s r.op cause.Register) cause.Register why (find (breaks s r.op) (cause.Global ∷ cause.Slot ∷ cause.TooBig ∷ [])) tt
    (chosen (breaks s r.op cause.Global) cause.Global why (find (breaks s r.op) (cause.Slot ∷ cause.TooBig ∷ [])) tt
    (chosen (breaks s r.op cause.Slot) cause.Slot why (find (breaks s r.op) (cause.TooBig ∷ [])) tt
    (chosen (breaks s r.op cause.TooBig) cause.TooBig why None tt (λ e. cc)))))

-- a row that breaks a limit has it as its record's cause
pub limit-cause : (s : Shape) (cells : List (List ℕ)) (r : Row) (why : RowCause) → Spells cells r → broken_by s r ≡ Some why → HasCause s cells why
limit-cause s cells r cause.TooManyRows spells e = absurd (is-limit s r cause.TooManyRows e)
limit-cause s cells r cause.Word spells e = absurd (is-limit s r cause.Word e)
limit-cause s cells r cause.Fields spells e = absurd (is-limit s r cause.Fields e)
limit-cause s cells r cause.Number spells e = absurd (is-limit s r cause.Number e)
limit-cause s cells r why spells e = (r, spells, e)
