-- The operation that a word of a trace spells with the numbers after it.
use Rattle.std.specs.Prelude.{ℕ, suc, length}
use Rattle.bal_model.specs.declared.row.Op.{Op}
use Rattle.bal_model.specs.declared.row.Op.TheVariants as op
use Rattle.bal_model.specs.declared.row.Row.{Row}
use Rattle.bal_model.specs.Spelling.{wants}
use Rattle.bal_model.specs.declared.row.Word.{Word}
use Rattle.bal_model.specs.declared.row.Word.TheVariants as word

-- the operation of a word with these numbers, of which it takes the first ones
abbrev pub op_from : Word → ℕ → ℕ → ℕ → Op
op_from word.New a b c = op.New a b c
op_from word.Arr a b c = op.Arr a b
op_from word.Store a b c = op.Store a b c
op_from word.Load a b c = op.Load a b c
op_from word.Put a b c = op.Put a b c
op_from word.Get a b c = op.Get a b
op_from word.GStore a b c = op.GStore a b
op_from word.GLoad a b c = op.GLoad a b
op_from word.Drop a b c = op.Drop a
op_from word.Gc a b c = op.Gc

-- the row of a word with a thread and these numbers
abbrev pub row_from : Word → ℕ → ℕ → ℕ → ℕ → Row
row_from w thread a b c = record { thread = thread; op = op_from w a b c }

-- how many numbers a word takes, the thread among them
abbrev pub count_of : Word → ℕ
count_of w = suc (length (wants w))
