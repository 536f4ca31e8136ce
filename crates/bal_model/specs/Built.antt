-- What is not built yet of the rows of a trace: an array that does not lie in one piece. This module goes away with leaves.
use Rattle.std.specs.Prelude.{◌≡◌, ◌+◌, Bool, false, nat_lt}
use Rattle.bal_layout.specs.Shape.{Shape, largest_of}
use Rattle.bal_model.specs.declared.row.Op.{Op}
use Rattle.bal_model.specs.declared.row.Op.TheVariants as op
use Rattle.bal_model.specs.declared.row.Row.{Row}
use Rattle.bal_model.specs.Spelling.{IsRow}

-- an array that does not lie in one piece
abbrev pub needs_leaves : Shape → Op → Bool
needs_leaves s (op.Arr register len) = nat_lt (largest_of s) (2 + len)
needs_leaves s o = false

-- an operation that is built
pub record IsBuilt (s : Shape) (o : Op) : Type 0 where
  pub one_piece : needs_leaves s o ≡ false

-- a row of a trace: in its limits, and built
pub record IsTraceRow (s : Shape) (r : Row) : Type 0 where
  pub in_range : IsRow s r
  pub built : IsBuilt s r.op
