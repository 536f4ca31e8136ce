use Rattle.std.proofs.Common.{◌≡◌}
use Rattle.bal_fixup.specs.Mending.{front_mended}
use Rattle.bal_table.specs.Moves.{moved_to}
use Rattle.bal_fixup.proofs.fix_roots.Given as goal

-- the roots below this one are mended, and the others are as they were
abbrev pub invariant-loop-index : goal.invariant-loop-index
invariant-loop-index l = l.roots ≡ front_mended (moved_to l.moves) l.index l.initial.roots
