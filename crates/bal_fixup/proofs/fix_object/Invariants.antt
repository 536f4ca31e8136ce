use Rattle.std.specs.Option.{option_map}
use Rattle.bal_fixup.specs.Mended.{HasSameStarts}
use Rattle.bal_fixup.specs.Mending.{front_mended}
use Rattle.bal_table.specs.Moves.{moved_to}
use Rattle.bal_table.specs.Table.{things_of}
use Rattle.bal_words.specs.Things.{Updated, with_refs}
use Rattle.bal_fixup.proofs.fix_object.Given as goal

-- the slots below this one are mended, and the others are as they were
abbrev pub invariant-loop-slot : goal.invariant-loop-slot
invariant-loop-slot l = record {
  mended : Updated (things_of l.initial.table) (things_of l.table) l.address
      (option_map (with_refs (front_mended (moved_to l.moves) l.slot)) (things_of l.initial.table l.address));
  same : HasSameStarts l.initial.table l.table;
}
