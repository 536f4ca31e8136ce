use Rattle.std.proofs.Common.{◌≡◌, take}
use Rattle.bal_table.specs.Table.{refs_in, things_of}
use Rattle.bal_mark.specs.Marking.{with_all_led}
use Rattle.bal_mark.proofs.mark_slots.Given as goal

-- what the slots below this one refer to has been marked
abbrev pub invariant-loop-slot : goal.invariant-loop-slot
invariant-loop-slot l = l.marks ≡ with_all_led l.initial.marks (take l.slot (refs_in (things_of l.table l.address)))
