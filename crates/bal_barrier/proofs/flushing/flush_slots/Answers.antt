use Rattle.std.proofs.Common.{◌+◌, List, get_or, length, take, ap, arith, sym, subst, length-append, length-take}
use Rattle.std.proofs.lemmas.List.{take_more}
use Rattle.bal_table.specs.declared.slots.Slot.{Slot}
use Rattle.bal_barrier.specs.Flush.{LeadToObjects, notes_of, with_notes}
use Rattle.bal_barrier.proofs.Notes.{flushed-more, notes-few}
use Rattle.bal_barrier.proofs.Targets.{lead-states}
use Rattle.bal_barrier.proofs.flushing.flush_slots.Goals as goal

pub flush_slot-requires-clause-found : goal.flush_slot-requires-clause-found
flush_slot-requires-clause-found c =
    let t = c.args.table.now in
    subst LeadToObjects (sym c.loop-slot.invariant.table)
    (lead-states t (with_notes c.args.limit t.regions (notes_of c.args.limit t t.regions (take c.loop-slot.slot-index c.args.slots.now))) t.current c.requires.found)

pub flush_slot-requires-clause-room : goal.flush_slot-requires-clause-room
flush_slot-requires-clause-room c =
    let t = c.args.table.now in
    let ss : List Slot = take c.loop-slot.slot-index c.args.slots.now in
    let made = notes_of c.args.limit t t.regions ss in
    omega (
      arith,
      c.loop-slot.invariant.room,
      ap length c.loop-slot.invariant.notes,
      length-append c.args.notes.now.list made,
      notes-few c.args.limit t t.regions ss,
      length-take c.loop-slot.slot-index c.args.slots.now,
      c.requires.room,
      c.loop-slot-test.true,
    )

pub loop-slot-preserved : goal.loop-slot-preserved
loop-slot-preserved c =
    let t = c.args.table.now in
    let ss : List Slot = c.args.slots.now in
    let k = c.loop-slot.slot-index in
    let both = flushed-more c.args.limit t c.loop-slot.table c.flush_slot.new.table (take k ss) (take (k + 1) ss) (get_or ss k (record { holder = 0; number = 0 }))
    c.args.notes.now.list c.loop-slot.notes.list c.flush_slot.new.notes.list (take_more ss k (record { holder = 0; number = 0 }) c.loop-slot-test.true)
    c.loop-slot.invariant.notes c.loop-slot.invariant.table c.flush_slot.ensures.notes c.flush_slot.ensures.table in
    record { notes = both.0; table = both.1; room = omega (arith, c.loop-slot.invariant.room, c.flush_slot.ensures.room) }
