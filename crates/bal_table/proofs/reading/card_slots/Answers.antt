use Rattle.std.proofs.Common.{◌*◌, ◌++◌, List, ap, append_assoc, append-nil, arith, sym, ◌∙◌}
use Rattle.bal_table.specs.Slots.{slots_between}
use Rattle.bal_table.specs.declared.slots.Slot.{Slot}
use Rattle.bal_table.proofs.SlotPlaces.{between-join, between-none}
use Rattle.bal_table.proofs.reading.card_slots.Goals as goal

pub loop-place-init : goal.loop-place-init
loop-place-init g c =
    let first = c.args.card * 64 in
    record {
      from = omega arith;
      to = omega arith;
      slots = sym (append-nil c.args.into.now.list)
          ∙ ap (λ (l : List Slot). c.args.into.now.list ++ l) (sym (between-none (g.T.Readable.table c.args.table.now) first first (λ p from to. absurd (omega arith))));
      kept = omega arith;
      room = omega arith;
    }

pub loop-place-preserved : goal.loop-place-preserved
loop-place-preserved g c =
    let t = (g.T.Readable.table c.args.table.now) in
    let first = c.args.card * 64 in
    let place = c.loop-place.place in
    let next = c.object_slots-place.result in
    record {
      from = omega (arith, c.loop-place.invariant.from, c.object_slots-place.ensures.onward);
      to = c.object_slots-place.ensures.end;
      slots = c.object_slots-place.ensures.slots
          ∙ (ap (λ (l : List Slot). l ++ slots_between t place next) c.loop-place.invariant.slots
          ∙ (append_assoc c.args.into.now.list (slots_between t first place) (slots_between t place next)
          ∙ ap (λ (l : List Slot). c.args.into.now.list ++ l)
          (sym (between-join t first place next c.loop-place.invariant.from (omega (arith, c.object_slots-place.ensures.onward))))));
      kept = omega (arith, c.loop-place.invariant.kept, c.object_slots-place.ensures.kept);
      room = omega (arith, c.loop-place.invariant.room, c.object_slots-place.ensures.room);
    }
