use Rattle.std.proofs.Common.{◌<◌, Option, ap, arith, length, subst, sym}
use Rattle.std.specs.Prelude.{All}
use Rattle.std.proofs.lemmas.List.Elements.{All-get_or}
use Rattle.bal_fixup.specs.Mended.{IsReference}
use Rattle.bal_fixup.proofs.Slots.{front-done, front-next, front-none, next-slot, next-word}
use Rattle.bal_fixup.proofs.Stay.{same-none, same-then}
use Rattle.bal_fixup.proofs.fix_object.Goals as goal
use Rattle.bal_fixup.proofs.fix_object.Goals.{In-loop-slot}
use Rattle.bal_table.specs.Moves.{moved_to}
use Rattle.bal_table.specs.Table.{refs_in, things_of}
use Rattle.bal_words.specs.Things.{Thing}
use Rattle.bal_words.proofs.Lemmas.{there}

pub loop-slot-init : goal.loop-slot-init
loop-slot-init c = record {
  mended = front-none (things_of c.args.table.now) c.args.address (moved_to c.args.moves.now);
  same = same-none c.args.table.now;
}

pub fix_slot-requires-clause-slot : goal.fix_slot-requires-clause-slot
fix_slot-requires-clause-slot c =
    let t = c.args.table.now in
    let x = there (things_of t c.args.address) c.requires.object in
    let within : c.loop-slot.slot < length x.0.refs =
    omega (arith, c.loop-slot-test.true, c.slots-slot-end.ensures, ap (λ (o : Option Thing). length (refs_in o)) x.1) in
    next-slot (things_of t) (things_of c.loop-slot.table) c.args.address c.loop-slot.slot (moved_to c.args.moves.now) x.0 x.1 c.loop-slot.invariant.mended within

pub fix_slot-requires-clause-reference : goal.fix_slot-requires-clause-reference
fix_slot-requires-clause-reference c =
    let t = c.args.table.now in
    let x = there (things_of t c.args.address) c.requires.object in
    let within : c.loop-slot.slot < length x.0.refs =
    omega (arith, c.loop-slot-test.true, c.slots-slot-end.ensures, ap (λ (o : Option Thing). length (refs_in o)) x.1) in
    let refs = subst (λ (o : Option Thing). All IsReference (refs_in o)) x.1 c.requires.references in
    subst IsReference
    (sym (next-word (things_of t) (things_of c.loop-slot.table) c.args.address c.loop-slot.slot (moved_to c.args.moves.now) x.0 x.1 c.loop-slot.invariant.mended within))
    (All-get_or IsReference x.0.refs c.loop-slot.slot 0 within refs)

pub loop-slot-preserved : goal.loop-slot-preserved
loop-slot-preserved c =
    let t = c.args.table.now in
    let x = there (things_of t c.args.address) c.requires.object in
    let within : c.loop-slot.slot < length x.0.refs =
    omega (arith, c.loop-slot-test.true, c.slots-slot-end.ensures, ap (λ (o : Option Thing). length (refs_in o)) x.1) in
    record {
      mended = front-next (things_of t) (things_of c.loop-slot.table) c.args.address c.loop-slot.slot (moved_to c.args.moves.now) x.0 x.1
          c.loop-slot.invariant.mended within (things_of c.fix_slot.new.table) c.fix_slot.ensures.mended;
      same = same-then t c.loop-slot.table c.fix_slot.new.table c.loop-slot.invariant.same c.fix_slot.ensures.same;
    }

pub returns-clause-mended : goal.returns-clause-mended
returns-clause-mended c =
    let t = c.args.table.now in
    let x = there (things_of t c.args.address) c.requires.object in
    front-done (things_of t) (things_of c.loop-slot.table) c.args.address c.loop-slot.slot (moved_to c.args.moves.now) x.0 x.1 c.loop-slot.invariant.mended
    (omega (arith, c.loop-slot-test.false, c.slots-slot-end.ensures, ap (λ (o : Option Thing). length (refs_in o)) x.1))
