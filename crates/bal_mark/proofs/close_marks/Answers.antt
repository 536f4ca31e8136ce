use Rattle.std.proofs.Common.{◌≡◌, ap, arith, length, subst, sym}
use Rattle.bal_table.specs.Marks.{Marked, no_marks}
use Rattle.bal_table.specs.Table.{refs_in, things_of}
use Rattle.bal_table.proofs.Lemmas.{queue-none}
use Rattle.bal_mark.specs.Closing.{IsClosing}
use Rattle.bal_mark.specs.Marking.{AreMarksOf}
use Rattle.bal_mark.proofs.Led.{all-led-taken, all-led-words}
use Rattle.bal_mark.proofs.Paths.{closed-reached, closing-begun, closing-next}
use Rattle.bal_mark.proofs.Room.{all-led-marks, next-marks, no-marks}
use Rattle.bal_mark.proofs.close_marks.Goals as goal

pub loop-address-init : goal.loop-address-init
loop-address-init c =
    let t = c.args.table.now in
    let roots = c.args.roots.now in
    let words = c.args.marks.now.words in
    record {
      marks = subst (AreMarksOf t) (sym c.mark_roots.ensures)
          (all-led-marks t roots (no_marks words) (no-marks t words c.geometry.ensures.limits c.requires.words) c.requires.found.held);
      closing = subst (IsClosing (things_of t) roots) (sym c.mark_roots.ensures) (closing-begun (things_of t) roots words);
    }

pub mark_slots-requires-clause-object : goal.mark_slots-requires-clause-object
mark_slots-requires-clause-object c =
    (next-marks c.args.table.now c.loop-address.marks c.next.new.self c.in-Some.address c.loop-address.invariant.marks c.in-Some.ensures.next c.in-Some.ensures.limits).1

-- one address less waits
pub loop-address-smaller : goal.loop-address-smaller
loop-address-smaller c =
    let refs = refs_in (things_of c.args.table.now c.in-Some.address) in
    let next = c.in-Some.ensures.next.1 in
    omega (
      arith,
      c.in-Some.ensures.left,
      ap (λ (m : Marked). m.taken) c.mark_slots.ensures,
      ap (λ (m : Marked). m.words) c.mark_slots.ensures,
      all-led-taken refs c.next.new.self,
      all-led-words refs c.next.new.self,
      ap (λ (m : Marked). m.taken) next,
      ap (λ (m : Marked). m.words) next,
    )

pub loop-address-preserved : goal.loop-address-preserved
loop-address-preserved c =
    let t = c.args.table.now in
    let roots = c.args.roots.now in
    let i = c.loop-address.invariant in
    let next = c.in-Some.ensures in
    let refs = refs_in (things_of t c.in-Some.address) in
    record {
      marks = subst (AreMarksOf t) (sym c.mark_slots.ensures)
          (all-led-marks t refs c.next.new.self (next-marks t c.loop-address.marks c.next.new.self c.in-Some.address i.marks next.next next.limits).0
          (c.requires.found.objects c.in-Some.address));
      closing = subst (IsClosing (things_of t) roots) (sym c.mark_slots.ensures)
          (closing-next (things_of t) roots c.loop-address.marks c.next.new.self c.in-Some.address i.closing next.next);
    }

pub returns-clause-reached : goal.returns-clause-reached
returns-clause-reached c =
    let t = c.args.table.now in
    let next = c.in_default.ensures in
    closed-reached (things_of t) c.args.roots.now c.next.new.self
    (subst (IsClosing (things_of t) c.args.roots.now) (sym next.next.1) c.loop-address.invariant.closing)
    (subst (λ (m : Marked). m.taken ≡ length m.order) (sym next.next.1) (queue-none c.loop-address.marks c.loop-address.invariant.marks.marked next.next.0))

pub returns-clause-queue : goal.returns-clause-queue
returns-clause-queue c =
    subst (λ (m : Marked). m.taken ≡ length m.order) (sym c.in_default.ensures.next.1)
    (queue-none c.loop-address.marks c.loop-address.invariant.marks.marked c.in_default.ensures.next.0)
