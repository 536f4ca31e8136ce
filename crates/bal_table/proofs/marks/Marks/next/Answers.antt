use Rattle.std.proofs.Common.{◌≡◌, ◌+◌, ◌<◌, ◌∷◌, arith, refl, subst, sym}
use Rattle.bal_table.specs.KeptMarks.{marked_of}
use Rattle.bal_table.specs.Marks.{Marked, queue}
use Rattle.bal_table.proofs.KeptMarking.{IsMarked-taken, taken-below}
use Rattle.bal_table.proofs.Marking.{queue-next}
use Rattle.bal_table.proofs.marks.Marks.next.Goals as goal

pub overflow_add-self : goal.overflow_add-self
overflow_add-self c =
    let marked = c.self.invariant.marked in
    omega (arith, marked.few, taken-below (marked_of c.self.inside) marked _ (sym c.in_ok-address.ensures))

pub invariant_of-self : goal.invariant_of-self
invariant_of-self c =
    let kept = c.self.invariant in
    record {
      marked = IsMarked-taken (marked_of c.self.inside) kept.marked _ (sym c.in_ok-address.ensures);
      each = kept.each;
      bits = kept.bits;
      room = kept.room;
    }

pub returns-clause-next : goal.returns-clause-next
returns-clause-next c =
    let before = marked_of c.self.inside in
    let a = c.in_ok-address.field-0.now in
    let after = record before { taken = before.taken + 1 } in
    subst (λ (m : Marked). (queue m ≡ a ∷ queue after) × (after ≡ record m { taken = m.taken + 1 })) c.self.view_is
    (queue-next before a (sym c.in_ok-address.ensures), refl)

pub returns-clause-left : goal.returns-clause-left
returns-clause-left c =
    subst (λ (m : Marked). m.taken < m.words) c.self.view_is
    (taken-below (marked_of c.self.inside) c.self.invariant.marked _ (sym c.in_ok-address.ensures))

pub returns-clause-limits : goal.returns-clause-limits
returns-clause-limits c = IsMarked-taken (marked_of c.self.inside) c.self.invariant.marked _ (sym c.in_ok-address.ensures)
