use Rattle.std.proofs.Common.{subst}
use Rattle.std.specs.Prelude.{IfSome}
use Rattle.bal_heap.specs.Heap.{Told, IsNext}
use Rattle.bal_heap.specs.Meets.{told_by}
use Rattle.bal_heap.proofs.HeapFacts.{next-row-own, next-row-next}
use Rattle.bal_heap.proofs.heap.Heap.next_row.Goals as goal

pub returns-clause-own : goal.returns-clause-own
returns-clause-own c =
    let a = c.self.inside in
    next-row-own (told_by a) a.turns c.args.thread c.next.result c.self.invariant.met c.requires c.next.ensures

pub returns-clause-next : goal.returns-clause-next
returns-clause-next c =
    let a = c.self.inside in
    subst (λ (x : Told). IfSome c.next.result (IsNext x)) c.self.view_is
    (next-row-next (told_by a) a.turns c.args.thread c.next.result c.self.invariant.met c.requires c.next.ensures)
