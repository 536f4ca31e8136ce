use Rattle.std.proofs.Common.{◌≡◌, [], subst}
use Rattle.bal_heap.specs.Heap.{MeetsBoard, Told}
use Rattle.bal_heap.proofs.Comes.{flush-next}
use Rattle.bal_heap.proofs.FlushFacts.{no-flush}
use Rattle.bal_heap.proofs.FlushMore.{lacks-flushed}
use Rattle.bal_heap.proofs.heap.Heap.flush.Goals as goal

pub loop-flushed-init : goal.loop-flushed-init
loop-flushed-init c = record {
  told = no-flush c.args.self.now c.args.row.now (subst MeetsBoard c.self.view_is c.self.invariant.met.meets);
  clean = λ flushed. subst (λ (x : Told). x.objects.cards.list ≡ []) c.self.view_is (c.is_clean-flushed.ensures.0 flushed);
}

pub flush_part-requires-clause-next : goal.flush_part-requires-clause-next
flush_part-requires-clause-next c = flush-next c.args.self.now c.loop-flushed.self c.args.row.now c.requires.next c.loop-flushed.invariant.told

pub flush_part-requires-clause-lacks : goal.flush_part-requires-clause-lacks
flush_part-requires-clause-lacks c = lacks-flushed c.args.self.now c.loop-flushed.self c.args.row.now c.loop-flushed.invariant.told c.requires.lacks
