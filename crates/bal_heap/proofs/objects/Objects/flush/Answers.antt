use Rattle.bal_heap.specs.Kept.{objects_by}
use Rattle.bal_heap.proofs.FlushMore.{flush-keeps, leads-to-objects}
use Rattle.bal_heap.proofs.objects.Objects.flush.Goals as goal

pub flush-flushed-requires-clause-found : goal.flush-flushed-requires-clause-found
flush-flushed-requires-clause-found c = leads-to-objects (objects_by c.self.inside) c.self.invariant.board c.self.invariant.on

pub invariant_of-self : goal.invariant_of-self
invariant_of-self c = record {
  board = record c.self.invariant.board { regions = c.flush-flushed.new.table.regions };
  on = flush-keeps (objects_by c.self.inside) c.flush-flushed.new.table c.flush-flushed.new.cards c.args.limit c.args.notes.now.list c.flush-flushed.new.notes.list
      c.flush-flushed.ensures.flushed c.geometry.ensures.limits c.flush-flushed.ensures.covered c.self.invariant.board c.self.invariant.on;
}
