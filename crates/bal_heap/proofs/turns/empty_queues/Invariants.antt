use Rattle.std.proofs.Common.{◌≡◌, [], vec_len}
use Rattle.std.specs.Prelude.{All}
use Rattle.bal_heap.specs.declared.turns.Queue.{Queue}
use Rattle.bal_heap.proofs.turns.empty_queues.Given as goal

abbrev pub invariant-loop : goal.invariant-loop
invariant-loop l = (vec_len l.queues ≡ l.counter) × All (λ (q : Queue). (q.places.list ≡ []) × (q.done ≡ 0)) l.queues.items
