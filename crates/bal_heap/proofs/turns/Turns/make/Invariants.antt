use Rattle.std.proofs.Common.{◌≡◌, take, vec_len}
use Rattle.bal_heap.proofs.TurnFacts.{AreFresh}
use Rattle.bal_heap.proofs.turns.Turns.make.Given as goal

-- the queues have the rows so far
abbrev pub invariant-loop-place : goal.invariant-loop-place
invariant-loop-place l = (vec_len l.queues ≡ 32) × AreFresh l.queues.items (take l.place l.row-items)
