use Rattle.std.proofs.Common.{◌≡◌, ◌≤◌, ◌+◌, replicate}
use Rattle.bal_base.proofs.filling.filled.Given as goal

-- what is made so far, and the room for what is left
abbrev pub invariant-loop : goal.invariant-loop
invariant-loop g l = (l.items.list ≡ replicate l.counter l.item) × (l.count ≤ l.counter + l.items.spare)
