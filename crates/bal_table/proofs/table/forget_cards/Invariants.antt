use Rattle.std.proofs.Common.{◌≡◌, ◌++◌, drop, map, take}
use Rattle.bal_table.specs.Changes.{without_cards_between}
use Rattle.bal_table.proofs.table.forget_cards.Given as goal

-- so many of the states have lost these cards, and the others are as they were
abbrev pub invariant-loop-state : goal.invariant-loop-state
invariant-loop-state l = l.state-items ≡ map (without_cards_between l.from l.to) (take l.state-index l.fn.states.items) ++ drop l.state-index l.fn.states.items
