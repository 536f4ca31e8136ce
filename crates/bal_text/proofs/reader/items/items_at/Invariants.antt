use Rattle.std.proofs.Common.{◌≡◌, ◌-◌, length}
use Rattle.bal_text.specs.Readings.{items_at, items_upto}
use Rattle.bal_text.proofs.Readings.{with_front}
use Rattle.bal_text.proofs.reader.items.items_at.Given as goal

-- the items so far, and those that are still to be taken, are all
abbrev pub invariant-loop : goal.invariant-loop
invariant-loop g l =
    items_at g.W.Listed.reading l.fn.text ≡ with_front l.items.list (items_upto (length l.fn.text - l.counter) g.W.Listed.reading l.rest)
