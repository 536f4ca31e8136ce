use Rattle.std.proofs.Common.{◌≡◌, ◌≤◌, ℕ, length}
use Rattle.std.specs.Prelude.{IsTrue}
use Rattle.bal_base.specs.Bits.{is_member}
use Rattle.bal_rebuild.proofs.clean_all.Given as goal

-- the least card that is left is this one or a later one
abbrev pub invariant-loop-card : goal.invariant-loop-card
invariant-loop-card l = record {
  rest : l.cards ≡ record l.initial.cards { list = l.cards.list };
  above : (n : ℕ) → IsTrue (is_member l.cards.list n) → l.from ≤ n;
}

abbrev pub decreases-loop-card : goal.decreases-loop-card
decreases-loop-card l = length l.cards.list
