use Rattle.std.proofs.Common.{◌≡◌, ◌≤◌, ◌*◌, ℕ, false}
use Rattle.bal_base.specs.KeptBits.{is_set}
use Rattle.bal_base.proofs.bits.Bits.last_to.Given as goal

-- no bit up to there is set in the words that were seen
abbrev pub invariant-loop-i : goal.invariant-loop-i
invariant-loop-i l = (s : ℕ) → s ≤ l.number → 64 * l.i ≤ s → is_set l.self-inside.words.items s ≡ false
