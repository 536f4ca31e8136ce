use Rattle.std.proofs.Common.{◌≡◌, ◌≤◌, ◌<◌, ◌*◌, ℕ, false}
use Rattle.bal_base.specs.KeptBits.{is_set}
use Rattle.bal_base.proofs.bits.Bits.next_from.Given as goal

-- no bit from there on is set in the words that were seen
abbrev pub invariant-loop-i : goal.invariant-loop-i
invariant-loop-i l = (s : ℕ) → l.number ≤ s → s < 64 * l.i → is_set l.self-inside.words.items s ≡ false
