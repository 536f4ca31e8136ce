use Rattle.std.proofs.Common.{◌≡◌, take}
use Rattle.bal_text.proofs.reader.pieces.behind.Given as goal

-- so many bytes are the same
abbrev pub invariant-loop-at : goal.invariant-loop-at
invariant-loop-at l = take l.at l.text ≡ take l.at l.bytes
