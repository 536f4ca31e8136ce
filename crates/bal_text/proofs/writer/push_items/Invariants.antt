use Rattle.std.proofs.Common.{take}
use Rattle.std.specs.Prelude.{flat_map}
use Rattle.bal_base.specs.Text.{Writes}
use Rattle.bal_model.specs.Text.{spaced}
use Rattle.bal_text.proofs.writer.push_items.Given as goal

-- what was written are the words of so many items
abbrev pub invariant-loop-item : goal.invariant-loop-item
invariant-loop-item g l = Writes g.T.Text.tells l.fn.text l.text (spaced (flat_map g.W.Words.words (take l.item-index l.items)))
