use Rattle.std.proofs.Common.{take, map}
use Rattle.bal_base.specs.Text.{Writes}
use Rattle.bal_model.specs.Entries.{entry_of}
use Rattle.bal_model.specs.Text.{journal_text}
use Rattle.bal_text.proofs.writer.write_text.Given as goal

-- what was written is the text of so many events
abbrev pub invariant-loop-event : goal.invariant-loop-event
invariant-loop-event g l = Writes g.T.Text.tells l.fn.text l.text (journal_text (map entry_of (take l.event-index l.journal.events.list)))
