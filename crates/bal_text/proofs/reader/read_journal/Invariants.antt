use Rattle.std.proofs.Common.{length, map}
use Rattle.bal_model.specs.Entries.{entry_of}
use Rattle.bal_text.proofs.TextFacts.{IsReadTo}
use Rattle.bal_text.proofs.reader.read_journal.Given as goal

-- the events so far are those of the lines in front of the rest
abbrev pub invariant-loop-rest : goal.invariant-loop-rest
invariant-loop-rest l = IsReadTo l.bytes (map entry_of l.events.list) l.rest

abbrev pub decreases-loop-rest : goal.decreases-loop-rest
decreases-loop-rest l = length l.rest
