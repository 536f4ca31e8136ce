use Rattle.std.proofs.Common.{subst, sym, ◌∙◌}
use Rattle.bal_table.specs.Changes.{MayBeWritten}
use Rattle.bal_table.proofs.SlotWords.{number-there, value_found-is}
use Rattle.bal_table.proofs.tests.set_value.Goals as goal

pub set_word-requires-clause-behind : goal.set_word-requires-clause-behind
set_word-requires-clause-behind c =
    let found = value_found-is c.args.table.now c.args.address c.args.slot c.in-Some.place (sym c.find_value.ensures.place ∙ c.in-Some.is) in
    subst (MayBeWritten c.args.table.now) found.1 (number-there c.args.table.now c.args.address c.args.slot c.starts.ensures.table found.0).1
