use Rattle.std.proofs.Common.{arith}
use Rattle.bal_table.proofs.SlotWords.{reference-there}
use Rattle.bal_table.proofs.reading.place_of.Goals as goal

pub overflow_add-result : goal.overflow_add-result
overflow_add-result g c =
    let table = c.shape.ensures.limits in
    omega (arith, (reference-there (g.T.Readable.table c.args.table.now) c.args.address c.args.slot table c.requires).0, table.shape.words_in_all)

pub overflow_add-result-2 : goal.overflow_add-result-2
overflow_add-result-2 g c =
    let table = c.shape.ensures.limits in
    omega (arith, (reference-there (g.T.Readable.table c.args.table.now) c.args.address c.args.slot table c.requires).0, table.shape.words_in_all)

pub returns-clause-within : goal.returns-clause-within
returns-clause-within g c = (reference-there (g.T.Readable.table c.args.table.now) c.args.address c.args.slot c.shape.ensures.limits c.requires).0
