use Rattle.bal_model.proofs.MarkFacts.{marked-there, marked-without}
use Rattle.bal_model.proofs.plain.marks.Marks.remove.Goals as goal

pub returns : goal.returns
returns c =
    let there = marked-there c.args.self.now c.args.name c.requires in
    marked-without c.args.self.now c.args.name c.remove.new.self there.0 there.1 c.index_mut.result.now c.index_mut.ensures.value
    c.remove.ensures.members
