use Rattle.bal_model.proofs.MarkFacts.{marked-with}
use Rattle.bal_model.proofs.plain.marks.Marks.insert.Goals as goal

pub returns-clause-marked : goal.returns-clause-marked
returns-clause-marked c =
    marked-with c.args.self.now c.args.name c.insert.new.self c.requires.thread c.requires.counted c.index_mut.result.now c.index_mut.ensures.value
    c.insert.ensures.members
