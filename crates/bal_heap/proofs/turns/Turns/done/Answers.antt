use Rattle.std.proofs.Common.{arith}
use Rattle.bal_heap.proofs.TurnFacts.{queue-within}
use Rattle.bal_heap.proofs.turns.Turns.done.Goals as goal

pub returns-clause-most : goal.returns-clause-most
returns-clause-most c =
    let within = queue-within c.self.inside c.args.thread c.index.result.now c.self.invariant c.requires c.index.ensures in
    omega (arith, within.1, within.2)
