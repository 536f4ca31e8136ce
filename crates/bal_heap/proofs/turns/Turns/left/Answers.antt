use Rattle.std.proofs.Common.{◌≡◌, ◌+◌, ◌-◌, subst, arith, length}
use Rattle.bal_rules.specs.Run.{rows_of}
use Rattle.bal_heap.specs.Turns.{Progress, done_of}
use Rattle.bal_heap.proofs.TurnFacts.{done-at, queue-within}
use Rattle.bal_heap.proofs.turns.Turns.left.Goals as goal

pub overflow_cast-result : goal.overflow_cast-result
overflow_cast-result c =
    let within = queue-within c.self.inside c.args.thread c.index-queue.result.now c.self.invariant c.requires c.index-queue.ensures in
    omega (arith, within.1)

pub returns : goal.returns
returns c =
    let t = c.args.thread in
    let q = c.index-queue.result.now in
    let within = queue-within c.self.inside t q c.self.invariant c.requires c.index-queue.ensures in
    let done = done-at c.self.inside t q c.self.invariant c.requires c.index-queue.ensures in
    subst (λ (p : Progress). (c.len.result - q.done) + done_of p t ≡ length (rows_of t p.rows)) c.self.view_is (omega (arith, within.0, within.2, done))
