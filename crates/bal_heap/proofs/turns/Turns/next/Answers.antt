use Rattle.std.proofs.Common.{◌∙◌, ap}
use Rattle.std.specs.Prelude.{option_and_then, slice_get}
use Rattle.bal_heap.specs.Turns.{Progress, next_of}
use Rattle.bal_heap.proofs.TurnFacts.{next-at}
use Rattle.bal_heap.proofs.turns.Turns.next.Goals as goal

pub returns-in_default : goal.returns-in_default
returns-in_default c =
    let q = c.index-queue.result.now in
    let rows = c.self.inside.trace.rows.list in
    ap (option_and_then (slice_get rows)) c.in_default.ensures
    ∙ next-at c.self.inside c.args.thread q c.self.invariant c.requires c.index-queue.ensures
    ∙ ap (λ (p : Progress). next_of p c.args.thread) c.self.view_is

pub returns : goal.returns
returns c =
    let q = c.index-queue.result.now in
    let rows = c.self.inside.trace.rows.list in
    c.copied.ensures ∙ c.get-2.ensures ∙ ap (option_and_then (slice_get rows)) c.in-Some.ensures
    ∙ next-at c.self.inside c.args.thread q c.self.invariant c.requires c.index-queue.ensures
    ∙ ap (λ (p : Progress). next_of p c.args.thread) c.self.view_is
