use Rattle.std.proofs.Common.{◌∙◌, ◌+◌, ◌<◌, ap, sym, subst, arith, List, ℕ, length, set}
use Rattle.std.specs.Prelude.{IsSome}
use Rattle.std.proofs.lemmas.List.{map-set}
use Rattle.bal_rules.specs.Run.{rows_of}
use Rattle.bal_heap.specs.Turns.{Progress, next_of, advanced}
use Rattle.bal_heap.specs.Queues.{progress_of, done_in}
use Rattle.bal_heap.proofs.TurnFacts.{done-at, queue-at, queue-within, next-within, HasQueues-replaced}
use Rattle.bal_heap.proofs.turns.Turns.advance.Goals as goal

pub overflow_add-queue : goal.overflow_add-queue
overflow_add-queue c =
    let within = queue-within c.self.inside c.args.thread c.index_mut-queue.result.now c.self.invariant c.requires.thread c.index_mut-queue.ensures.value in
    omega (arith, within.1, within.2)

pub invariant_of-self : goal.invariant_of-self
invariant_of-self c =
    let a = c.self.inside in
    let t = c.args.thread in
    let q = c.index_mut-queue.result.now in
    let within = queue-within a t q c.self.invariant c.requires.thread c.index_mut-queue.ensures.value in
    let has : IsSome (next_of (progress_of a) t) = subst (λ (p : Progress). IsSome (next_of p t)) (sym c.self.view_is) c.requires.next in
    let before : q.done < length (rows_of t a.trace.rows.list) = subst (λ n. n < length (rows_of t a.trace.rows.list)) (done-at a t q c.self.invariant c.requires.thread c.index_mut-queue.ensures.value) (next-within (progress_of a) t has) in
    HasQueues-replaced a t (record { places = q.places; done = q.done + 1 }) c.self.invariant c.requires.thread
    (record { places = (queue-at a t q c.self.invariant c.requires.thread c.index_mut-queue.ensures.value).places; within = omega (arith, within.0, before) })

pub returns : goal.returns
returns c =
    let a = c.self.inside in
    let t = c.args.thread in
    let q = c.index_mut-queue.result.now in
    ap (λ (done : List ℕ). record { rows = a.trace.rows.list; done = done })
    (map-set done_in a.queues.items t (record { places = q.places; done = q.done + 1 })
    ∙ ap (λ n. set (progress_of a).done t (n + 1)) (sym (done-at a t q c.self.invariant c.requires.thread c.index_mut-queue.ensures.value)))
    ∙ ap (λ (p : Progress). advanced p t) c.self.view_is
