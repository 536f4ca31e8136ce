use Rattle.std.proofs.Common.{◌≡◌, ◌∙◌, ◌<◌, ap, sym, refl, subst, arith, length, take, get_or, List, [], ◌∷◌, ◌++◌, ℕ, set}
use Rattle.std.proofs.lemmas.List.{take_more, take_all, length-take-le}
use Rattle.bal_model.specs.declared.row.Row.{Row}
use Rattle.bal_model.specs.declared.row.Op.TheVariants as op
use Rattle.bal_heap.specs.declared.turns.Queue.{Queue}
use Rattle.bal_heap.proofs.TurnFacts.{AreFresh, AreFresh-more, HasQueues-fresh, progress-fresh}
use Rattle.bal_heap.proofs.turns.Turns.make.Goals as goal

-- past the end of a list of rows
none : Row
none = record { thread = 0; op = op.New 0 0 0 }

pub loop-place-init : goal.loop-place-init
loop-place-init c = (
  c.in_ok-queues.ensures.len,
  λ t d lt.
      let empty = c.in_ok-queues.ensures.empty t d (omega (arith, c.in_ok-queues.ensures.len)) in
      record { places = empty.0; done = empty.1 },
)

pub index_mut-queue-requires : goal.index_mut-queue-requires
unfolding none
index_mut-queue-requires c =
    let rows = c.as_slice-row-items.ensures in
    let here : (get_or c.as_slice-row-items.result.now c.loop-place.place none).thread < 32 =
    subst (λ (xs : List Row). c.loop-place.place < length xs → (get_or xs c.loop-place.place none).thread < 32) (sym rows) (λ lt. c.requires.threads c.loop-place.place none lt) c.loop-place-test.true in
    omega (arith, here, c.loop-place.invariant.0)

pub loop-place-preserved : goal.loop-place-preserved
unfolding none
loop-place-preserved c =
    let rows = c.as_slice-row-items.result.now in
    let i = c.loop-place.place in
    let r : Row = get_or rows i none in
    let lt : r.thread < 32 = subst (λ (xs : List Row). i < length xs → (get_or xs i none).thread < 32) (sym c.as_slice-row-items.ensures) (λ lt. c.requires.threads i none lt) c.loop-place-test.true in
    let q' : Queue = record { places = c.push.new.self; done = c.index_mut-queue.result.now.done } in
    let many : length (take i rows) ≡ i = length-take-le i rows (omega arith) in (
      c.loop-place.invariant.0,
      subst (AreFresh (set c.loop-place.queues.items r.thread q')) (sym (take_more rows i none c.loop-place-test.true))
          (AreFresh-more c.loop-place.queues.items (take i rows) r c.index_mut-queue.result.now q' (omega (arith, c.loop-place.invariant.0)) lt c.loop-place.invariant.1 c.index_mut-queue.ensures.value
          (c.push.ensures.list ∙ ap (λ (ps : List ℕ). ps ++ i ∷ []) c.in_ok-reserve.ensures.list ∙ ap (λ (n : ℕ). c.index_mut-queue.result.now.places.list ++ n ∷ []) (sym many)) refl),
    )

pub invariant_of-result : goal.invariant_of-result
invariant_of-result c =
    HasQueues-fresh _ c.requires.few (omega (arith, c.loop-place.invariant.0))
    (subst (AreFresh c.loop-place.queues.items) (take_all c.loop-place.place c.as_slice-row-items.result.now c.loop-place-test.false ∙ c.as_slice-row-items.ensures) c.loop-place.invariant.1)

pub returns : goal.returns
returns c =
    ap (λ (done : List ℕ). record { rows = c.args.trace.rows.list; done = done })
    (progress-fresh c.loop-place.queues.items 32 (omega (arith, c.loop-place.invariant.0)) (λ t d lt. (c.loop-place.invariant.1 t d lt).done))
