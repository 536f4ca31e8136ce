use Rattle.std.proofs.Common.{◌<◌, ◌∙◌, ap, sym, subst, arith, get_or, length, List, Err}
use Rattle.bal_model.specs.declared.row.Row.{Row}
use Rattle.bal_model.specs.declared.row.Op.TheVariants as op
use Rattle.bal_replay.proofs.DriverFacts.{each-row-at, not-ended, row-here, under-way-more, under-way-none, whole-replay}
use Rattle.bal_replay.proofs.driver.execute.Goals as goal

-- past the end of a list of rows
none : Row
none = record { thread = 0; op = op.New 0 0 0 }

pub loop-place-init : goal.loop-place-init
loop-place-init c = under-way-none c.args.config c.args.trace.rows.list c.in-Ok.heap c.in-Ok.ensures

pub bounds-rows-place : goal.bounds-rows-place
bounds-rows-place c =
    subst (λ (xs : List Row). c.loop-place.place < length xs)
    (c.rows-place-end.ensures ∙ c.in-Ok.ensures.rows_are ∙ sym (c.rows.ensures ∙ c.loop-place.invariant.traced)) c.loop-place-test.true

pub step-requires : goal.step-requires
unfolding none
step-requires c =
    let here = row-here c.args.config c.args.trace.rows.list c.loop-place.place c.loop-place.heap c.rows.result.now c.rows-place-end.result.now none c.loop-place.invariant c.rows.ensures
    (c.rows-place-end.ensures ∙ c.in-Ok.ensures.rows_are) c.loop-place-test.true in
    (each-row-at c.args.config.geometry c.args.trace.rows.list c.loop-place.place (get_or c.rows.result.now c.loop-place.place none) c.requires.each_row here).in_range.0

pub unreachable-requires : goal.unreachable-requires
unfolding none
unreachable-requires c =
    let here = row-here c.args.config c.args.trace.rows.list c.loop-place.place c.loop-place.heap c.rows.result.now c.rows-place-end.result.now none c.loop-place.invariant c.rows.ensures
    (c.rows-place-end.ensures ∙ c.in-Ok.ensures.rows_are) c.loop-place-test.true in
    not-ended c.args.config c.args.trace.rows.list c.loop-place.place c.loop-place.heap (get_or c.rows.result.now c.loop-place.place none) c.loop-place.invariant here
    (c.in-Err-Ended.ensures.ended.0 (ap Err c.in-Err-Ended.field-0-is))

pub loop-place-preserved : goal.loop-place-preserved
unfolding none
loop-place-preserved c =
    let here = row-here c.args.config c.args.trace.rows.list c.loop-place.place c.loop-place.heap c.rows.result.now c.rows-place-end.result.now none c.loop-place.invariant c.rows.ensures
    (c.rows-place-end.ensures ∙ c.in-Ok.ensures.rows_are) c.loop-place-test.true in
    under-way-more c.args.config c.args.trace.rows.list c.loop-place.place c.loop-place.heap c.step.new.self (get_or c.rows.result.now c.loop-place.place none) c.in-Ok-step.field-0 c.loop-place.invariant here
    c.in-Ok-step.ensures.ok

pub returns : goal.returns
returns c =
    whole-replay c.args.config c.args.trace.rows.list c.loop-place.place c.loop-place.heap c.loop-place.invariant
    (omega (arith, c.loop-place-test.false, ap length (c.rows-place-end.ensures ∙ c.in-Ok.ensures.rows_are)))
