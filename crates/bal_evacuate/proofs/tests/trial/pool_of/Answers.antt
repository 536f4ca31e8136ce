use Rattle.std.proofs.Common.{◌+◌, ◌∙◌, ap, subst, sym}
use Rattle.bal_region.specs.Changes.{with_number}
use Rattle.bal_evacuate.proofs.Trials.{ArePooled, pooled-next, pooled-none}
use Rattle.bal_evacuate.proofs.tests.trial.pool_of.Goals as goal

pub loop-place-init : goal.loop-place-init
loop-place-init c = subst (λ l. ArePooled c.args.count l 0) (sym c.in_ok-pool.ensures.items) (pooled-none c.args.count)

pub loop-place-preserved : goal.loop-place-preserved
loop-place-preserved c =
    subst (λ l. ArePooled c.args.count l (c.loop-place.place + 1)) (sym c.in_ok-push.ensures.items)
    (pooled-next c.args.count c.loop-place.pool.items c.loop-place.place c.set_number.new.self c.loop-place.invariant c.loop-place-test.true
    (c.set_number.ensures ∙ ap (λ l. with_number l (c.loop-place.place + 1)) c.in_ok-region.ensures))

pub returns : goal.returns
returns c = c.loop-place.invariant.each
