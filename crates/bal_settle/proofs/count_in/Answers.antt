use Rattle.std.proofs.Common.{get_or, ◌∙◌}
use Rattle.bal_settle.proofs.Ascending.{there}
use Rattle.bal_settle.proofs.Parts.{first-ends}
use Rattle.bal_settle.proofs.count_in.Goals as goal

pub region_of-requires : goal.region_of-requires
region_of-requires c = c.requires.within (get_or c.args.marked.now c.loop-count.count 0) (there c.args.marked.now c.loop-count.count c.loop-count-test.true)

pub returns-else-region_of-region : goal.returns-else-region_of-region
returns-else-region_of-region c =
    let marked = c.args.marked.now in
    let k = c.loop-count.count in
    first-ends c.args.geometry.now c.args.region marked k c.requires.ascending c.loop-count-test.true
    (c.requires.from (get_or marked k 0) (there marked k c.loop-count-test.true))
    (λ e. c.if-region_of-region.false (c.region_of.ensures.region ∙ e)) c.loop-count.invariant.front
