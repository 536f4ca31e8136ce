use Rattle.std.proofs.Common.{◌+◌, ℕ, List, drop, get_or, subst, sym, ◌∙◌}
use Rattle.std.proofs.lemmas.List.{drop_more}
use Rattle.bal_layout.specs.Shape.{Shape}
use Rattle.bal_sweep.specs.InPlace.{AreOf}
use Rattle.bal_settle.specs.Settled.{MaySettle}
use Rattle.bal_settle.specs.Settling.{AreFirst, IsSettling}
use Rattle.bal_settle.proofs.Settling.{own-of, settling-next}
use Rattle.bal_settle.proofs.settle_chosen.Goals as goal

pub settle_region-requires-clause-own : goal.settle_region-requires-clause-own
settle_region-requires-clause-own c =
    let i = c.loop-region.invariant in
    let n = c.loop-region.region-index in
    let chosen = c.args.chosen.now in
    let q = get_or chosen n 0 in
    let u = c.loop-region.table in
    let may = subst (λ (l : List ℕ). MaySettle u l c.loop-region.rest.now) (drop_more chosen n 0 c.loop-region-test.true) i.may in
    let first = subst (λ (s : Shape). AreFirst s q c.loop-region.rest.now c.count_in.result) (c.geometry-geometry.ensures.shape ∙ sym i.shape) c.count_in.ensures in
    subst (AreOf u q) (sym c.split_at.ensures.front) (own-of u c.geometry.ensures.limits q (drop (n + 1) chosen) c.loop-region.rest.now may c.count_in.result first)

pub loop-region-preserved : goal.loop-region-preserved
loop-region-preserved c =
    let i = c.loop-region.invariant in
    let n = c.loop-region.region-index in
    let chosen = c.args.chosen.now in
    let q = get_or chosen n 0 in
    let u = c.loop-region.table in
    let rest = c.loop-region.rest.now in
    let more = drop_more chosen n 0 c.loop-region-test.true in
    let now = subst (λ (l : List ℕ). IsSettling chosen c.args.marked.now c.args.table.now c.args.cards.now l rest u c.loop-region.cards) more i in
    let first = subst (λ (s : Shape). AreFirst s q rest c.count_in.result) (c.geometry-geometry.ensures.shape ∙ sym i.shape) c.count_in.ensures in
    settling-next u c.geometry.ensures.limits q (drop (n + 1) chosen) rest now.may c.count_in.result first chosen c.args.marked.now c.args.table.now c.args.cards.now c.loop-region.cards now
    c.settle_region.new.table c.settle_region.new.cards c.split_at.result.0.now c.split_at.result.1.now c.split_at.ensures.front c.split_at.ensures.back
    c.settle_region.ensures.table c.settle_region.ensures.cards
