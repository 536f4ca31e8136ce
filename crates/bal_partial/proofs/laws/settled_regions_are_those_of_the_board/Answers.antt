use Rattle.std.proofs.Common.{◌≡◌, true, refl, ap, sym, subst, ◌∙◌}
use Rattle.bal_layout.specs.Addresses.{region_of}
use Rattle.bal_layout.specs.Regions.{is_object, region_at}
use Rattle.bal_meet.specs.Heap.{Account, spot_at}
use Rattle.bal_global.specs.Global.{heap_by}
use Rattle.bal_copyfwd.specs.Returned.{backs_of, refilled}
use Rattle.bal_partial.proofs.BackAsDrawn.{back-as-drawn, object-stays, objects-in-use}
use Rattle.bal_partial.proofs.CountedAsMarked.{counted-as-marked}
use Rattle.bal_partial.proofs.LeavesOnBoard.{leafless}
use Rattle.bal_partial.specs.Collection.{lent_by, marked_of, plan_of, seen_of}
use Rattle.bal_table.specs.Occupied.{vacated}
use Rattle.bal_table.specs.Table.{things_of}
use Rattle.bal_partial.proofs.laws.settled_regions_are_those_of_the_board.Goals as goal

pub returns-clause-back : goal.returns-clause-back
returns-clause-back c = λ conf b made roots x kept on limit is told.
    let whole = c.a_collection_is_of_its_board.ensures.whole conf b made roots x kept on limit is told in
    back-as-drawn x.table x.chosen (plan_of x) x.course is.evacuation (c.what_was_out_may_be_put_back.ensures.fill roots x is)
    c.regions_are_put_back.ensures.state c.regions_are_put_back.ensures.other_states is.filled
    b (sym (ap (λ (a : Account). a.regions) on.meets.account)) is.begins.may.objects whole.drawn

pub returns-clause-counted : goal.returns-clause-counted
returns-clause-counted c = λ conf b made roots x kept q on limit is told among.
    let may = c.what_was_out_may_be_put_back.ensures.fill roots x is in
    let from = c.a_collection_is_of_its_board.ensures.collected conf b made roots x on is in
    let settle = c.what_it_mends_may_be_mended.ensures.settle roots x is in
    let pool = (seen_of x).world.pool in
    counted-as-marked x from
    (λ a k. c.objects_are_numbered_by_address.ensures.number (lent_by x) a k from.table)
    (λ a there. ((c.objects_are_numbered_by_address.ensures.listed (lent_by x) a from.table).0 there).0)
    (c.objects_are_numbered_by_address.ensures.ascend (lent_by x))
    (λ k d. c.decisions_are_those_that_were_told.ensures.told x.table x.chosen (plan_of x) x.course k d is.evacuation)
    (λ i k d. c.decisions_are_those_that_were_told.ensures.decided x.table x.chosen (plan_of x) x.course i k d is.evacuation)
    (c.the_world_tells_the_objects.ensures.name (lent_by x) x.held pool)
    q (refilled x.table x.course)
    (c.an_evacuation_is_put_back.ensures x.table x.chosen (plan_of x) x.course is.evacuation may).shape
    (c.a_settled_table_keeps_just_the_marked.ensures.estimate (refilled x.table x.course) x.chosen (marked_of x)
    (c.what_was_out_may_be_put_back.ensures.table roots x is) settle q (settle.regions q among).0)
    (λ a lies. c.regions_are_put_back.ensures.others (backs_of x.course) (vacated x.table) a
    (object-stays x.table x.chosen (plan_of x) x.course is.evacuation may (region_of x.table.shape a)
    (subst (λ p. is_object (region_at x.table.regions p).role ≡ true) (sym lies) (is.begins.may.objects q among))))
    (c.the_world_tells_the_objects.ensures.size (lent_by x) x.held pool)

pub returns-clause-regions : goal.returns-clause-regions
returns-clause-regions c = λ conf b made roots x kept on limit is told.
    let may = c.what_was_out_may_be_put_back.ensures.fill roots x is in
    let whole = c.a_collection_is_of_its_board.ensures.whole conf b made roots x kept on limit is told in
    let shape = (c.an_evacuation_is_put_back.ensures x.table x.chosen (plan_of x) x.course is.evacuation may).shape in
    c.regions_are_those_of_the_board.ensures conf b x.chosen (seen_of x) kept (refilled x.table x.course) (marked_of x) whole
    (leafless (spot_at (heap_by x.table roots made)) (things_of x.table) roots b on.meets.decodes (λ a. refl))
    (λ q among. objects-in-use x.table b (sym (ap (λ (a : Account). a.regions) on.meets.account)) q (is.begins.may.objects q among))
    on.meets.decodes.ascending (on.shape ∙ sym shape)
    (returns-clause-back c conf b made roots x kept on limit is told)
    (λ q. returns-clause-counted c conf b made roots x kept q on limit is told)
