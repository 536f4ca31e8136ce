use Rattle.std.proofs.Common.{refl, ◌∙◌}
use Rattle.bal_after.proofs.Lemmas.{moves-name}
use Rattle.bal_copyfwd.specs.Moving.{survives}
use Rattle.bal_copyfwd.specs.Returned.{filled_numbers, refilled}
use Rattle.bal_evacuate.specs.Plan.{numbers_of}
use Rattle.bal_global.specs.Global.{heap_by}
use Rattle.bal_meet.specs.Heap.{spot_at}
use Rattle.bal_partial.proofs.BoardAfter.{are-taken, is-quiet, left-marked, may-choose, mended-among, moves-so, on-board, spot-so, things-out}
use Rattle.bal_partial.proofs.OnItsBoard.{world-is}
use Rattle.bal_partial.specs.Collection.{decisions_of, lent_by, marked_of, plan_of, seen_of}
use Rattle.bal_partial.specs.Mended.{places_mended, settled_of}
use Rattle.bal_rules.specs.PartialEvents.{names_lost, placed_after_partial}
use Rattle.bal_table.proofs.Lemmas.{IsTable-vacated}
use Rattle.bal_table.specs.Moves.{moved_to}
use Rattle.bal_table.specs.Table.{things_of}
use Rattle.bal_words.specs.Moved.{word_to}
use Rattle.std.specs.Prelude.{map}
use Rattle.bal_partial.proofs.laws.the_board_after_it_is_met.Goals as goal

pub returns : goal.returns
returns c = λ k b made roots x kept m regions d e v on limit is told moves are mended.
    let fill = c.what_was_out_may_be_put_back.ensures.fill roots x is in
    let from = c.a_collection_is_of_its_board.ensures.collected k b made roots x on is in
    let whole = c.a_collection_is_of_its_board.ensures.whole k b made roots x kept on limit is told in
    let put = c.an_evacuation_is_put_back.ensures x.table x.chosen (plan_of x) x.course is.evacuation fill in
    let settle = c.what_it_mends_may_be_mended.ensures.settle roots x is in
    let left = left-marked x (λ a. c.objects_are_numbered_by_address.ensures.listed (lent_by x) a (IsTable-vacated x.table is.evacuation.table))
    (c.a_settled_table_keeps_just_the_marked.ensures.objects (refilled x.table x.course) x.chosen (marked_of x) (c.what_was_out_may_be_put_back.ensures.table roots x is) settle) in
    let carried = c.survivors_are_carried.ensures (lent_by x) (decisions_of x) (filled_numbers x.course) (refilled x.table x.course) (settled_of x)
    (IsTable-vacated x.table is.evacuation.table) (may-choose roots x is) put left in
    let quiet = is-quiet roots x is in
    let spot = spot_at (heap_by x.table roots made) in
    let pool = numbers_of (plan_of x).pool in
    let taken = are-taken roots x is (λ n w. c.decisions_are_those_that_were_told.ensures.told x.table x.chosen (plan_of x) x.course n w is.evacuation)
    (λ i n w. c.decisions_are_those_that_were_told.ensures.decided x.table x.chosen (plan_of x) x.course i n w is.evacuation) in
    let fixed = c.regions_and_places_are_all_that_is_mended.ensures (settled_of x) (places_mended x m) v regions x.places (moved_to m) mended.before_is
    (c.what_it_mends_may_be_mended.ensures.outside roots x m regions is moves are) refl (mended-among roots x is m moves k b made kept regions d e v on mended) in
    let all = moves-so roots x is m moves k b made kept regions d e v on mended carried fixed
    (c.survivors_lead_to_survivors.ensures.closed b spot (lent_by x) roots x.held x.places pool (decisions_of x) from quiet)
    (c.survivors_lead_to_survivors.ensures.roots b spot (lent_by x) roots x.held x.places pool (decisions_of x) from quiet) in
    let placed = c.objects_are_moved.ensures.placed (heap_by x.table roots made) (heap_by v (map (word_to (moved_to m)) roots) made) (survives (lent_by x) (decisions_of x)) (moved_to m) b
    (names_lost b x.chosen kept) (placed_after_partial kept) on.meets
    (λ a y at. c.survivors_lie_where_the_board_has_them.ensures.lost k b spot (lent_by x) roots x.held x.places (seen_of x) kept (decisions_of x) from whole on.shape
    (world-is k b made roots x on is) taken a y (things-out roots x is a ∙ at))
    (moves-name kept)
    (λ a y at keeps. spot-so roots x is m moves k b made kept regions d e v on mended a y
    (c.survivors_lie_where_the_board_has_them.ensures.moves k b spot (lent_by x) roots x.held x.places (seen_of x) kept (decisions_of x) from whole on.shape
    (world-is k b made roots x on is) taken a y (things-out roots x is a ∙ at) keeps refl)) in
    on-board roots x is m moves k b made kept regions d e v on mended
    (c.objects_are_moved.ensures.moved (heap_by x.table roots made) (heap_by v (map (word_to (moved_to m)) roots) made) (things_of (settled_of x)) (survives (lent_by x) (decisions_of x))
    (moved_to m) b _ on.meets all placed)
    (c.settled_regions_are_those_of_the_board.ensures.regions k b made roots x kept on limit is told)
