use Rattle.std.proofs.Common.{refl, subst, sym}
use Rattle.bal_core.specs.Finished.{IsWithinLimit}
use Rattle.bal_global.specs.Global.{heap_by}
use Rattle.bal_meet.specs.Heap.{spot_at}
use Rattle.bal_partial.proofs.OnItsBoard.{from-board, regions-are, world-is}
use Rattle.bal_partial.specs.Collection.{lent_by, seen_of}
use Rattle.bal_partial.proofs.laws.a_collection_is_of_its_board.Goals as goal

pub returns-clause-collected : goal.returns-clause-collected
returns-clause-collected c = λ k b made roots x on is. from-board k b made roots x on is c.other_words_are_written.ensures

pub returns-clause-whole : goal.returns-clause-whole
returns-clause-whole c = λ k b made roots x kept on limit is told.
    c.an_evacuation_by_one_worker_is_whole.ensures k b x.chosen (seen_of x) kept is.evacuation.copied.evacuated is.tight
    (subst (λ l. IsWithinLimit l (seen_of x)) (sym limit) is.limit) is.leaves is.filled
    (c.an_evacuation_is_one_of_the_board.ensures.board k b (spot_at (heap_by x.table roots made)) (lent_by x) roots x.held x.places (seen_of x)
    (from-board k b made roots x on is c.other_words_are_written.ensures) on.shape (regions-are k b made roots x on is) (world-is k b made roots x on is))
    told refl
