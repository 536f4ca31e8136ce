use Rattle.std.proofs.Common.{refl}
use Rattle.bal_global.specs.Global.{heap_by}
use Rattle.bal_layout.specs.Regions.{all_regions}
use Rattle.bal_meet.specs.Heap.{spot_at}
use Rattle.bal_partial.proofs.Flushed.{all-flushed}
use Rattle.bal_partial.proofs.OnItsBoard.{regions-are, world-is}
use Rattle.bal_partial.specs.Collection.{lent_by, seen_of}
use Rattle.bal_partial.proofs.laws.a_partial_collection_is_legal.Goals as goal

pub returns : goal.returns
returns c = λ k b made roots x kept on limit workers choice is told.
    c.a_told_evacuation_is_legal.ensures k b x.chosen (seen_of x) kept (c.a_collection_is_of_its_board.ensures.whole k b made roots x kept on limit is told)
    (record {
      workers = workers;
      ascending = on.meets.decodes.ascending;
      the_choice = choice;
      all_flushed = all-flushed x.table roots b (spot_at (heap_by x.table roots made)) is.evacuation.table on.meets.decodes (λ a. refl) (regions-are k b made roots x on is)
          is.begins.remembered (all_regions b.regions);
    })
    (c.an_evacuation_is_one_of_the_board.ensures.walks b (spot_at (heap_by x.table roots made)) (lent_by x) roots x.held x.places (seen_of x)
    (c.a_collection_is_of_its_board.ensures.collected k b made roots x on is) (world-is k b made roots x on is))
