use Rattle.bal_kept.proofs.Named.{given}
use Rattle.bal_kept.proofs.OnBoard.{on-board}
use Rattle.bal_kept.proofs.told.the_world_tells_what_the_board_does.Goals as goal

pub returns : goal.returns
returns c = λ conf b spot l roots held places pool k name from shape states.
    on-board (given c.objects_are_numbered_by_address.ensures.number c.what_is_held_from_outside_is_gathered.ensures.held from) pool
    c.objects_of_a_table_do_not_overlap.ensures.size c.a_header_has_one_spelling.ensures.only conf shape states k name
