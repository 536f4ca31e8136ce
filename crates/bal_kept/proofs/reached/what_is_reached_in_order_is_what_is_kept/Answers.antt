use Rattle.bal_kept.proofs.Listed.{listed}
use Rattle.bal_kept.proofs.Named.{given}
use Rattle.bal_kept.proofs.reached.what_is_reached_in_order_is_what_is_kept.Goals as goal

pub returns : goal.returns
returns c = λ b spot l roots held places pool names from.
    listed (given c.objects_are_numbered_by_address.ensures.number c.what_is_held_from_outside_is_gathered.ensures.held from) pool names
