use Rattle.bal_kept.proofs.Listed.{reached-name}
use Rattle.bal_kept.proofs.Named.{given}
use Rattle.bal_kept.proofs.Walks.{reached}
use Rattle.bal_kept.proofs.reached.just_what_is_kept_is_reached.Goals as goal

pub returns-clause-number : goal.returns-clause-number
returns-clause-number c = λ b spot l roots held places pool k a x from.
    reached (given c.objects_are_numbered_by_address.ensures.number c.what_is_held_from_outside_is_gathered.ensures.held from) pool k a x

pub returns-clause-name : goal.returns-clause-name
returns-clause-name c = λ b spot l roots held places pool name from.
    reached-name (given c.objects_are_numbered_by_address.ensures.number c.what_is_held_from_outside_is_gathered.ensures.held from) pool name
