use Rattle.bal_copyfwd.proofs.Closing.{roots-kept, survivors-closed}
use Rattle.bal_kept.proofs.Lemmas.{given}
use Rattle.bal_copyfwd.proofs.laws.survivors_lead_to_survivors.Goals as goal

pub returns-clause-closed : goal.returns-clause-closed
returns-clause-closed c = λ b spot l roots held places pool decisions from.
    survivors-closed (given c.objects_are_numbered_by_address.ensures.number c.what_is_held_from_outside_is_gathered.ensures.held from) pool decisions

pub returns-clause-roots : goal.returns-clause-roots
returns-clause-roots c = λ b spot l roots held places pool decisions from.
    roots-kept (given c.objects_are_numbered_by_address.ensures.number c.what_is_held_from_outside_is_gathered.ensures.held from) pool decisions
