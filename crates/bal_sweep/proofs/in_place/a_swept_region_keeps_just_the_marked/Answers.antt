use Rattle.bal_sweep.proofs.Keeping.{swept-inside, swept-outside}
use Rattle.bal_sweep.proofs.in_place.a_swept_region_keeps_just_the_marked.Goals as goal

pub returns-clause-inside : goal.returns-clause-inside
returns-clause-inside c = swept-inside

pub returns-clause-outside : goal.returns-clause-outside
returns-clause-outside c = swept-outside
