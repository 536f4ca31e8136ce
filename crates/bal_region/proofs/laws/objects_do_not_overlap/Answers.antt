use Rattle.bal_region.proofs.Seen.{object-seen, objects-apart}
use Rattle.bal_region.proofs.laws.objects_do_not_overlap.Goals as goal

pub returns-clause-object : goal.returns-clause-object
returns-clause-object c = λ l at object land is. object-seen l at land object is

pub returns-clause-apart : goal.returns-clause-apart
returns-clause-apart c = objects-apart
