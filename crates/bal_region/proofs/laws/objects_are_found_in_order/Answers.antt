use Rattle.bal_region.proofs.Seen.{first-is, first-none}
use Rattle.bal_region.proofs.laws.objects_are_found_in_order.Goals as goal

pub returns-clause-first : goal.returns-clause-first
returns-clause-first c = first-is

pub returns-clause-none : goal.returns-clause-none
returns-clause-none c = first-none
