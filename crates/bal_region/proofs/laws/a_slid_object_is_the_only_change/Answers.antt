use Rattle.bal_region.proofs.Slid.{IsLand-slid, object-beside, object-free, object-here, object-left}
use Rattle.bal_region.proofs.laws.a_slid_object_is_the_only_change.Goals as goal

pub returns-clause-free : goal.returns-clause-free
returns-clause-free c = object-free

pub returns-clause-here : goal.returns-clause-here
returns-clause-here c = object-here

pub returns-clause-gone : goal.returns-clause-gone
returns-clause-gone c = object-left

pub returns-clause-others : goal.returns-clause-others
returns-clause-others c = λ l from to at land may. object-beside l from to land may at

pub returns-clause-land : goal.returns-clause-land
returns-clause-land c = IsLand-slid
