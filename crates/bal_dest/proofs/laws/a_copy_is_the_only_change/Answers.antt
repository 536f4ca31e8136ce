use Rattle.bal_dest.proofs.Committed.{age-always, free-before, other-place, placed-after, stays-after, used-after}
use Rattle.bal_dest.proofs.laws.a_copy_is_the_only_change.Goals as goal

pub returns-clause-free : goal.returns-clause-free
returns-clause-free c b r is e = free-before b r e is

pub returns-clause-placed : goal.returns-clause-placed
returns-clause-placed c b r object is e words object_is = placed-after b r e is object words object_is

pub returns-clause-stays : goal.returns-clause-stays
returns-clause-stays c b r object offset is e words object_is other = stays-after b r e is object words object_is offset other

pub returns-clause-used : goal.returns-clause-used
returns-clause-used c b r object is e = used-after b r e is object

pub returns-clause-other : goal.returns-clause-other
returns-clause-other c b r object place e other = other-place b r e object place other

pub returns-clause-age : goal.returns-clause-age
returns-clause-age c = age-always
