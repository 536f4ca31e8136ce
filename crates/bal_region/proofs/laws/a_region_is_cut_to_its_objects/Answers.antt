use Rattle.bal_region.proofs.Ends.{IsLand-cut, cut-last, cut-less, cut-within}
use Rattle.bal_region.proofs.laws.a_region_is_cut_to_its_objects.Goals as goal

pub returns-clause-within : goal.returns-clause-within
returns-clause-within c = λ l at object land is. cut-within l land at object is

pub returns-clause-last : goal.returns-clause-last
returns-clause-last c = cut-last

pub returns-clause-less : goal.returns-clause-less
returns-clause-less c = cut-less

pub returns-clause-land : goal.returns-clause-land
returns-clause-land c = IsLand-cut
