use Rattle.bal_laws.proofs.RegionsOfRuns.{frees-cleanly}
use Rattle.bal_laws.proofs.regions.a_freed_region_is_on_no_list.Goals as goal

pub returns : goal.returns
returns c = frees-cleanly
