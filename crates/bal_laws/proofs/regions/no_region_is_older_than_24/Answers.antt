use Rattle.bal_laws.proofs.RegionsOfRuns.{run-young}
use Rattle.bal_laws.proofs.regions.no_region_is_older_than_24.Goals as goal

pub returns : goal.returns
returns c = run-young
