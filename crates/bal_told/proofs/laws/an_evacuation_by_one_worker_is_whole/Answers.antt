use Rattle.bal_told.proofs.Alone.{whole-alone}
use Rattle.bal_told.proofs.laws.an_evacuation_by_one_worker_is_whole.Goals as goal

pub returns : goal.returns
returns c f b chosen e kept evacuated tight limit leaves filled board told one = whole-alone f b chosen e kept evacuated tight limit leaves filled board told one
