use Rattle.std.proofs.Common.{refl}
use Rattle.bal_region.proofs.Regions.{land-empty}
use Rattle.bal_region.proofs.region.Region.make.Goals as goal

pub returns : goal.returns
returns c = land-empty 0 c.args.words _ _ 0 c.in_ok-with_capacity.ensures.items c.in_ok-make.ensures.0 refl
