use Rattle.std.proofs.Common.{refl}
use Rattle.bal_region.proofs.Regions.{land-empty}
use Rattle.bal_region.proofs.region.Region.hollow.Goals as goal

pub returns : goal.returns
returns c = land-empty c.args.number 0 _ _ 0 c.new.ensures.items c.none.ensures refl
