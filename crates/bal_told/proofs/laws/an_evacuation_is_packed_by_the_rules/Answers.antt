use Rattle.bal_told.proofs.Packing.{is-packing}
use Rattle.bal_told.proofs.laws.an_evacuation_is_packed_by_the_rules.Goals as goal

pub returns : goal.returns
returns c f b chosen e kept whole = is-packing f b chosen e kept whole
