use Rattle.bal_told.proofs.Packing.{is-packing}
use Rattle.bal_told.proofs.Parts.{is-partial}
use Rattle.bal_told.proofs.laws.a_told_evacuation_is_legal.Goals as goal

pub returns : goal.returns
returns c f b chosen e kept whole may walks = record { partial = is-partial f b chosen e kept whole may walks; packing = is-packing f b chosen e kept whole }
