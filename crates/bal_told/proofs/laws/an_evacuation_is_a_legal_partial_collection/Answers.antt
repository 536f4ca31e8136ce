use Rattle.bal_told.proofs.Parts.{is-partial}
use Rattle.bal_told.proofs.laws.an_evacuation_is_a_legal_partial_collection.Goals as goal

pub returns : goal.returns
returns c f b chosen e kept whole may walks = is-partial f b chosen e kept whole may walks
