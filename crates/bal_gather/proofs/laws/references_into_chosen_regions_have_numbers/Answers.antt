use Rattle.bal_gather.proofs.Graphs.{reference-told}
use Rattle.bal_gather.proofs.laws.references_into_chosen_regions_have_numbers.Goals as goal

pub returns : goal.returns
returns c = reference-told
