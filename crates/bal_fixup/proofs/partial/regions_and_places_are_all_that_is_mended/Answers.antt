use Rattle.bal_fixup.proofs.Everywhere.{all-fixed}
use Rattle.bal_fixup.proofs.partial.regions_and_places_are_all_that_is_mended.Goals as goal

pub returns : goal.returns
returns c = λ t u v regions places to. all-fixed to t u v regions places
