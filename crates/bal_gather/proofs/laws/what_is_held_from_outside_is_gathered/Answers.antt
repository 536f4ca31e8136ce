use Rattle.bal_gather.proofs.FromOutside.{held-are, places-are}
use Rattle.bal_gather.proofs.laws.what_is_held_from_outside_is_gathered.Goals as goal

pub returns-clause-held : goal.returns-clause-held
returns-clause-held c = λ l roots held places a k table remembered none gathered numbered. held-are l roots held places a k table remembered none gathered numbered

pub returns-clause-places : goal.returns-clause-places
returns-clause-places c = λ l roots held places p table remembered none gathered. places-are l roots held places p table remembered none gathered
