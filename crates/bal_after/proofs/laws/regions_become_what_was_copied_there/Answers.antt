use Rattle.bal_after.proofs.Regions.{emptied-marked, region-drawn, region-other}
use Rattle.bal_after.proofs.laws.regions_become_what_was_copied_there.Goals as goal

pub returns-clause-emptied : goal.returns-clause-emptied
returns-clause-emptied c b chosen kept none = emptied-marked b chosen kept none

pub returns-clause-drawn : goal.returns-clause-drawn
returns-clause-drawn c f b chosen e kept whole in_use n i d here some = region-drawn f b chosen e kept whole in_use n i d here some

pub returns-clause-others : goal.returns-clause-others
returns-clause-others c f b chosen e kept whole q outside other = region-other f b chosen e kept whole q outside other
