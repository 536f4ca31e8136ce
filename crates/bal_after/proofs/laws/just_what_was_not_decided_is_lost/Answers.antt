use Rattle.bal_after.proofs.Decided.{lost-gone, lost-kept, lost-outside}
use Rattle.bal_after.proofs.laws.just_what_was_not_decided_is_lost.Goals as goal

pub returns-clause-outside : goal.returns-clause-outside
returns-clause-outside c f b chosen e kept whole up x p at outside = lost-outside f b chosen e kept whole up x p at outside

pub returns-clause-kept : goal.returns-clause-kept
returns-clause-kept c f b chosen e kept whole x k n i d at here = lost-kept f b chosen e kept whole x k n i d at here

pub returns-clause-gone : goal.returns-clause-gone
returns-clause-gone c f b chosen e kept whole x k at left = lost-gone f b chosen e kept whole x k at left
