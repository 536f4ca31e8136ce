use Rattle.bal_told.proofs.Copies.{words-copied}
use Rattle.bal_told.proofs.Drawn.{age-drawn, not-drawn}
use Rattle.bal_told.proofs.laws.a_region_of_copies_is_as_it_was_drawn.Goals as goal

pub returns-clause-words : goal.returns-clause-words
returns-clause-words c f b chosen e kept whole n i d here = words-copied f b chosen e kept whole n i d here

pub returns-clause-age : goal.returns-clause-age
returns-clause-age c f b chosen e kept whole n i d here some = age-drawn f b chosen e kept whole n i d here some

pub returns-clause-others : goal.returns-clause-others
returns-clause-others c f b chosen e kept whole q other = not-drawn f b chosen e kept whole q other
