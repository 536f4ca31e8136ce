use Rattle.bal_after.proofs.Marked.{none-marked, words-marked}
use Rattle.bal_after.proofs.laws.marked_words_are_those_of_the_marked_objects.Goals as goal

pub returns-clause-words : goal.returns-clause-words
returns-clause-words c f b chosen e kept whole up q ks are = words-marked f b chosen e kept whole up q ks are

pub returns-clause-none : goal.returns-clause-none
returns-clause-none c f b chosen e kept whole up q ks are = none-marked f b chosen e kept whole up q ks are
