use Rattle.bal_words.proofs.Seen.{followed, reference-finds, root-finds, words-agree}
use Rattle.bal_words.proofs.shown.a_word_is_followed_to_its_object.Goals as goal

pub returns-clause-found : goal.returns-clause-found
returns-clause-found c = followed

pub returns-clause-same : goal.returns-clause-same
returns-clause-same c = words-agree

pub returns-clause-reference : goal.returns-clause-reference
returns-clause-reference c = reference-finds

pub returns-clause-root : goal.returns-clause-root
returns-clause-root c = root-finds
