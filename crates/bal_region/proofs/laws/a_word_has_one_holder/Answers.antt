use Rattle.bal_region.proofs.Seen.{holder-is, holder-none_each}
use Rattle.bal_region.proofs.laws.a_word_has_one_holder.Goals as goal

pub returns-clause-holder : goal.returns-clause-holder
returns-clause-holder c = holder-is

pub returns-clause-none : goal.returns-clause-none
returns-clause-none c = holder-none_each
