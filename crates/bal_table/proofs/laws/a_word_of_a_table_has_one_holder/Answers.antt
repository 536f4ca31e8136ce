use Rattle.bal_table.proofs.Held.{holder-both, holder-none}
use Rattle.bal_table.proofs.laws.a_word_of_a_table_has_one_holder.Goals as goal

pub returns-clause-holder : goal.returns-clause-holder
returns-clause-holder c = holder-both

pub returns-clause-none : goal.returns-clause-none
returns-clause-none c = holder-none
