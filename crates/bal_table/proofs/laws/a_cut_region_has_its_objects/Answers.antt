use Rattle.bal_table.proofs.Cut.{IsTable-cut, cut-at, cut-behind, cut-elsewhere, things-cut, words-cut}
use Rattle.bal_table.proofs.laws.a_cut_region_has_its_objects.Goals as goal

pub returns-clause-objects : goal.returns-clause-objects
returns-clause-objects c = λ t q a table within. (words-cut t q a table within, things-cut t q a table within)

pub returns-clause-behind : goal.returns-clause-behind
returns-clause-behind c = λ t q a object table within. cut-behind t q table within a object

pub returns-clause-last : goal.returns-clause-last
returns-clause-last c = cut-at

pub returns-clause-others : goal.returns-clause-others
returns-clause-others c = cut-elsewhere

pub returns-clause-table : goal.returns-clause-table
returns-clause-table c = IsTable-cut
