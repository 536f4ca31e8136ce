use Rattle.bal_table.proofs.SlotPlaces.{card-ascends, card-contains, card-place}
use Rattle.bal_table.proofs.laws.the_slots_on_a_card_are_those_that_lie_there.Goals as goal

pub returns-clause-listed : goal.returns-clause-listed
returns-clause-listed c = card-contains

pub returns-clause-place : goal.returns-clause-place
returns-clause-place c = card-place

pub returns-clause-ascend : goal.returns-clause-ascend
returns-clause-ascend c = card-ascends
