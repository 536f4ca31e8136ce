use Rattle.bal_table.proofs.SlotPlaces.{slot-ascends, slot-lies_at, slot-no_number, slot-own, thing-slot}
use Rattle.bal_table.proofs.laws.a_slot_has_a_place_of_its_own.Goals as goal

pub returns-clause-slot : goal.returns-clause-slot
returns-clause-slot c = thing-slot

pub returns-clause-reference : goal.returns-clause-reference
returns-clause-reference c = λ t a i p table s. let lies = slot-lies_at t a i p table s in (lies.thing, (lies.is, lies.read, s.at))

pub returns-clause-own : goal.returns-clause-own
returns-clause-own c = slot-own

pub returns-clause-no_number : goal.returns-clause-no_number
returns-clause-no_number c = slot-no_number

pub returns-clause-ascend : goal.returns-clause-ascend
returns-clause-ascend c = slot-ascends
