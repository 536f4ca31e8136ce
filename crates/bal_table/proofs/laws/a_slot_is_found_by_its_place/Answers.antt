use Rattle.bal_table.proofs.SlotPlaces.{card-both, slot_at-both}
use Rattle.bal_table.proofs.laws.a_slot_is_found_by_its_place.Goals as goal

pub returns-clause-found : goal.returns-clause-found
returns-clause-found c = slot_at-both

pub returns-clause-card : goal.returns-clause-card
returns-clause-card c = card-both
