use Rattle.bal_laws.proofs.FullHeaps.{really-full}
use Rattle.bal_laws.proofs.order.a_full_heap_is_really_full.Goals as goal

pub returns-clause-no_room : goal.returns-clause-no_room
returns-clause-no_room c rule config rows before behind t k o place w run asks = (really-full rule config rows before t k o place behind w run asks).no_room

pub returns-clause-too_much : goal.returns-clause-too_much
returns-clause-too_much c rule config rows before behind t k o place w collects run asks = (really-full rule config rows before t k o place behind w run asks).allowed collects
