use Rattle.std.proofs.Common.{List, ◌<◌, ◌++◌, ◌∙◌, ap, length, subst, sym}
use Rattle.std.specs.List.{All}
use Rattle.bal_table.specs.Slots.{slots_on}
use Rattle.bal_table.specs.Table.{refs_in, things_of}
use Rattle.bal_table.specs.declared.slots.Slot.{Slot}
use Rattle.bal_gather.proofs.OnCards.{slots-there}
use Rattle.bal_gather.proofs.outside.Outside.card_slots.Goals as goal

pub append_references-requires-clause-slots : goal.append_references-requires-clause-slots
append_references-requires-clause-slots g c =
    let t = c.self.inside.occupied.now.table in
    let are = c.as_slice.ensures ∙ (c.card_slots.ensures.slots ∙ ap (λ (l : List Slot). l ++ slots_on t c.args.card) c.clear.ensures.list) in
    subst (All (λ (s : Slot). s.number < length (refs_in (things_of t s.holder)))) (sym are) (slots-there t c.args.card c.geometry.ensures.limits.table)
