-- The slots on a card.
use Rattle.std.proofs.Common.{ℕ, ◌<◌, length, Option, ap, arith}
use Rattle.std.specs.List.{All}
use Rattle.std.proofs.lemmas.List.Elements.{All-contains_itself}
use Rattle.bal_table.specs.Slots.{slots_on}
use Rattle.bal_table.specs.Table.{IsTable, Table, refs_in, things_of}
use Rattle.bal_table.specs.declared.slots.Slot.{Slot}
use Rattle.bal_table.proofs.Lemmas.{card-place, slot-thing}
use Rattle.bal_words.specs.Things.{Thing}

-- each of them is one of its object's
pub slots-there : (t : Table) (card : ℕ) → IsTable t → All (λ (s : Slot). s.number < length (refs_in (things_of t s.holder))) (slots_on t card)
slots-there t card table k d within =
    let lies = card-place t card _ table (All-contains_itself (slots_on t card) k d within) in
    let x = slot-thing t _ _ _ table lies.0 in
    omega (arith, x.1.1, ap (λ (o : Option Thing). length (refs_in o)) x.1.0)
