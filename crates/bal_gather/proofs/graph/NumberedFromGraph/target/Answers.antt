use Rattle.std.proofs.Common.{◌∙◌, Some, ap, sym}
use Rattle.bal_table.specs.Table.{slot_place, word_at}
use Rattle.bal_gather.specs.Lent.{Lent}
use Rattle.bal_gather.proofs.Graphs.{slot-holds}
use Rattle.bal_gather.proofs.graph.NumberedFromGraph.target.Goals as goal

pub returns : goal.returns
returns c =
    let l = c.args.self.now in
    let a = c.address_of.result in
    let read = c.slot_word-word.ensures ∙ ap (λ (m : Lent). word_at m.table (slot_place m.table a c.args.slot)) c.chosen.ensures in
    slot-holds l c.args.object a c.args.slot c.slot_word-word.result c.address_of.ensures.limits c.address_of.ensures.address c.requires.slot read
    ∙ ap Some (sym c.number_behind.ensures)
