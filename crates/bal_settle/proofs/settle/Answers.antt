use Rattle.std.proofs.Common.{ap, ◌∙◌}
use Rattle.bal_table.specs.Table.{Table}
use Rattle.bal_settle.specs.Settling.{all_cards_settled, all_settled, with_eden_older}
use Rattle.bal_settle.proofs.Chosen.{cards-all, current-all}
use Rattle.bal_settle.proofs.Whole.{settled-is}
use Rattle.bal_settle.proofs.settle.Goals as goal

pub age_eden-requires : goal.age_eden-requires
age_eden-requires c =
    ap (λ (u : Table). u.current) c.settle_chosen.ensures.table
    ∙ (current-all c.args.chosen.now c.args.marked.now c.set_current.new.self ∙ ap (λ (u : Table). u.current) c.set_current.ensures)

pub returns-clause-table : goal.returns-clause-table
returns-clause-table c =
    c.age_eden.ensures
    ∙ (ap with_eden_older (c.settle_chosen.ensures.table ∙ ap (all_settled c.args.chosen.now c.args.marked.now) c.set_current.ensures)
    ∙ settled-is c.args.chosen.now c.args.marked.now c.args.table.now c.geometry.ensures.limits c.requires.may)

pub returns-clause-cards : goal.returns-clause-cards
returns-clause-cards c =
    c.settle_chosen.ensures.cards
    ∙ (ap (λ (u : Table). all_cards_settled u.shape c.args.chosen.now c.args.marked.now c.args.cards.now) c.set_current.ensures
    ∙ cards-all c.args.table.now.shape c.args.chosen.now c.args.marked.now c.args.cards.now)
