use Rattle.std.proofs.Common.{None, ap, subst, sym, ◌∙◌}
use Rattle.bal_cards.specs.Cards.{Cards}
use Rattle.bal_table.specs.Table.{Table}
use Rattle.bal_barrier.specs.Coverage.{IsCovered}
use Rattle.bal_rebuild.specs.Crossings.{HasCrossing}
use Rattle.bal_rebuild.proofs.Rebuilt.{covered-all, just-dirtied}
use Rattle.bal_rebuild.proofs.rebuild_all.Goals as goal

pub dirty_crossings-requires-clause-shape : goal.dirty_crossings-requires-clause-shape
dirty_crossings-requires-clause-shape c = ap (λ (x : Cards). x.shape) c.clean_all.ensures ∙ c.requires.shape

pub returns-clause-rest : goal.returns-clause-rest
returns-clause-rest c = c.dirty_crossings.ensures.rest ∙ ap (λ (x : Cards). record x { list = c.dirty_crossings.new.cards.list }) c.clean_all.ensures

pub returns-clause-dirty : goal.returns-clause-dirty
returns-clause-dirty c =
    just-dirtied c.args.cards.now c.clean_all.new.cards c.dirty_crossings.new.cards (HasCrossing c.args.table.now None) c.clean_all.ensures c.dirty_crossings.ensures

pub returns-clause-covered : goal.returns-clause-covered
returns-clause-covered c =
    subst (λ (u : Table). IsCovered u c.dirty_crossings.new.cards) (sym c.empty_lists.ensures)
    (covered-all c.args.table.now c.clean_all.new.cards c.dirty_crossings.new.cards c.dirty_crossings.ensures)
