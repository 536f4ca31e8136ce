use Rattle.std.proofs.Common.{subst, sym}
use Rattle.bal_table.specs.Table.{Table}
use Rattle.bal_barrier.specs.Coverage.{IsCovered}
use Rattle.bal_rebuild.proofs.Rebuilt.{covered-one}
use Rattle.bal_rebuild.proofs.rebuild.Goals as goal

pub returns-clause-covered : goal.returns-clause-covered
returns-clause-covered c = λ covered.
    subst (λ (u : Table). IsCovered u c.dirty_crossings.new.cards) (sym c.empty_list.ensures)
    (covered-one c.args.table.now c.args.cards.now c.dirty_crossings.new.cards c.args.region c.dirty_crossings.ensures covered)
