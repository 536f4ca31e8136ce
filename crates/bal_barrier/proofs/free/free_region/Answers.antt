use Rattle.std.proofs.Common.{subst, sym}
use Rattle.bal_cards.specs.Cards.{Cards}
use Rattle.bal_table.specs.Changes.{with_freed}
use Rattle.bal_table.specs.Table.{Table}
use Rattle.bal_barrier.specs.Coverage.{IsCovered}
use Rattle.bal_barrier.proofs.Freeing.{covered-freed}
use Rattle.bal_barrier.proofs.free.free_region.Goals as goal

pub returns-clause-covered : goal.returns-clause-covered
returns-clause-covered c = λ none covered.
    let t = c.args.table.now in
    let after = covered-freed t c.args.cards.now c.args.region c.geometry.ensures.limits c.requires.within c.requires.current c.requires.shape none covered in
    subst (λ (u : Table). IsCovered u c.clean_region.new.self) (sym c.give_back.ensures)
    (subst (λ (d : Cards). IsCovered (with_freed t c.args.region) d) (sym c.clean_region.ensures) after)
