use Rattle.std.proofs.Common.{◌∙◌, subst, sym}
use Rattle.bal_compact.specs.Compacted.{IsPacked}
use Rattle.bal_compact.proofs.Opened.{last-current, last-objects, last-within, opened-last, opened-none}
use Rattle.bal_table.specs.Table.{Table}
use Rattle.bal_compact.proofs.packing.open_last.Goals as goal

pub set_age-requires-clause-within : goal.set_age-requires-clause-within
set_age-requires-clause-within c =
    let m = c.requires.moved in
    last-within m.0 c.args.table.now m.1 m.2 c.in-Some.region (sym m.3 ∙ c.in-Some.is)

pub set_age-requires-clause-objects : goal.set_age-requires-clause-objects
set_age-requires-clause-objects c =
    let m = c.requires.moved in
    last-objects m.0 c.args.table.now m.1 m.2 c.in-Some.region (sym m.3 ∙ c.in-Some.is)

pub set_current-requires : goal.set_current-requires
set_current-requires c =
    let m = c.requires.moved in
    last-current m.0 c.args.table.now m.1 m.2 c.in-Some.region (sym m.3 ∙ c.in-Some.is) c.set_age.new.self c.set_age.ensures

pub returns-in-Some : goal.returns-in-Some
returns-in-Some c before to m is =
    subst (λ (t : Table). IsPacked before t to) (sym c.set_current.ensures)
    (opened-last before c.args.table.now to m c.in-Some.region (sym is ∙ c.in-Some.is) c.set_age.new.self c.set_age.ensures)

pub returns-in_default : goal.returns-in_default
returns-in_default c before to m is = opened-none before c.args.table.now to m (sym is ∙ c.in_default.is)
