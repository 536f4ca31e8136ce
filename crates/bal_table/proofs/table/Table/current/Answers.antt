use Rattle.std.proofs.Common.{◌<◌, subst, refl}
use Rattle.std.specs.Prelude.{IfSome}
use Rattle.bal_table.specs.Kept.{table_of}
use Rattle.bal_table.specs.Table.{Table}
use Rattle.bal_table.proofs.Parts.{current-within}
use Rattle.bal_table.proofs.table.Table.current.Goals as goal

pub returns-clause-within : goal.returns-clause-within
returns-clause-within c =
    let a = c.self.inside in
    subst (λ (t : Table). IfSome a.current (λ q. q < t.shape.regions)) c.self.view_is (current-within (table_of a) a.current c.self.invariant.table refl)
