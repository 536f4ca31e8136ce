use Rattle.std.proofs.Common.{◌*◌, List, ℕ, ap, arith, length, subst}
use Rattle.bal_table.specs.Table.{IsTable}
use Rattle.bal_gather.specs.Lent.{Lent}
use Rattle.bal_gather.proofs.Numbering.{numbered-few}
use Rattle.bal_gather.proofs.graph.NumberedFromGraph.count.Goals as goal

pub overflow_cast-result : goal.overflow_cast-result
overflow_cast-result c =
    let l = c.args.self.now in
    let table = subst (λ (m : Lent). IsTable m.table) c.chosen.ensures c.geometry.ensures.limits in
    omega (
      arith,
      ap (λ (xs : List ℕ). length xs) c.addresses.ensures,
      numbered-few l (l.table.shape.regions * l.table.shape.words),
      table.shape.words_in_all,
    )
