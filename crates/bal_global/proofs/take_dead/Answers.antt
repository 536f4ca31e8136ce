use Rattle.std.proofs.Common.{◌≤◌, subst, sym, arith}
use Rattle.bal_sweep.specs.Dead.{object_count}
use Rattle.bal_table.specs.Table.{Table}
use Rattle.bal_global.proofs.Cleared.{cleared}
use Rattle.bal_global.proofs.Counted.{count-few}
use Rattle.bal_global.proofs.take_dead.Goals as goal

pub sweep-requires-clause-room : goal.sweep-requires-clause-room
sweep-requires-clause-room c =
    subst (λ (w : Table). object_count w ≤ c.args.dead.now.spare) (sym c.empty_lists.ensures)
    (omega (arith, count-few c.args.table.now c.geometry.ensures.limits, c.requires.room))

pub returns-clause-cleared : goal.returns-clause-cleared
returns-clause-cleared c =
    cleared c.args.table.now c.empty_lists.new.table c.sweep.new.table c.args.roots.now c.close_marks.new.marks.order c.args.dead.now.list c.sweep.new.dead.list
    c.geometry.ensures.limits c.geometry-2.ensures.limits c.empty_lists.ensures c.close_marks.ensures.reached c.sweep.ensures.swept c.requires.empty c.sweep.ensures.dead
