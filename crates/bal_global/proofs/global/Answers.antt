use Rattle.std.proofs.Common.{List, None, subst, sym, arith}
use Rattle.bal_model.specs.declared.event.Packed.{Packed}
use Rattle.bal_plan.specs.Plan.{told_by_plan}
use Rattle.bal_rebuild.specs.Crossings.{HasCrossing}
use Rattle.bal_rules.specs.GlobalEvents.{IsGlobal, after_global}
use Rattle.bal_table.specs.Moves.{moved_to}
use Rattle.bal_table.specs.Table.{Table}
use Rattle.bal_global.specs.Global.{IsOnBoard}
use Rattle.bal_global.proofs.Cleared.{few-cleared, held-cleared, shows-cleared}
use Rattle.bal_global.proofs.Meeting.{crossing-before, crossing-emptied, lead-shown, met-after, shows-after}
use Rattle.bal_global.proofs.Named.{graph_left}
use Rattle.bal_global.proofs.Packing.{is-global}
use Rattle.bal_global.proofs.States.{lists-empty}
use Rattle.bal_global.proofs.global.Goals as goal

pub compact-requires-clause-graph : goal.compact-requires-clause-graph
compact-requires-clause-graph c = (
  graph_left c.requires.graph.0 c.take_dead.new.table,
  shows-cleared c.args.table.now c.take_dead.new.table c.args.roots.now c.take_dead.new.marks.order c.take_dead.new.dead.list c.take_dead.ensures.cleared c.requires.graph.0 c.requires.graph.1,
)

pub compact-requires-clause-held : goal.compact-requires-clause-held
compact-requires-clause-held c =
    held-cleared c.args.table.now c.take_dead.new.table c.args.roots.now c.take_dead.new.marks.order c.take_dead.new.dead.list c.take_dead.ensures.cleared c.requires.held

pub compact-requires-clause-lists : goal.compact-requires-clause-lists
compact-requires-clause-lists c = lists-empty c.take_dead.new.marks.order c.args.table.now c.take_dead.new.table c.take_dead.ensures.cleared.now c.take_dead.ensures.cleared.swept

pub compact-requires-clause-room : goal.compact-requires-clause-room
compact-requires-clause-room c =
    omega (
      arith,
      few-cleared c.args.table.now c.take_dead.new.table c.args.roots.now c.take_dead.new.marks.order c.take_dead.new.dead.list c.take_dead.ensures.cleared,
      c.requires.room.1,
    )

pub rebuild_all-requires-clause-found : goal.rebuild_all-requires-clause-found
rebuild_all-requires-clause-found c =
    lead-shown c.compact.new.table (graph_left c.requires.graph.0 c.take_dead.new.table) c.geometry.ensures.limits
    (shows-after c.args.table.now c.take_dead.new.table c.compact.new.table c.args.roots.now c.take_dead.new.marks.order c.take_dead.new.dead.list (moved_to c.compact.new.moves)
    c.take_dead.ensures.cleared c.compact.ensures.compacted c.requires.graph.0 c.requires.graph.1)

pub returns-clause-global : goal.returns-clause-global
returns-clause-global c config b made on =
    subst (λ (packed : List Packed). IsGlobal config b c.take_dead.new.dead.list packed) (sym c.compact.ensures.packed)
    (is-global config c.args.table.now c.take_dead.new.table c.args.roots.now made c.take_dead.new.marks.order c.take_dead.new.dead.list b c.take_dead.ensures.cleared on
    c.a_path_ends_where_a_walk_does.ensures c.a_header_has_one_spelling.ensures.only (moved_to c.compact.new.moves) c.compact.ensures.plan)

pub returns-clause-meets : goal.returns-clause-meets
returns-clause-meets c config b made on =
    subst (λ (packed : List Packed). IsOnBoard config c.rebuild_all.new.table c.compact.new.roots made (after_global config b c.take_dead.new.dead.list packed))
    (sym c.compact.ensures.packed)
    (subst
    (λ (w : Table). IsOnBoard config w c.compact.new.roots made
    (after_global config b c.take_dead.new.dead.list (told_by_plan c.take_dead.new.table (moved_to c.compact.new.moves))))
    (sym c.rebuild_all.ensures.table)
    (met-after c.args.table.now c.take_dead.new.table c.compact.new.table c.args.roots.now c.take_dead.new.marks.order c.take_dead.new.dead.list (moved_to c.compact.new.moves)
    c.take_dead.ensures.cleared c.compact.ensures.compacted config made b on c.a_path_ends_where_a_walk_does.ensures c.a_header_has_one_spelling.ensures.only
    c.compact.new.roots c.compact.ensures.roots c.objects_are_moved.ensures.moved c.objects_are_moved.ensures.placed))

pub returns-clause-dirty : goal.returns-clause-dirty
returns-clause-dirty c card = (
  λ listed. subst (λ (w : Table). HasCrossing w None card) (sym c.rebuild_all.ensures.table)
      (crossing-emptied c.compact.new.table card ((c.rebuild_all.ensures.dirty card).0 listed)),
  λ crosses. (c.rebuild_all.ensures.dirty card).1
      (crossing-before c.compact.new.table card (subst (λ (w : Table). HasCrossing w None card) c.rebuild_all.ensures.table crosses)),
)
