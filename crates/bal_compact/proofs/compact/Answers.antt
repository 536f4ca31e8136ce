use Rattle.std.proofs.Common.{◌++◌, ◌∙◌, ap, true}
use Rattle.bal_compact.proofs.Compacts.{found-words}
use Rattle.bal_plan.specs.Plan.{told_by_plan}
use Rattle.bal_table.specs.Moves.{moved_to}
use Rattle.bal_table.specs.Table.{Table, things_of}
use Rattle.bal_rules.specs.GlobalEvents.{last_packed}
use Rattle.bal_compact.proofs.compact.Goals as goal

pub pack-requires-clause-may : goal.pack-requires-clause-may
pack-requires-clause-may c =
    record { table = c.geometry.ensures.limits; plan = c.plan.ensures.plan; graph = c.requires.graph.0; shows = c.requires.graph.1; lists = c.requires.lists }

pub pack-requires-clause-last : goal.pack-requires-clause-last
pack-requires-clause-last c =
    let told = told_by_plan c.args.table.now (moved_to c.plan.new.moves) in
    c.last_region.ensures ∙ ap last_packed (c.as_slice.ensures ∙ (c.plan.ensures.packed ∙ ap (λ l. l ++ told) c.requires.empty))

pub fix_objects-requires : goal.fix_objects-requires
fix_objects-requires c =
    c.what_led_to_objects_may_be_mended.ensures.objects c.args.table.now (things_of c.pack.new.table) (λ a. true) (moved_to c.plan.new.moves)
    c.geometry.ensures.limits (found-words (things_of c.args.table.now) c.requires.graph.0 c.requires.graph.1) c.pack.ensures.packed.carried

pub fix_roots-requires : goal.fix_roots-requires
fix_roots-requires c = c.what_led_to_objects_may_be_mended.ensures.roots c.args.table.now c.args.roots.now c.geometry.ensures.limits c.requires.held

pub returns-clause-packed : goal.returns-clause-packed
returns-clause-packed c =
    let told = told_by_plan c.args.table.now (moved_to c.plan.new.moves) in
    c.plan.ensures.packed ∙ ap (λ l. l ++ told) c.requires.empty

pub returns-clause-compacted : goal.returns-clause-compacted
returns-clause-compacted c =
    let p = c.pack.ensures.packed in
    let same = c.fix_objects.ensures.same.table in
    record {
      shape = ap (λ (t : Table). t.shape) same ∙ p.shape;
      middle = things_of c.pack.new.table;
      carried = p.carried;
      mended = c.fix_objects.ensures.fixed;
      regions = ap (λ (t : Table). t.regions) same ∙ p.regions;
      current = ap (λ (t : Table). t.current) same ∙ p.current;
    }
