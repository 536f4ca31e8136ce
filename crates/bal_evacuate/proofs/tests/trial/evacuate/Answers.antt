use Rattle.std.proofs.Common.{[], ◌∷◌, subst, sym}
use Rattle.bal_evacuate.specs.Plan.{MayEvacuate}
use Rattle.bal_evacuate.specs.Trials.{graph_of_trial}
use Rattle.bal_evacuate.proofs.Trials.{may-evacuate, two-roots}
use Rattle.bal_evacuate.proofs.tests.trial.evacuate.Goals as goal

pub make-requires : goal.make-requires
make-requires c =
    let t = c.args.trial.now in
    let roots = c.args.roots.0 ∷ c.args.roots.1 ∷ [] in
    subst (λ shape. MayEvacuate (record {
      shape = shape;
      graph = graph_of_trial t.count t.age t.first.items t.other.items t.slots.items;
      roots = roots;
      pool = c.in_ok-pool.pool.items;
      limit = c.args.limit;
    })) (sym c.in_ok-geometry.ensures.1)
    (may-evacuate t.count t.age t.first.items t.other.items t.slots.items c.requires.trial t.counted roots c.in_ok-pool.pool.items c.args.regions c.args.limit
    c.requires.regions (two-roots c.args.roots.0 c.args.roots.1 t.count c.requires.first c.requires.second) c.in_ok-pool.ensures)
