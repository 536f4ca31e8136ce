use Rattle.std.proofs.Common.{◌≡◌, ◌≤◌, arith, length}
use Rattle.std.proofs.lemmas.List.{length-map}
use Rattle.bal_core.proofs.Lemmas.{few-regions, start-is-world}
use Rattle.bal_region.specs.Land.{Land}
use Rattle.bal_evacuate.specs.Plan.{Plan, numbers_of, world_for}
use Rattle.bal_evacuate.proofs.evacuation.Evacuation.make.Goals as goal

pub make-requires : goal.make-requires
make-requires g c =
    let graph = g.F.FromGraph.graph c.args.graph.now in
    let pool = c.args.pool.items in
    let p : Plan = record { shape = c.args.geometry; graph = graph; roots = c.args.roots.now; pool = pool; limit = c.args.limit } in
    let few : length (numbers_of pool) ≤ c.args.geometry.regions
    = few-regions (world_for p) (start-is-world c.args.geometry graph c.args.roots.now (numbers_of pool) 1 c.requires.start c.regions.ensures.limits) in
    let most : c.args.geometry.regions ≤ 2047 = c.regions.ensures.limits.most_regions in
    let same : length (numbers_of pool) ≡ length pool = length-map pool (λ (l : Land). l.number) in
    omega (arith, few, most, same)
