use Rattle.std.proofs.Common.{◌∙◌, ap, ◌<◌, arith, get_or, length}
use Rattle.std.proofs.lemmas.List.{take_all}
use Rattle.std.proofs.lemmas.Option.{slice_get-get_or, slice_get_within}
use Rattle.bal_evacuate.specs.Order.{firsts, objects_of}
use Rattle.bal_evacuate.proofs.Deciding.{goes-none}
use Rattle.bal_evacuate.proofs.Order.{roots-first, roots-order}
use Rattle.bal_evacuate.proofs.Walk.{going-on, root-asked, roots-next}
use Rattle.bal_evacuate.proofs.evacuation.decide_roots.Goals as goal

pub loop-root-init : goal.loop-root-init
loop-root-init g c = record {
  walk = record {
    goes = λ p going roots. goes-none p c.args.course.now going.2 going.3;
    decided = λ i k less. absurd (omega (arith, less));
  };
  order = roots-first c.args.course.now.won c.args.roots.now;
}

pub decide-requires : goal.decide-requires
decide-requires g c =
    let graph = g.F.FromGraph.graph c.args.graph.now in
    let roots = c.args.roots.now in
    let p = c.requires.0 in (
      p,
      going-on p graph c.args.limit c.args.course.now c.loop-root.course c.requires.1 (c.loop-root.invariant.walk.goes p c.requires.1 c.requires.2),
      root-asked p c.loop-root.course roots c.loop-root.root-index (get_or roots c.loop-root.root-index 0) c.requires.2
          (slice_get-get_or roots c.loop-root.root-index 0 c.loop-root-test.true),
    )

pub loop-root-preserved : goal.loop-root-preserved
loop-root-preserved g c =
    let roots = c.args.roots.now in
    record {
      walk = roots-next (g.F.FromGraph.graph c.args.graph.now) c.args.limit roots c.args.course.now c.loop-root.course c.decide.new.course c.loop-root.root-index
          (get_or roots c.loop-root.root-index 0) c.loop-root.invariant.walk c.requires.0 c.requires.1 c.requires.2
          (slice_get-get_or roots c.loop-root.root-index 0 c.loop-root-test.true) c.decide.ensures.goes c.decide.ensures.decided;
      order = roots-order (objects_of c.args.course.now.won) roots c.loop-root.root-index c.loop-root.course.won c.decide.new.course.won
          c.loop-root-test.true c.loop-root.invariant.order c.decide.ensures.order;
    }

pub returns-clause-goes : goal.returns-clause-goes
returns-clause-goes g c = c.loop-root.invariant.walk.goes

pub returns-clause-decided : goal.returns-clause-decided
returns-clause-decided g c i k at =
    let less : i < length c.args.roots.now = slice_get_within c.args.roots.now i k at in
    c.loop-root.invariant.walk.decided i k (omega (arith, less, c.loop-root-test.false)) at

pub returns-clause-order : goal.returns-clause-order
returns-clause-order g c =
    c.loop-root.invariant.order
    ∙ ap (firsts (objects_of c.args.course.now.won)) (take_all c.loop-root.root-index c.args.roots.now c.loop-root-test.false)
