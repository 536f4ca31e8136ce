use Rattle.std.proofs.Common.{◌<◌, ◌≤◌, ◌∙◌, arith, length, sym}
use Rattle.std.proofs.lemmas.Option.{slice_get_within}
use Rattle.bal_core.specs.Steps.{told}
use Rattle.bal_evacuate.specs.Order.{objects_of}
use Rattle.bal_evacuate.proofs.Deciding.{goes-none}
use Rattle.bal_evacuate.proofs.Order.{scan-first, scan-order, scan-whole}
use Rattle.bal_evacuate.proofs.Walk.{closes-next, going-on, told-at, told-none, won-few}
use Rattle.bal_evacuate.proofs.evacuation.scan_all.Goals as goal

pub loop-object-init : goal.loop-object-init
loop-object-init g c = record {
  walk = record {
    goes = λ p going. goes-none p c.args.course.now going.2 going.3;
    within = omega arith;
    scanned = λ i t less. absurd (omega (arith, less));
  };
  order = scan-first (g.F.FromGraph.graph c.args.graph.now) c.args.course.now.won;
}

pub scan-requires-clause-going : goal.scan-requires-clause-going
scan-requires-clause-going g c = (
  c.requires.0,
  going-on c.requires.0 (g.F.FromGraph.graph c.args.graph.now) c.args.limit c.args.course.now c.loop-object.course c.requires.1
      (c.loop-object.invariant.walk.goes c.requires.0 c.requires.1),
)

pub scan-requires-clause-won : goal.scan-requires-clause-won
scan-requires-clause-won g c =
    let at = told-at c.loop-object.course.won c.loop-object.place c.in-Some.object (sym c.won_at.ensures ∙ c.in-Some.is) in
    (c.loop-object.place, at.0, at.1)

pub loop-object-smaller : goal.loop-object-smaller
loop-object-smaller g c =
    let graph = g.F.FromGraph.graph c.args.graph.now in
    let at = told-at c.loop-object.course.won c.loop-object.place c.in-Some.object (sym c.won_at.ensures ∙ c.in-Some.is) in
    let less : c.loop-object.place < length c.loop-object.course.won
    = slice_get_within c.loop-object.course.won c.loop-object.place (told c.in-Some.object at.0) at.1 in
    let few : length c.loop-object.course.won ≤ length graph.ages
    = won-few c.requires.0 graph c.args.limit c.loop-object.course
    (going-on c.requires.0 graph c.args.limit c.args.course.now c.loop-object.course c.requires.1 (c.loop-object.invariant.walk.goes c.requires.0 c.requires.1)) in
    omega (arith, less, few)

pub loop-object-preserved : goal.loop-object-preserved
loop-object-preserved g c =
    let at = told-at c.loop-object.course.won c.loop-object.place c.in-Some.object (sym c.won_at.ensures ∙ c.in-Some.is) in
    let graph = g.F.FromGraph.graph c.args.graph.now in
    let p = c.requires.0 in
    let going = going-on p graph c.args.limit c.args.course.now c.loop-object.course c.requires.1 (c.loop-object.invariant.walk.goes p c.requires.1) in
    record {
      walk = closes-next (g.F.FromGraph.graph c.args.graph.now) c.args.limit c.args.course.now c.loop-object.course c.scan.new.course c.loop-object.place
          c.in-Some.object at.0 c.loop-object.invariant.walk c.requires.0 c.requires.1 at.1 c.scan.ensures.goes c.scan.ensures.scanned;
      order = scan-order p graph (objects_of c.args.course.now.won) c.loop-object.course c.scan.new.course c.loop-object.place c.in-Some.object at.0
          (c.scan.ensures.goes p going) at.1 c.loop-object.invariant.order c.scan.ensures.order;
    }

pub returns-clause-goes : goal.returns-clause-goes
returns-clause-goes g c = c.loop-object.invariant.walk.goes

pub returns-clause-scanned : goal.returns-clause-scanned
returns-clause-scanned g c i t at =
    let past : length c.loop-object.course.won ≤ c.loop-object.place = told-none c.loop-object.course.won c.loop-object.place (sym c.won_at.ensures ∙ c.in_default.is) in
    let less : i < length c.loop-object.course.won = slice_get_within c.loop-object.course.won i t at in
    c.loop-object.invariant.walk.scanned i t (omega (arith, less, past)) at

pub returns-clause-order : goal.returns-clause-order
returns-clause-order g c =
    scan-whole (g.F.FromGraph.graph c.args.graph.now) (objects_of c.args.course.now.won) c.loop-object.course.won c.loop-object.place
    (told-none c.loop-object.course.won c.loop-object.place (sym c.won_at.ensures ∙ c.in_default.is)) c.loop-object.invariant.order
