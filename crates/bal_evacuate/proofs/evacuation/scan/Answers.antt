use Rattle.std.proofs.Common.{◌≡◌, ◌<◌, ◌≤◌, take, ◌+◌, ◌∙◌, Some, ap, arith, length, subst, sym}
use Rattle.std.proofs.lemmas.Option.{slice_get_within}
use Rattle.bal_core.specs.World.{slots_in}
use Rattle.bal_evacuate.specs.Course.{Course}
use Rattle.bal_evacuate.specs.Order.{firsts, held, objects_of}
use Rattle.bal_evacuate.proofs.Deciding.{goes-none}
use Rattle.bal_evacuate.proofs.Order.{slots-first, slots-none, slots-some, slots-whole}
use Rattle.bal_evacuate.proofs.Walk.{IsScanning, going-on, scans-none, scans-some, target-asked, won-within}
use Rattle.bal_evacuate.proofs.evacuation.scan.Goals as goal
use Rattle.bal_evacuate.proofs.evacuation.scan.Goals.{in-Some, in_default}

pub slots-slot-end-requires : goal.slots-slot-end-requires
slots-slot-end-requires g c =
    won-within c.requires.going.0 (g.F.FromGraph.graph c.args.graph.now) c.args.limit c.args.course.now c.requires.won.0 c.args.object c.requires.won.1
    c.requires.going.1 c.requires.won.2

pub target-requires-clause-object : goal.target-requires-clause-object
target-requires-clause-object g c =
    won-within c.requires.going.0 (g.F.FromGraph.graph c.args.graph.now) c.args.limit c.args.course.now c.requires.won.0 c.args.object c.requires.won.1
    c.requires.going.1 c.requires.won.2

pub loop-slot-init : goal.loop-slot-init
loop-slot-init g c = record {
  walk = record {
    goes = λ p going. goes-none p c.args.course.now going.2 going.3;
    decided = λ i k less. absurd (omega (arith, less));
  };
  order = slots-first c.args.course.now.won (slots_in (g.F.FromGraph.graph c.args.graph.now).targets c.args.object);
}

pub decide-requires : goal.decide-requires
decide-requires g c =
    let graph = g.F.FromGraph.graph c.args.graph.now in
    let p = c.requires.going.0 in
    let goes = c.loop-slot.invariant.walk.goes p c.requires.going.1 in (
      p,
      going-on p graph c.args.limit c.args.course.now c.loop-slot.course c.requires.going.1 goes,
      target-asked p graph c.loop-slot.course c.requires.won.0 c.args.object c.loop-slot.slot c.in-Some.target c.requires.won.1 c.requires.going.1.0
          (goes.grows c.requires.won.0 _ c.requires.won.2) (c.target.ensures ∙ ap Some c.in-Some.is),
    )

pub loop-slot-preserved : goal.loop-slot-preserved
loop-slot-preserved g c =
    let graph = g.F.FromGraph.graph c.args.graph.now in
    let slots = slots_in graph.targets c.args.object in
    let seen = objects_of c.args.course.now.won in
    elim c.match-target.branch [
      | in-Some w ↦ record {
        walk = subst (λ x. IsScanning graph c.args.limit c.args.course.now x c.args.object (c.loop-slot.slot + 1)) (sym w.course-is)
            (scans-some graph c.args.limit c.args.course.now c.loop-slot.course c.args.object c.loop-slot.slot c.loop-slot.invariant.walk w.decide.new.course
            w.in-Some.target c.requires.won.1 c.requires.won.0 c.requires.going.0 c.requires.going.1 c.requires.won.2 (c.target.ensures ∙ ap Some w.in-Some.is)
            w.decide.ensures.goes w.decide.ensures.decided);
        order = subst (λ (x : Course). objects_of x.won ≡ firsts seen (held (take (c.loop-slot.slot + 1) slots))) (sym w.course-is)
            (slots-some seen slots c.loop-slot.slot w.in-Some.target c.loop-slot.course.won w.decide.new.course.won (c.target.ensures ∙ ap Some w.in-Some.is)
            c.loop-slot.invariant.order w.decide.ensures.order);
      }
      | in_default w ↦ record {
        walk = subst (λ x. IsScanning graph c.args.limit c.args.course.now x c.args.object (c.loop-slot.slot + 1)) (sym w.course-is)
            (scans-none graph c.args.limit c.args.course.now c.loop-slot.course c.args.object c.loop-slot.slot c.loop-slot.invariant.walk
            (c.target.ensures ∙ ap Some w.in_default.is));
        order = subst (λ (x : Course). objects_of x.won ≡ firsts seen (held (take (c.loop-slot.slot + 1) slots))) (sym w.course-is)
            (slots-none seen slots c.loop-slot.slot c.loop-slot.course.won (c.target.ensures ∙ ap Some w.in_default.is) c.loop-slot.invariant.order);
      }
    ]

pub returns-clause-goes : goal.returns-clause-goes
returns-clause-goes g c = c.loop-slot.invariant.walk.goes

pub returns-clause-scanned : goal.returns-clause-scanned
returns-clause-scanned g c i k at =
    let less : i < length (slots_in (g.F.FromGraph.graph c.args.graph.now).targets c.args.object)
    = slice_get_within (slots_in (g.F.FromGraph.graph c.args.graph.now).targets c.args.object) i (Some k) at in
    c.loop-slot.invariant.walk.decided i k (omega (arith, less, c.loop-slot-test.false, c.slots-slot-end.ensures)) at

pub returns-clause-order : goal.returns-clause-order
returns-clause-order g c =
    let slots = slots_in (g.F.FromGraph.graph c.args.graph.now).targets c.args.object in
    let past : length slots ≤ c.loop-slot.slot = omega (arith, c.loop-slot-test.false, c.slots-slot-end.ensures) in
    slots-whole (objects_of c.args.course.now.won) slots c.loop-slot.slot c.loop-slot.course.won past c.loop-slot.invariant.order
