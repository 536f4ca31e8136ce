use Rattle.std.proofs.Common.{subst}
use Rattle.bal_evacuate.specs.Going.{IsReady}
use Rattle.bal_evacuate.proofs.Deciding.{goes-then}
use Rattle.bal_evacuate.proofs.Ended.{IsEnded, ends, ready-going}
use Rattle.bal_evacuate.proofs.Order.{order-whole}
use Rattle.bal_evacuate.proofs.Walk.{decided-on, going-on}
use Rattle.bal_evacuate.proofs.evacuation.Evacuation.run.Given as given
use Rattle.bal_evacuate.proofs.evacuation.Evacuation.run.Goals as goal

pub decide_roots-requires : goal.decide_roots-requires
decide_roots-requires g c =
    let start = ready-going _ c.args.self c.self.inside.course c.self.view_is c.self.invariant in
    (c.args.self, start.0, start.1)

pub scan_all-requires : goal.scan_all-requires
scan_all-requires g c =
    let start = ready-going _ c.args.self c.self.inside.course c.self.view_is c.self.invariant in
    let graph = g.F.FromGraph.graph c.self.inside.graph.now in (
      c.args.self,
      going-on c.args.self graph c.self.inside.limit c.self.inside.course c.decide_roots.new.course start.0
          (c.decide_roots.ensures.goes c.args.self start.0 start.1),
    )

-- all that is ensured
ended : (g : given.Over) (c : goal.After-limits g) → IsEnded c.args.self c.scan_all.new.course
ended g c =
    let start = ready-going _ c.args.self c.self.inside.course c.self.view_is c.self.invariant in
    let graph = g.F.FromGraph.graph c.self.inside.graph.now in
    let goes = c.decide_roots.ensures.goes c.args.self start.0 start.1 in
    let scans = c.scan_all.ensures.goes c.args.self
    (going-on c.args.self graph c.self.inside.limit c.self.inside.course c.decide_roots.new.course start.0 goes) in
    ends c.args.self graph c.self.inside.roots.now c.self.inside.course c.scan_all.new.course start.0.0 start.1
    (subst (λ q. IsReady q c.self.inside.course) c.self.view_is c.self.invariant)
    (goes-then c.args.self c.self.inside.course c.decide_roots.new.course c.scan_all.new.course goes scans)
    (λ i k at. decided-on c.args.self c.decide_roots.new.course c.scan_all.new.course k scans (c.decide_roots.ensures.decided i k at))
    c.scan_all.ensures.scanned c.limits.ensures

pub returns-clause-order : goal.returns-clause-order
returns-clause-order g c =
    let start = ready-going _ c.args.self c.self.inside.course c.self.view_is c.self.invariant in
    order-whole c.args.self (g.F.FromGraph.graph c.self.inside.graph.now) c.self.inside.roots.now c.self.inside.course c.decide_roots.new.course
    c.scan_all.new.course start.0.0 start.1 c.self.invariant.begun.won c.decide_roots.ensures.order c.scan_all.ensures.order

pub returns-clause-events : goal.returns-clause-events
returns-clause-events g c = (ended g c).events

pub returns-clause-rest : goal.returns-clause-rest
returns-clause-rest g c = (ended g c).rest

pub returns-clause-evacuated : goal.returns-clause-evacuated
returns-clause-evacuated g c = (ended g c).evacuated

pub returns-clause-tight : goal.returns-clause-tight
returns-clause-tight g c = (ended g c).tight

pub returns-clause-limit : goal.returns-clause-limit
returns-clause-limit g c = (ended g c).limit

pub returns-clause-some : goal.returns-clause-some
returns-clause-some g c = (ended g c).some

pub returns-clause-filled : goal.returns-clause-filled
returns-clause-filled g c = (ended g c).filled

pub returns-clause-copies : goal.returns-clause-copies
returns-clause-copies g c = (ended g c).copies

pub returns-clause-spares : goal.returns-clause-spares
returns-clause-spares g c = (ended g c).spares

pub returns-clause-idle : goal.returns-clause-idle
returns-clause-idle g c = (ended g c).idle

pub returns-clause-prompt : goal.returns-clause-prompt
returns-clause-prompt g c = (ended g c).prompt

pub returns-clause-next : goal.returns-clause-next
returns-clause-next g c = (ended g c).next

pub returns-clause-few : goal.returns-clause-few
returns-clause-few g c = (ended g c).few
