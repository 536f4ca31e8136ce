use Rattle.std.proofs.Common.{◌≡◌, false, [], None, ap, refl, subst, sym}
use Rattle.bal_rules.specs.Path.{is_gc, opened}
use Rattle.bal_rules.specs.RowEvents.{want_of}
use Rattle.bal_rules.specs.Run.{board_of}
use Rattle.bal_model.specs.declared.config.Config.{Config}
use Rattle.bal_model.specs.declared.row.Op.{Op}
use Rattle.bal_model.specs.declared.row.Op.TheVariants as op
use Rattle.bal_heap.specs.Heap.{IsReady, Told, plain_event, turn_of}
use Rattle.bal_heap.specs.Meets.{IsMet}
use Rattle.bal_heap.proofs.Comes.{comes-none}
use Rattle.bal_heap.proofs.Ready.{gc-may, may-asking, may-end, ready-ends, ready-gc, ready-next, ready-plain}
use Rattle.bal_heap.proofs.heap.Heap.execute.Goals as goal
use Rattle.bal_heap.proofs.heap.Heap.execute.Goals.{in-Gc+in_ok-collect, in_default}

met : (c : goal.After-perform-arg-1) → IsMet c.args.self.now c.self.inside.turns
met c = subst (λ (x : Told). IsMet x c.self.inside.turns) c.self.view_is c.self.invariant.met

other : (o : Op) → (o ≡ op.Gc → ⊥) → is_gc o ≡ false
other op.Gc is = absurd (is refl)
other o is = refl

-- the path of the row comes to where its own event may stand: at once, or after a collection
ready : (c : goal.After-perform-arg-1) → IsReady c.args.self.now c.match-row.self c.args.row (plain_event c.match-row.self c.args.row)
ready c = elim c.match-row.branch [
  | in-Gc+in_ok-collect w ↦
      let start = c.args.self.now in
      let r = c.args.row in
      let g = w.in_ok-collect.ensures.ok in
      subst (λ (x : Told). IsReady start x r (plain_event x r)) (sym w.self-is)
      (ready-gc start start w.collect.new.self r (opened []) (comes-none start r (met c).meets) g
      (gc-may start.config (turn_of start r) (board_of start.config start.entries) (ap is_gc w.in-Gc.is), g.legal)
      (subst (λ (x : Config). want_of x.geometry r.op ≡ None) (sym g.config) c.requires.asks) (ap is_gc w.in-Gc.is))
  | in_default w ↦
      subst (λ (x : Told). IsReady c.args.self.now x c.args.row (plain_event x c.args.row)) (sym w.self-is)
      (ready-plain c.args.self.now c.self.inside.turns c.args.row (met c) c.requires.next c.requires.asks (other c.args.row.op w.in_default.not-Gc))
]

pub perform-requires-clause-next : goal.perform-requires-clause-next
perform-requires-clause-next c = ready-next c.args.self.now c.match-row.self c.args.row (ready c) c.requires.next

pub perform-requires-clause-may : goal.perform-requires-clause-may
perform-requires-clause-may c =
    may-end c.args.self.now c.match-row.self c.self.inside.turns c.args.row (plain_event c.match-row.self c.args.row) (met c) c.requires.next (ready c)

pub returns-clause-ok : goal.returns-clause-ok
returns-clause-ok c =
    (ready-ends c.args.self.now c.match-row.self c.perform.new.self c.args.row (plain_event c.match-row.self c.args.row) c.perform.result c.requires.next
    (ready c.before) c.perform.ensures.ok c.perform.ensures.err).0

pub returns-clause-err : goal.returns-clause-err
returns-clause-err c =
    (ready-ends c.args.self.now c.match-row.self c.perform.new.self c.args.row (plain_event c.match-row.self c.args.row) c.perform.result c.requires.next
    (ready c.before) c.perform.ensures.ok c.perform.ensures.err).1

pub collect-requires-clause-may : goal.collect-requires-clause-may
collect-requires-clause-may c =
    may-asking c.args.self.now c.self.inside.turns c.args.row (subst (λ (x : Told). IsMet x c.self.inside.turns) c.self.view_is c.self.invariant.met) c.requires.next (ap is_gc c.in-Gc.is)
