use Rattle.std.proofs.Common.{◌≡◌, None, ap, subst, sym, ◌∙◌}
use Rattle.std.specs.Prelude.{option_map}
use Rattle.bal_heap.specs.Flush.{HasFlushed}
use Rattle.bal_heap.specs.Heap.{Executes, Told}
use Rattle.bal_heap.specs.Request.{request_of}
use Rattle.bal_heap.specs.declared.request.Request.{Request}
use Rattle.bal_heap.proofs.FlushFacts.{has-flushed, lacks-none}
use Rattle.bal_heap.proofs.RequestFacts.{want-asked}
use Rattle.bal_heap.proofs.heap.Heap.step.Goals as goal

pub returns-in_ok-allocate-in-Some-asked-clause-ok : goal.returns-in_ok-allocate-in-Some-asked-clause-ok
returns-in_ok-allocate-in-Some-asked-clause-ok c =
    let reply = c.in_ok-allocate-in-Some-asked.field-0 in
    subst (λ t. Executes c.args.self.now c.allocate.new.self t reply) c.in-Some.ensures.own c.in_ok-allocate-in-Some-asked.ensures.ok

pub returns-in_ok-execute-in-None-clause-ok : goal.returns-in_ok-execute-in-None-clause-ok
returns-in_ok-execute-in-None-clause-ok c =
    let reply = c.in_ok-execute-in-None.field-0 in
    subst (λ t. Executes c.args.self.now c.execute.new.self t reply) c.in-Some.ensures.own c.in_ok-execute-in-None.ensures.ok

pub returns-in_ok-allocate-in-Some-asked-clause-flushed : goal.returns-in_ok-allocate-in-Some-asked-clause-flushed
returns-in_ok-allocate-in-Some-asked-clause-flushed c =
    subst (HasFlushed c.args.self.now c.allocate.new.self) c.in-Some.ensures.own
    (has-flushed c.args.self.now c.allocate.new.self c.in-Some.row c.in-Some.ensures.next c.in_ok-allocate-in-Some-asked.ensures.flushed)

pub returns-in_ok-execute-in-None-clause-flushed : goal.returns-in_ok-execute-in-None-clause-flushed
returns-in_ok-execute-in-None-clause-flushed c =
    let before = c.args.self.now in
    let r = c.in-Some.row in
    let none : request_of before.config.geometry r.op ≡ None =
    subst (λ (x : Told). request_of x.config.geometry r.op ≡ None) c.self.view_is (sym c.asked.ensures ∙ c.in-None.is) in
    let lacks = lacks-none before r (want-asked before.config.geometry r.op ∙ ap (option_map (λ (q : Request). q.want)) none) in
    subst (HasFlushed before c.execute.new.self) c.in-Some.ensures.own
    (has-flushed before c.execute.new.self r c.in-Some.ensures.next (λ found. absurd (lacks found)))
