use Rattle.std.proofs.Common.{subst}
use Rattle.bal_model.specs.declared.row.Op.TheVariants as op
use Rattle.bal_model.specs.declared.row.Reply.TheVariants as reply
use Rattle.bal_heap.specs.Kept.{objects_by}
use Rattle.bal_heap.specs.Objects.{Objects, Performs}
use Rattle.bal_heap.proofs.ActFacts.{performs-drop}
use Rattle.bal_heap.proofs.ObjectFacts.{kept-roots}
use Rattle.bal_heap.proofs.objects.Objects.clear_register.Goals as goal

-- the row was performed
performs : (c : goal.After-set_register) → Performs (objects_by c.self.inside) (record (objects_by c.self.inside) { roots = c.set_register.new.self }) c.args.thread
    (op.Drop c.args.register) reply.Ok
performs c = performs-drop (objects_by c.self.inside) c.args.thread c.requires.thread c.args.register c.set_register.new.self c.requires.register c.set_register.ensures

pub invariant_of-self : goal.invariant_of-self
invariant_of-self c =
    kept-roots (objects_by c.self.inside) c.args.thread (op.Drop c.args.register) reply.Ok c.self.invariant c.set_register.new.self (performs c)

pub returns : goal.returns
returns c =
    subst (λ (o : Objects). Performs o (record (objects_by c.self.inside) { roots = c.set_register.new.self }) c.args.thread
    (op.Drop c.args.register) reply.Ok) c.self.view_is (performs c)
