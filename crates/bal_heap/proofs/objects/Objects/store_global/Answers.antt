use Rattle.std.proofs.Common.{subst}
use Rattle.bal_model.specs.declared.row.Op.TheVariants as op
use Rattle.bal_model.specs.declared.row.Reply.TheVariants as reply
use Rattle.bal_heap.specs.Kept.{objects_by}
use Rattle.bal_heap.specs.Objects.{Objects, Performs}
use Rattle.bal_heap.proofs.ActFacts.{performs-store_global}
use Rattle.bal_heap.proofs.ObjectFacts.{kept-roots}
use Rattle.bal_heap.proofs.objects.Objects.store_global.Goals as goal

-- the row was performed
performs : (c : goal.After-set_global) → Performs (objects_by c.self.inside) (record (objects_by c.self.inside) { roots = c.set_global.new.self }) c.args.thread
    (op.GStore c.args.global c.args.register) reply.Ok
performs c =
    performs-store_global (objects_by c.self.inside) c.args.thread c.requires.thread c.args.global c.args.register c.register-word.result c.set_global.new.self
    c.requires.global c.requires.register c.self.invariant c.register-word.ensures c.set_global.ensures

pub invariant_of-self : goal.invariant_of-self
invariant_of-self c =
    kept-roots (objects_by c.self.inside) c.args.thread (op.GStore c.args.global c.args.register) reply.Ok c.self.invariant c.set_global.new.self (performs c)

pub returns : goal.returns
returns c =
    subst (λ (o : Objects). Performs o (record (objects_by c.self.inside) { roots = c.set_global.new.self }) c.args.thread
    (op.GStore c.args.global c.args.register) reply.Ok) c.self.view_is (performs c)
