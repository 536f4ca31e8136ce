use Rattle.std.proofs.Common.{◌∙◌, ap, subst, sym}
use Rattle.bal_table.specs.Table.{things_of}
use Rattle.bal_model.specs.declared.row.Op.TheVariants as op
use Rattle.bal_heap.specs.Kept.{objects_by}
use Rattle.bal_heap.specs.Objects.{Objects, Performs}
use Rattle.bal_heap.proofs.ActFacts.{performs-load_global}
use Rattle.bal_heap.proofs.ObjectFacts.{kept-roots}
use Rattle.bal_words.specs.Shown.{name_behind}
use Rattle.bal_model.specs.Plain.{name_or_null}
use Rattle.bal_heap.proofs.objects.Objects.load_global.Goals as goal

-- the row was performed
performs : (c : goal.After-set_register) → Performs (objects_by c.self.inside) (record (objects_by c.self.inside) { roots = c.set_register.new.self }) c.args.thread
    (op.GLoad c.args.into c.args.global) c.reply_of-reply.result
performs c =
    performs-load_global (objects_by c.self.inside) c.args.thread c.requires.thread c.args.into c.args.global c.global-word.result c.reply_of-reply.result
    c.set_register.new.self c.requires.into c.requires.global c.global-word.ensures
    (c.reply_of-reply.ensures ∙ ap (λ (o : Objects). name_or_null (name_behind (things_of o.table) c.global-word.result)) (sym c.self.view_is))
    c.set_register.ensures

pub invariant_of-self : goal.invariant_of-self
invariant_of-self c =
    kept-roots (objects_by c.self.inside) c.args.thread (op.GLoad c.args.into c.args.global) c.reply_of-reply.result c.self.invariant c.set_register.new.self (performs c)

pub returns : goal.returns
returns c =
    subst (λ (o : Objects). Performs o (record (objects_by c.self.inside) { roots = c.set_register.new.self }) c.args.thread
    (op.GLoad c.args.into c.args.global) c.reply_of-reply.result) c.self.view_is (performs c)
