use Rattle.std.proofs.Common.{◌∙◌, refl, subst, sym}
use Rattle.bal_model.specs.Plain.{register, with_reference}
use Rattle.bal_model.specs.declared.row.Op.TheVariants as op
use Rattle.bal_model.specs.declared.row.Reply.TheVariants as reply
use Rattle.bal_heap.specs.Kept.{objects_by}
use Rattle.bal_heap.specs.Objects.{Objects, Performs, slot_holder, with_reference as with_reference_at, word_in}
use Rattle.bal_heap.proofs.ActFacts.{found-there, named-within, names-no_reference, stores}
use Rattle.bal_heap.proofs.ObjectFacts.{kept-after}
use Rattle.bal_heap.proofs.objects.Objects.store.Goals as goal

pub returns-in-Err : goal.returns-in-Err
returns-in-Err c =
    names-no_reference c.args.self.now c.args.thread c.args.holder c.args.slot c.requires.thread c.requires.holder c.in-Err.reply
    (op.Store c.args.holder c.args.slot c.args.value) (λ s x. (reply.Ok, with_reference s x c.args.slot (register s c.args.thread c.args.value)))
    (sym c.in-Err.is ∙ c.slot_holder.ensures) (λ s. refl) (λ a. with_reference_at c.args.self.now a c.args.slot (word_in c.args.self.now c.args.thread c.args.value)) refl

pub store_ref-requires-clause-slot : goal.store_ref-requires-clause-slot
store_ref-requires-clause-slot c =
    named-within (objects_by c.self.inside) c.args.thread c.args.holder c.args.slot c.requires.thread c.requires.holder c.self.invariant c.in-Ok.address
    (found-there (λ o. slot_holder o c.args.thread c.args.holder c.args.slot) c.self.view_is c.in-Ok.is c.slot_holder.ensures)

pub store_ref-requires-clause-shape : goal.store_ref-requires-clause-shape
store_ref-requires-clause-shape c = c.self.invariant.on.cards

-- the row was performed
performs : (c : goal.After-store_ref) → Performs (objects_by c.self.inside) (record (objects_by c.self.inside) { table = c.store_ref.new.table; cards = c.store_ref.new.cards })
    c.args.thread (op.Store c.args.holder c.args.slot c.args.value) reply.Ok
performs c =
    stores (objects_by c.self.inside) c.args.thread c.args.holder c.args.slot c.requires.thread c.requires.holder c.self.invariant c.in-Ok.address
    (found-there (λ o. slot_holder o c.args.thread c.args.holder c.args.slot) c.self.view_is c.in-Ok.is c.slot_holder.ensures) c.args.value c.register-word.result
    c.store_ref.new.table c.store_ref.new.cards c.requires.value c.register-word.ensures c.store_ref.ensures.table c.store_ref.ensures.cards c.store_ref.ensures.covered

pub invariant_of-self : goal.invariant_of-self
invariant_of-self c =
    kept-after (objects_by c.self.inside) (record (objects_by c.self.inside) { table = c.store_ref.new.table; cards = c.store_ref.new.cards }) c.args.thread
    (op.Store c.args.holder c.args.slot c.args.value) reply.Ok c.self.invariant (performs c)

pub returns : goal.returns
returns c =
    subst (λ (o : Objects). Performs o (record (objects_by c.self.inside) { table = c.store_ref.new.table; cards = c.store_ref.new.cards }) c.args.thread
    (op.Store c.args.holder c.args.slot c.args.value) reply.Ok) c.self.view_is (performs c)
