use Rattle.std.proofs.Common.{◌∙◌, ap, refl, subst, sym}
use Rattle.bal_table.specs.Table.{slot_place, things_of, word_at}
use Rattle.bal_words.specs.Shown.{Finds, name_behind}
use Rattle.bal_model.specs.Plain.{name_or_null, reference, taking}
use Rattle.bal_model.specs.declared.row.Op.TheVariants as op
use Rattle.bal_roots.specs.Roots.{register_place}
use Rattle.bal_heap.specs.Kept.{objects_by}
use Rattle.bal_heap.specs.Objects.{Objects, Performs, slot_holder, with_root}
use Rattle.bal_heap.proofs.ActFacts.{found-there, loads, named-finds, named-within, names-no_reference}
use Rattle.bal_heap.proofs.ObjectFacts.{kept-roots}
use Rattle.bal_heap.proofs.RootFacts.{word-few}
use Rattle.bal_heap.proofs.objects.Objects.load.Goals as goal
use Rattle.bal_heap.proofs.objects.Objects.load.Goals.{After-word-word}

pub returns-in-Err : goal.returns-in-Err
returns-in-Err c =
    let o = c.args.self.now in
    names-no_reference o c.args.thread c.args.holder c.args.slot c.requires.thread c.requires.holder c.in-Err.reply (op.Load c.args.into c.args.holder c.args.slot)
    (λ s x. taking s c.args.thread c.args.into (reference s x c.args.slot)) (sym c.in-Err.is ∙ c.slot_holder.ensures) (λ s. refl)
    (λ a. with_root o (register_place c.args.thread c.args.into) (word_at o.table (slot_place o.table a c.args.slot))) refl

pub slot_place-requires : goal.slot_place-requires
slot_place-requires c =
    (named-within (objects_by c.self.inside) c.args.thread c.args.holder c.args.slot c.requires.thread c.requires.holder c.self.invariant c.in-Ok.address
    (found-there (λ o. slot_holder o c.args.thread c.args.holder c.args.slot) c.self.view_is c.in-Ok.is c.slot_holder.ensures))

finds : (c : goal.After-word-word) → Finds (things_of c.self.inside.table) c.word-word.result
finds c =
    (named-finds (objects_by c.self.inside) c.args.thread c.args.holder c.args.slot c.requires.thread c.requires.holder c.self.invariant c.in-Ok.address
    (found-there (λ o. slot_holder o c.args.thread c.args.holder c.args.slot) c.self.view_is c.in-Ok.is c.slot_holder.ensures) c.word-word.result (c.word-word.ensures ∙ ap (word_at c.self.inside.table) c.slot_place.ensures.place))

pub reply_of-reply-requires-clause-few : goal.reply_of-reply-requires-clause-few
reply_of-reply-requires-clause-few c =
    word-few c.self.inside.table c.word-word.result c.self.invariant.on.table (finds (goal.at.reply_of-reply-requires-clause-few c).After-word-word)

pub reply_of-reply-requires-clause-finds : goal.reply_of-reply-requires-clause-finds
reply_of-reply-requires-clause-finds c =
    subst (λ (o : Objects). Finds (things_of o.table) c.word-word.result) c.self.view_is (finds (goal.at.reply_of-reply-requires-clause-finds c).After-word-word)

-- the row was performed
performs : (c : goal.After-set_register) → Performs (objects_by c.self.inside) (record (objects_by c.self.inside) { roots = c.set_register.new.self }) c.args.thread
    (op.Load c.args.into c.args.holder c.args.slot) c.reply_of-reply.result
performs c =
    loads (objects_by c.self.inside) c.args.thread c.args.holder c.args.slot c.requires.thread c.requires.holder c.self.invariant c.in-Ok.address
    (found-there (λ o. slot_holder o c.args.thread c.args.holder c.args.slot) c.self.view_is c.in-Ok.is c.slot_holder.ensures) c.args.into c.word-word.result c.reply_of-reply.result c.set_register.new.self
    c.requires.into (c.word-word.ensures ∙ ap (word_at c.self.inside.table) c.slot_place.ensures.place)
    (c.reply_of-reply.ensures ∙ ap (λ (o : Objects). name_or_null (name_behind (things_of o.table) c.word-word.result)) (sym c.self.view_is))
    c.set_register.ensures

pub invariant_of-self : goal.invariant_of-self
invariant_of-self c =
    kept-roots (objects_by c.self.inside) c.args.thread (op.Load c.args.into c.args.holder c.args.slot) c.reply_of-reply.result c.self.invariant c.set_register.new.self (performs c)

pub returns : goal.returns
returns c =
    subst (λ (o : Objects). Performs o (record (objects_by c.self.inside) { roots = c.set_register.new.self }) c.args.thread
    (op.Load c.args.into c.args.holder c.args.slot) c.reply_of-reply.result) c.self.view_is (performs c)
