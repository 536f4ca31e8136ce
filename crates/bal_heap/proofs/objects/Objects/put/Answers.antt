use Rattle.std.proofs.Common.{◌∙◌, ap, refl, subst, sym}
use Rattle.bal_model.specs.Plain.{with_value}
use Rattle.bal_model.specs.declared.row.Op.TheVariants as op
use Rattle.bal_model.specs.declared.row.Reply.TheVariants as reply
use Rattle.bal_heap.specs.Kept.{objects_by}
use Rattle.bal_heap.specs.Objects.{Objects, Performs, done_at, with_number, number_place}
use Rattle.bal_heap.proofs.ActFacts.{found-there, named-number, names-no_number, puts}
use Rattle.bal_heap.proofs.ObjectFacts.{kept-table}
use Rattle.bal_heap.proofs.objects.Objects.put.Goals as goal

pub returns-in-Err : goal.returns-in-Err
returns-in-Err c =
    let o = c.args.self.now in
    let missing = sym c.in-Err.is ∙ c.number_place.ensures in
    names-no_number o c.args.thread c.args.holder c.args.slot c.requires.thread c.requires.holder c.in-Err.reply
    (op.Put c.args.holder c.args.slot c.args.number) (λ s x. (reply.Ok, with_value s x c.args.slot c.args.number)) missing (λ s. refl)
    (ap (λ x. done_at o x (λ place. with_number o place c.args.number)) missing)

pub set_word-requires-clause-within : goal.set_word-requires-clause-within
set_word-requires-clause-within c =
    (named-number (objects_by c.self.inside) c.args.thread c.args.holder c.args.slot c.requires.thread c.requires.holder c.self.invariant c.in-Ok.place (found-there (λ o. number_place o c.args.thread c.args.holder c.args.slot) c.self.view_is c.in-Ok.is c.number_place.ensures)).0

pub set_word-requires-clause-behind : goal.set_word-requires-clause-behind
set_word-requires-clause-behind c =
    (named-number (objects_by c.self.inside) c.args.thread c.args.holder c.args.slot c.requires.thread c.requires.holder c.self.invariant c.in-Ok.place (found-there (λ o. number_place o c.args.thread c.args.holder c.args.slot) c.self.view_is c.in-Ok.is c.number_place.ensures)).1

-- the row was performed
performs : (c : goal.After-set_word) → Performs (objects_by c.self.inside) (record (objects_by c.self.inside) { table = c.set_word.new.self }) c.args.thread
    (op.Put c.args.holder c.args.slot c.args.number) reply.Ok
performs c =
    puts (objects_by c.self.inside) c.args.thread c.args.holder c.args.slot c.requires.thread c.requires.holder c.self.invariant c.in-Ok.place
    (found-there (λ o. number_place o c.args.thread c.args.holder c.args.slot) c.self.view_is c.in-Ok.is c.number_place.ensures) c.args.number c.set_word.new.self c.set_word.ensures

pub invariant_of-self : goal.invariant_of-self
invariant_of-self c =
    kept-table (objects_by c.self.inside) c.args.thread (op.Put c.args.holder c.args.slot c.args.number) reply.Ok c.self.invariant c.set_word.new.self (performs c)

pub returns : goal.returns
returns c =
    subst (λ (o : Objects). Performs o (record (objects_by c.self.inside) { table = c.set_word.new.self }) c.args.thread
    (op.Put c.args.holder c.args.slot c.args.number) reply.Ok) c.self.view_is (performs c)
