use Rattle.std.proofs.Common.{◌∙◌, refl, subst, sym}
use Rattle.bal_model.specs.Plain.{value}
use Rattle.bal_model.specs.declared.row.Op.TheVariants as op
use Rattle.bal_model.specs.declared.row.Reply.TheVariants as reply
use Rattle.bal_heap.specs.Kept.{objects_by}
use Rattle.bal_heap.specs.Objects.{Objects, Performs, number_place}
use Rattle.bal_heap.proofs.ActFacts.{found-there, gets, named-number, names-no_number}
use Rattle.bal_heap.proofs.objects.Objects.get.Goals as goal

pub returns-in-Err : goal.returns-in-Err
returns-in-Err c =
    names-no_number c.args.self.now c.args.thread c.args.holder c.args.slot c.requires.thread c.requires.holder c.in-Err.reply (op.Get c.args.holder c.args.slot)
    (λ s x. (reply.Number (value s x c.args.slot), s)) (sym c.in-Err.is ∙ c.number_place.ensures) (λ s. refl) refl

pub word-requires : goal.word-requires
word-requires c =
    (named-number (objects_by c.self.inside) c.args.thread c.args.holder c.args.slot c.requires.thread c.requires.holder c.self.invariant c.in-Ok.place (found-there (λ o. number_place o c.args.thread c.args.holder c.args.slot) c.self.view_is c.in-Ok.is c.number_place.ensures)).0

pub returns : goal.returns
returns c =
    subst (λ (o : Objects). Performs o o c.args.thread (op.Get c.args.holder c.args.slot) (reply.Number c.word.result)) c.self.view_is
    (gets (objects_by c.self.inside) c.args.thread c.args.holder c.args.slot c.requires.thread c.requires.holder c.self.invariant c.in-Ok.place
    (found-there (λ o. number_place o c.args.thread c.args.holder c.args.slot) c.self.view_is c.in-Ok.is c.number_place.ensures) c.word.result c.word.ensures)
