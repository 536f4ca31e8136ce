use Rattle.std.proofs.Common.{◌∙◌, Option, ap, arith, length, subst, sym}
use Rattle.std.specs.VecDeque.{deque_with_item}
use Rattle.bal_region.specs.Land.{IsObject}
use Rattle.bal_dest.specs.Buffers.{Buffers, reserved_words, with_copy}
use Rattle.bal_dest.specs.Kept.{AreKept}
use Rattle.bal_dest.specs.declared.buffers.Reservation.{Reservation}
use Rattle.bal_dest.proofs.Held.{kept-filled, reserved-fits, reserved-long, reserved-within, reserved-words, view-filled}
use Rattle.bal_dest.proofs.buffers.Buffers.commit.Goals as goal

pub index_mut-requires : goal.index_mut-requires
index_mut-requires c = reserved-within c.self.inside c.self.invariant c.in-Some.reservation (sym c.take.ensures.value ∙ c.in-Some.is)

pub place-requires-clause-fits : goal.place-requires-clause-fits
place-requires-clause-fits c =
    let reservation = sym c.take.ensures.value ∙ c.in-Some.is in
    let words = reserved-words c.self.inside c.in-Some.reservation (length c.args.words.now) reservation (ap reserved_words c.self.view_is ∙ c.requires.reserved) in
    omega (arith, words, reserved-fits c.self.inside c.self.invariant c.in-Some.reservation c.index_mut.result.now reservation c.index_mut.ensures.value)

pub place-requires-clause-object : goal.place-requires-clause-object
place-requires-clause-object c =
    let reservation = sym c.take.ensures.value ∙ c.in-Some.is in
    subst (λ n. IsObject n c.args.words.now)
    (sym (reserved-long c.self.inside c.self.invariant c.in-Some.reservation c.index_mut.result.now reservation c.index_mut.ensures.value)
    ) (subst (λ (b : Buffers). IsObject b.shape.words c.args.words.now) (sym c.self.view_is) c.requires.object)

pub invariant_of-self : goal.invariant_of-self
invariant_of-self c =
    let a = c.self.inside in
    let r = c.in-Some.reservation in
    let reservation = sym c.take.ensures.value ∙ c.in-Some.is in
    let words = reserved-words a r (length c.args.words.now) reservation (ap reserved_words c.self.view_is ∙ c.requires.reserved) in
    let object = subst (λ (b : Buffers). IsObject b.shape.words c.args.words.now) (sym c.self.view_is) c.requires.object in
    subst (λ (left : Option Reservation). AreKept (record a { regions = deque_with_item a.regions r.place (record c.index_mut.result.now { region = c.place.new.self }); reserved = left }))
    (sym c.take.ensures.after)
    (kept-filled a c.self.invariant r c.index_mut.result.now c.place.new.self c.args.words.now reservation c.index_mut.ensures.value c.place.ensures.land words object)

pub returns : goal.returns
returns c =
    let a = c.self.inside in
    view-filled a c.self.invariant c.in-Some.reservation c.index_mut.result.now c.place.new.self c.args.words.now c.take.new.self (sym c.take.ensures.value ∙ c.in-Some.is)
    c.index_mut.ensures.value c.place.ensures.land c.take.ensures.after
    ∙ ap (λ (b : Buffers). with_copy b c.args.words.now) c.self.view_is
