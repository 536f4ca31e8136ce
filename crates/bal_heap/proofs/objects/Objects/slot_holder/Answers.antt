use Rattle.std.proofs.Common.{◌≡◌, ◌∙◌, ap, arith, subst, suc, sym}
use Rattle.bal_heap.specs.Kept.{objects_by}
use Rattle.bal_heap.specs.Objects.{Objects, slot_holder, word_in}
use Rattle.bal_heap.proofs.RowFacts.{holder-named, word-leads}
use Rattle.bal_heap.proofs.objects.Objects.slot_holder.Goals as goal

pub returns : goal.returns
returns c =
    let word = subst (λ (o : Objects). word_in o c.args.thread c.args.holder ≡ suc c.in-Some.address) (sym c.self.view_is) (word-leads (word_in c.args.self.now c.args.thread c.args.holder) c.in-Some.address c.in-Some.ensures.target) in
    sym (holder-named (objects_by c.self.inside) c.args.thread c.args.holder c.in-Some.address c.args.slot word (omega (arith, c.slots.ensures, c.if-slot-slots.false)))
    ∙ ap (λ (o : Objects). slot_holder o c.args.thread c.args.holder c.args.slot) c.self.view_is
