use Rattle.std.proofs.Common.{◌≡◌, ◌∙◌, ap, subst, suc, sym}
use Rattle.bal_heap.specs.Kept.{objects_by}
use Rattle.bal_heap.specs.Objects.{Objects, number_place, word_in}
use Rattle.bal_heap.proofs.RowFacts.{number-named, word-leads}
use Rattle.bal_heap.proofs.objects.Objects.number_place.Goals as goal

pub returns : goal.returns
returns c =
    let word = subst (λ (o : Objects). word_in o c.args.thread c.args.holder ≡ suc c.in-Some.address) (sym c.self.view_is) (word-leads (word_in c.args.self.now c.args.thread c.args.holder) c.in-Some.address c.in-Some.ensures.target) in
    sym (number-named (objects_by c.self.inside) c.args.thread c.args.holder c.in-Some.address c.args.slot c.in-Some-find_value.place word
    (sym c.find_value.ensures.place ∙ c.in-Some-find_value.is))
    ∙ ap (λ (o : Objects). number_place o c.args.thread c.args.holder c.args.slot) c.self.view_is
