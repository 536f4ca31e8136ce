use Rattle.std.proofs.Common.{List, ℕ, ◌∙◌, ap, arith, get_or}
use Rattle.bal_layout.specs.Shape.{Shape}
use Rattle.bal_gather.specs.Lent.{Lent}
use Rattle.bal_gather.specs.Numbers.{number_of}
use Rattle.bal_gather.proofs.Words.{told-at, word-same}
use Rattle.bal_gather.proofs.numbered.Numbered.number_at.Goals as goal

pub returns : goal.returns
returns c =
    let n = c.self.inside in
    let i = c.self.invariant in
    let l = n.chosen in
    let list = c.index-numbers.result.now in
    let here = told-at (λ v. v.items) l c.geometry-geometry.result n.numbers.items list c.args.address c.geometry-geometry.ensures.shape
    (omega (arith, c.geometry-geometry.ensures.limits.shape.fewest_words))
    (omega (arith, c.region_of.ensures.within, c.region_of.ensures.region, ap (λ (s : Shape). s.regions) c.geometry-geometry.ensures.shape)) i.regions
    (c.index-numbers.ensures ∙ ap (λ q. get_or n.numbers.items q list) c.region_of.ensures.region) i.numbers in
    word-same c.number_in.result (number_of l c.args.address)
    (c.number_in.ensures
    ∙ (ap (λ (xs : List ℕ). get_or xs c.offset_of.result 0) c.deref.ensures.value ∙ (ap (λ o. get_or list.items o 0) c.offset_of.ensures.offset ∙ here)))
    ∙ ap (λ (k : Lent). number_of k c.args.address) c.self.view_is
