use Rattle.std.proofs.Common.{◌∙◌, ap, arith, sym}
use Rattle.bal_layout.specs.Addresses.{address_in}
use Rattle.bal_layout.specs.Shape.{Shape}
use Rattle.bal_gather.specs.Lent.{is_chosen}
use Rattle.bal_gather.proofs.Numbering.{chosen-by, region-passed}
use Rattle.bal_gather.proofs.numbered.number_region.Goals as goal

pub returns-else-holds-clause-addresses : goal.returns-else-holds-clause-addresses
returns-else-holds-clause-addresses c =
    let l = c.args.chosen.now in
    let q = c.args.region in
    let table = c.geometry-geometry.ensures.limits in
    let place = c.address.ensures.address ∙ ap (λ (s : Shape). address_in s q 0) c.geometry-geometry.ensures.shape in
    let other = sym (chosen-by l q table c.requires.within 0 (omega (arith, table.shape.fewest_words)))
    ∙ (ap (is_chosen l) (sym place) ∙ (sym c.holds.ensures ∙ c.if-holds.false)) in
    c.requires.before ∙ sym (region-passed l q table c.requires.within other)
