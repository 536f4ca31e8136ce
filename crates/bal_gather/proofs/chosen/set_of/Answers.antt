use Rattle.std.proofs.Common.{◌∙◌, List, ℕ, ap, arith, get_or, sym, take}
use Rattle.std.proofs.lemmas.List.{take_more}
use Rattle.bal_base.specs.Bits.{with_member}
use Rattle.bal_base.proofs.Lemmas.{with-last}
use Rattle.bal_gather.proofs.Ascending.{front-less, there}
use Rattle.bal_gather.proofs.chosen.set_of.Goals as goal

pub insert-requires : goal.insert-requires
insert-requires c =
    let regions = c.args.regions.now in
    let i = c.loop-region.region-index in
    omega (arith, c.requires.within (get_or regions i 0) (there regions i c.loop-region-test.true), c.loop-region.invariant.room)

pub loop-region-preserved : goal.loop-region-preserved
loop-region-preserved c =
    let regions = c.args.regions.now in
    let i = c.loop-region.region-index in
    let last = with-last (get_or regions i 0) (take i regions) (λ m among. front-less regions i m c.requires.ascending c.loop-region-test.true among) in
    record {
      members = c.insert.ensures.members
          ∙ (ap (λ (l : List ℕ). with_member (get_or regions i 0) l) c.loop-region.invariant.members
          ∙ (last ∙ sym (take_more regions i 0 c.loop-region-test.true)));
      room = omega (arith, c.loop-region.invariant.room, c.insert.ensures.room);
    }
