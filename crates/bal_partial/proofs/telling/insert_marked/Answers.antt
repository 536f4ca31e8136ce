use Rattle.std.proofs.Common.{◌+◌, List, ℕ, arith, ap, get_or, subst, sym, take, ◌∙◌}
use Rattle.std.proofs.lemmas.Option.{slice_get-get_or}
use Rattle.bal_base.specs.Bits.{with_member}
use Rattle.bal_partial.proofs.SurvivorRegions.{HaveMarked, marked-more}
use Rattle.bal_told.proofs.Lemmas.{at-in}
use Rattle.bal_partial.proofs.telling.insert_marked.Goals as goal

pub region_of-requires : goal.region_of-requires
region_of-requires c =
    let marked = c.args.marked.now in
    let at = c.loop-address.address-index in
    c.requires.marked (get_or marked at 0) (at-in marked at (get_or marked at 0) (slice_get-get_or marked at 0 c.loop-address-test.true))

pub loop-address-preserved : goal.loop-address-preserved
loop-address-preserved c =
    let i = c.loop-address.invariant in
    let s = c.args.geometry.now in
    let at = c.loop-address.address-index in
    let marked = c.args.marked.now in
    let so = c.loop-address.members.members in
    record {
      members = subst (λ (now : List ℕ). HaveMarked s (take (at + 1) marked) c.args.members.now.members now)
          (sym (c.insert.ensures.members ∙ ap (λ (r : ℕ). with_member r so) c.region_of.ensures.region))
          (marked-more s marked at c.args.members.now.members so c.loop-address-test.true i.members);
      room = omega (arith, i.room, c.insert.ensures.room);
    }
