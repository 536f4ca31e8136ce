use Rattle.std.proofs.Common.{arith, get_or}
use Rattle.std.proofs.lemmas.Option.{slice_get-get_or}
use Rattle.bal_partial.proofs.SurvivorRegions.{copies-more}
use Rattle.bal_partial.proofs.telling.insert_copies.Goals as goal

pub loop-told-preserved : goal.loop-told-preserved
loop-told-preserved c =
    let i = c.loop-told.invariant in
    let at = c.loop-told.told-index in
    let won = c.args.won.now in
    record {
      members = copies-more c.args.geometry.now won at c.args.members.now.members c.loop-told.members.members c.insert_copy.new.members.members
          (get_or won at _) (slice_get-get_or won at _ c.loop-told-test.true) i.members c.insert_copy.ensures.members;
      room = omega (arith, i.room, c.insert_copy.ensures.room);
    }
