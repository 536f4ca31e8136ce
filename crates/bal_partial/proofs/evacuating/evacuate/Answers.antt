use Rattle.std.proofs.Common.{◌≡◌, length, ap, refl, sym, ◌∙◌, arith}
use Rattle.std.proofs.lemmas.List.{length-map}
use Rattle.std.proofs.lemmas.List.Sorted.{length_permutation}
use Rattle.bal_partial.specs.Collection.{Collection, seen_of}
use Rattle.bal_partial.specs.Evacuating.{IsPrepared, MayTell}
use Rattle.bal_table.specs.Occupied.{Occupied}
use Rattle.bal_told.specs.Telling.{survivors_of, told_as, told_by}
use Rattle.bal_partial.proofs.evacuating.evacuate.Goals as goal

pub returns-clause-ok : goal.returns-clause-ok
returns-clause-ok c = λ t split begins.
    let lent : c.in-Ok.numbered ≡ record { table = c.args.occupied.now.table; regions = c.args.chosen.now } = c.in-Ok.ensures.numbered in
    let own = lent ∙ ap (λ (o : Occupied). record { table = o.table; regions = c.args.chosen.now }) split.occupied in
    let prepared : IsPrepared t c.args.chosen.now c.args.roots.now c.in-Ok.numbered c.in-Ok.gathered.held.items c.in-Ok.gathered.places.items c.args.pool.items
    = record { table = split.table; begins = begins; lent = own; gathered = c.in-Ok.ensures.gathered; free = split.free } in
    let is = c.in_ok-evacuated.ensures.ok t c.args.chosen.now c.args.roots.now prepared in
    let x : Collection = record {
      table = t;
      chosen = c.args.chosen.now;
      held = c.in-Ok.gathered.held.items;
      places = c.in-Ok.gathered.places.items;
      limit = c.args.limit;
      course = c.in_ok-evacuated.evacuated;
    } in
    let may : MayTell x c.args.roots.now c.in-Ok.numbered c.in_ok-evacuated.evacuated = record { is = is; lent = sym own; course = refl } in
    let told = c.tell.ensures.told x c.args.roots.now may in
    record {
      held = c.in-Ok.gathered.held.items;
      is = is;
      moves = c.tell.ensures.moves x c.args.roots.now may;
      marked = c.tell.ensures.marked x c.args.roots.now may;
      regions = c.tell.ensures.regions x c.args.roots.now may;
      told = told;
      few = (
          let e = seen_of x in
          let same : length c.tell.new.lists.kept.list ≡ length (survivors_of e) = length_permutation (survivors_of e) c.tell.new.lists.kept.list told.same in
          let alone : length (survivors_of e) ≡ length (told_by e 0) = ap length (c.survivors_are_told_worker_by_worker.ensures.alone e refl) in
          let each : length (told_by e 0) ≡ length x.course.won = length-map x.course.won (told_as e.world.shape e.world.names 0) in
          omega (arith, same, alone, each, c.in_ok-evacuated.ensures.few)
          );
      causes = c.tell.ensures.causes x c.args.roots.now may;
    }
