use Rattle.std.proofs.Common.{refl, subst, sym}
use Rattle.bal_core.specs.World.{World}
use Rattle.bal_layout.specs.Regions.{free_regions}
use Rattle.bal_told.specs.OnBoard.{IsOfBoard}
use Rattle.bal_told.specs.Whole.{AreWalksOf}
use Rattle.bal_copyfwd.proofs.laws.an_evacuation_is_one_of_the_board.Goals as goal

pub returns-clause-board : goal.returns-clause-board
returns-clause-board c = λ conf b spot l roots held places e from shape states world.
    let pool = free_regions b.regions in
    subst (λ (w : World). IsOfBoard conf b l.regions (record e { world = w })) (sym world) (record {
      shape = sym shape;
      pool = refl;
      inside = λ k x at.
          let p = c.the_world_tells_what_the_board_does.ensures conf b spot l roots held places pool k x from shape states at in
          record { placed = p.0; present = p.1; lies = p.2; age = p.3; words = p.4 };
      all = λ x among. (c.the_world_tells_the_objects.ensures.all b spot l roots held places pool x from).1 among;
      distinct = λ j k x. c.the_world_tells_the_objects.ensures.once b spot l roots held places pool x j k from;
    })

pub returns-clause-walks : goal.returns-clause-walks
returns-clause-walks c = λ b spot l roots held places e from world.
    subst (λ (w : World). AreWalksOf b l.regions (record e { world = w })) (sym world) (record {
      ends = λ x. let both = c.just_what_is_kept_is_reached.ensures.name b spot l roots held places (free_regions b.regions) x from in (both.1, both.0);
    })
