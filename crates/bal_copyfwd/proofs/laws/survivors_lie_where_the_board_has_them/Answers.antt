use Rattle.std.proofs.Common.{subst, sym}
use Rattle.bal_core.specs.World.{At, World}
use Rattle.bal_kept.proofs.Lemmas.{given}
use Rattle.bal_layout.specs.Regions.{free_regions}
use Rattle.bal_copyfwd.proofs.Named.{moves-are, survives-is}
use Rattle.bal_copyfwd.proofs.laws.survivors_lie_where_the_board_has_them.Goals as goal

pub returns-clause-lost : goal.returns-clause-lost
returns-clause-lost c = λ conf b spot l roots held places e kept decisions from whole geometry world taken.
    survives-is (given c.objects_are_numbered_by_address.ensures.number c.what_is_held_from_outside_is_gathered.ensures.held from) conf e kept whole
    from.decodes.ascending geometry decisions taken
    (λ k a x at is. subst (λ (w : World). At w.names k x.name) (sym world) (c.the_world_tells_the_objects.ensures.name l held (free_regions b.regions) k a x at is))

pub returns-clause-moves : goal.returns-clause-moves
returns-clause-moves c = λ conf b spot l roots held places e kept decisions from whole geometry world taken.
    moves-are (given c.objects_are_numbered_by_address.ensures.number c.what_is_held_from_outside_is_gathered.ensures.held from) conf e kept whole
    from.decodes.ascending geometry decisions taken
    (λ k a x at is. subst (λ (w : World). At w.names k x.name) (sym world) (c.the_world_tells_the_objects.ensures.name l held (free_regions b.regions) k a x at is))
