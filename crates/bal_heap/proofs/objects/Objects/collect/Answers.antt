use Rattle.std.proofs.Common.{◌≡◌, subst}
use Rattle.bal_model.specs.declared.config.Config.{Config}
use Rattle.bal_rules.specs.Board.{Board}
use Rattle.bal_rules.specs.GlobalEvents.{IsGlobal, after_global}
use Rattle.bal_heap.specs.Kept.{objects_by}
use Rattle.bal_heap.specs.Objects.{AreOnBoard, Objects}
use Rattle.bal_heap.proofs.Collected.{collected, kept-collected, shape-collected}
use Rattle.bal_heap.proofs.objects.Objects.collect.Goals as goal

pub invariant_of-self : goal.invariant_of-self
invariant_of-self c =
    kept-collected (objects_by c.self.inside) c.global.new.table c.global.new.cards c.global.new.roots c.global.new.dead.list c.global.new.packed.list
    c.global.ensures.global c.global.ensures.meets c.geometry.ensures.limits c.global.ensures.covered c.global.ensures.shape c.self.invariant.board c.self.invariant.on

pub returns-clause-global : goal.returns-clause-global
returns-clause-global c =
    subst (λ (o : Objects). (x : Config) (b : Board) → x.geometry ≡ o.table.shape → AreOnBoard o b → IsGlobal x b c.global.new.dead.list c.global.new.packed.list
    × AreOnBoard (record { table = c.global.new.table; cards = c.global.new.cards; roots = c.global.new.roots; made = c.self.inside.made.list })
    (after_global x b c.global.new.dead.list c.global.new.packed.list)) c.self.view_is
    (collected (objects_by c.self.inside) c.global.new.table c.global.new.cards c.global.new.roots c.global.new.dead.list c.global.new.packed.list
    c.global.ensures.global c.global.ensures.meets c.geometry.ensures.limits c.global.ensures.covered c.global.ensures.shape)

pub returns-clause-shape : goal.returns-clause-shape
returns-clause-shape c =
    subst (λ (o : Objects). c.global.new.table.shape ≡ o.table.shape) c.self.view_is
    (shape-collected (objects_by c.self.inside) c.global.new.table c.global.new.cards c.global.new.roots c.global.new.dead.list c.global.new.packed.list
    c.global.ensures.global c.global.ensures.meets c.geometry.ensures.limits c.global.ensures.covered c.global.ensures.shape c.self.invariant.board c.self.invariant.on)
