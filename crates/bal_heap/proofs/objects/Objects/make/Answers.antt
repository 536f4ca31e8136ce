use Rattle.std.proofs.Common.{◌∙◌, subst, sym}
use Rattle.bal_rules.specs.Board.{opening}
use Rattle.bal_table.specs.Table.{IsTable}
use Rattle.bal_heap.specs.Kept.{AreKept}
use Rattle.bal_heap.specs.Objects.{AreOnBoard, Objects}
use Rattle.bal_heap.proofs.ObjectFacts.{kept-nothing, nothing-is, on-opening_of}
use Rattle.bal_heap.proofs.objects.Objects.make.Goals as goal

pub invariant_of-result : goal.invariant_of-result
invariant_of-result c =
    let shape = (subst IsTable (c.drop.view_is ∙ c.in_ok-make.ensures) c.drop.invariant.table).shape in
    subst AreKept (sym (nothing-is c.args.geometry _ _ _ _ c.in_ok-make.ensures c.in_ok-make-2.ensures c.in_ok-make-3.ensures c.in_ok-filled.ensures)) (kept-nothing c.args.geometry shape)

pub returns-clause-opening : goal.returns-clause-opening
returns-clause-opening c =
    let shape = (subst IsTable (c.drop.view_is ∙ c.in_ok-make.ensures) c.drop.invariant.table).shape in
    λ conf is. subst (λ (o : Objects). AreOnBoard o (opening conf)) (sym (nothing-is c.args.geometry _ _ _ _ c.in_ok-make.ensures c.in_ok-make-2.ensures c.in_ok-make-3.ensures c.in_ok-filled.ensures))
    (on-opening_of c.args.geometry shape conf is)
