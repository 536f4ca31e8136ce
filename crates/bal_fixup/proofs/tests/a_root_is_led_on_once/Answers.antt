use Rattle.std.proofs.Common.{arith, subst, sym}
use Rattle.std.specs.Prelude.{All}
use Rattle.std.proofs.lemmas.List.Elements.{All-replicate, All-set}
use Rattle.bal_fixup.specs.Mended.{IsReference}
use Rattle.bal_fixup.proofs.tests.a_root_is_led_on_once.Goals as goal
use Rattle.bal_roots.specs.Roots.{root_count}

pub fix_roots-requires : goal.fix_roots-requires
fix_roots-requires g c =
    let made = subst (All IsReference) (sym c.in_ok-roots.ensures) (All-replicate IsReference root_count 0 (omega arith)) in
    let first = subst (All IsReference) (sym c.set_root.ensures) (All-set IsReference c.in_ok-roots.roots 0 5 (omega arith) made) in
    let second = subst (All IsReference) (sym c.set_root-2.ensures) (All-set IsReference c.set_root.new.self 1 9 (omega arith) first) in
    let third = subst (All IsReference) (sym c.set_root-3.ensures) (All-set IsReference c.set_root-2.new.self 2 1 (omega arith) second) in
    subst (All IsReference) (sym c.set_root-4.ensures) (All-set IsReference c.set_root-3.new.self 1087 5 (omega arith) third)
