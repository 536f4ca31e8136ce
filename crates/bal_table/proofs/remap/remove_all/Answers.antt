use Rattle.std.proofs.Common.{◌∙◌, List, ℕ, ap, arith, get_or, not, sym, take}
use Rattle.std.proofs.lemmas.List.{take_more}
use Rattle.std.specs.Prelude.{◌&&◌}
use Rattle.bal_base.specs.Bits.{is_member}
use Rattle.bal_layout.specs.Regions.{is_in}
use Rattle.bal_table.proofs.Remapping.{removed-more}
use Rattle.bal_table.proofs.remap.remove_all.Goals as goal

pub loop-number-preserved : goal.loop-number-preserved
loop-number-preserved c =
    let old = c.args.bits.now.members in
    let numbers = c.args.numbers.now in
    let i = c.loop-number.number-index in
    record {
      members = λ n. ap (λ (ms : List ℕ). is_member ms n) c.remove.ensures.members
          ∙ (removed-more old (take i numbers) c.loop-number.bits.members (get_or numbers i 0) c.loop-number.invariant.members n
          ∙ ap (λ (l : List ℕ). is_member old n && not (is_in n l)) (sym (take_more numbers i 0 (omega arith))));
      room = omega (arith, c.loop-number.invariant.room, c.remove.ensures.room);
    }
