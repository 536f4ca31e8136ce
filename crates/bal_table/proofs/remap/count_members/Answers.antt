use Rattle.std.proofs.Common.{◌≤◌, arith, not, refl, take}
use Rattle.std.proofs.lemmas.List.{length-take}
use Rattle.std.proofs.lemmas.List.Filters.{length-filter_both}
use Rattle.std.proofs.lemmas.Grind.{common_steps}
use Rattle.bal_base.specs.Bits.{is_member}
use Rattle.bal_table.proofs.remap.count_members.Goals as goal

pub overflow_add-count : goal.overflow_add-count
overflow_add-count c =
    let i = c.loop-number.number-index in
    let before = take i c.args.numbers.now in
    let p = is_member c.args.bits.now.members in
    let one : c.from-count.result ≤ 1 = grind (arith, common_steps) in
    omega (
      arith,
      one,
      c.requires,
      c.loop-number.invariant,
      length-filter_both p (λ n. not (p n)) (λ _. refl) before,
      length-take i c.args.numbers.now,
    )
