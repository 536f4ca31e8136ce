use Rattle.std.proofs.Common.{◌∙◌, List, ℕ, ap, arith, eqb, get_or, refl, sym, take}
use Rattle.std.proofs.lemmas.Bool.{eq-eqb}
use Rattle.std.proofs.lemmas.List.{take_more}
use Rattle.std.proofs.lemmas.List.Folds.{list_any_at}
use Rattle.bal_base.specs.Bits.{is_member}
use Rattle.bal_layout.specs.Regions.{is_in}
use Rattle.bal_table.proofs.Marking.{bits-more}
use Rattle.bal_table.proofs.remap.replace_all.Goals as goal

pub insert-requires : goal.insert-requires
insert-requires c =
    let numbers = c.args.numbers.now in
    let i = c.loop-number.number-index in
    let k = get_or numbers i 0 in
    omega (arith, c.requires k (list_any_at (λ m. eqb m k) numbers i 0 (omega arith) (eq-eqb k k refl)), c.loop-number.invariant.room)

pub loop-number-preserved : goal.loop-number-preserved
loop-number-preserved c =
    let numbers = c.args.numbers.now in
    let i = c.loop-number.number-index in
    record {
      members = λ n. ap (λ (ms : List ℕ). is_member ms n) c.insert.ensures.members
          ∙ (bits-more c.loop-number.bits.members (take i numbers) (get_or numbers i 0) c.loop-number.invariant.members n
          ∙ ap (is_in n) (sym (take_more numbers i 0 (omega arith))));
      room = omega (arith, c.loop-number.invariant.room, c.insert.ensures.room);
    }
