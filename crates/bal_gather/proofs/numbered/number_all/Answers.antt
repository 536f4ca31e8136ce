use Rattle.std.proofs.Common.{◌+◌, ◌∷◌, ◌∙◌, [], ap, arith, length, length-append, map, subst, sym}
use Rattle.bal_gather.specs.Kept.{TellNumbers}
use Rattle.bal_gather.proofs.Words.{told-more}
use Rattle.bal_gather.proofs.numbered.number_all.Goals as goal

pub loop-region-preserved : goal.loop-region-preserved
loop-region-preserved c =
    let l = c.args.chosen.now in
    let i = c.loop-region.invariant in
    let list = c.in_ok-number_region.field-0 in
    record {
      addresses = c.in_ok-number_region.ensures.addresses;
      long = ap (λ xs. length xs) c.in_ok-push.ensures.items ∙ omega (arith, length-append c.loop-region.numbers.items (list ∷ []), i.long);
      numbers = subst (λ xs. TellNumbers l (map (λ v. v.items) xs) (c.loop-region.region + 1)) (sym c.in_ok-push.ensures.items)
          (told-more (λ v. v.items) l c.loop-region.numbers.items list c.loop-region.region i.long i.numbers c.in_ok-number_region.ensures.numbers);
    }
