use Rattle.std.proofs.Common.{◌≡◌, ◌∙◌, ◌++◌, ◌∷◌, List, [], ap, arith, map, sym}
use Rattle.std.proofs.lemmas.List.FromFn.{map-range_with_len_more}
use Rattle.std.specs.List.{range_with_len}
use Rattle.bal_region.specs.Changes.{empty_land, with_number}
use Rattle.bal_region.specs.Land.{Land}
use Rattle.bal_table.proofs.table.empty_regions.Goals as goal

pub loop-number-preserved : goal.loop-number-preserved
loop-number-preserved c =
    let n = c.loop-number.number in
    let words = c.args.geometry.words in
    let made : c.set_number.new.self ≡ empty_land n words =
    c.set_number.ensures ∙ (ap (λ (l : Land). with_number l n) c.in_ok-region.ensures ∙ ap (empty_land n) c.words.ensures.number) in
    c.in_ok-push.ensures.items
    ∙ (ap (λ (ls : List Land). ls ++ c.set_number.new.self ∷ []) c.loop-number.invariant
    ∙ (ap (λ (l : Land). map (λ q. empty_land q words) (range_with_len 0 n) ++ l ∷ []) made
    ∙ sym (map-range_with_len_more (λ q. empty_land q words) 0 n n (omega arith))))
