use Rattle.std.proofs.Common.{◌≡◌, [], List, ap, length, subst, sym, ◌∙◌, arith}
use Rattle.std.proofs.lemmas.List.{nil_from_length}
use Rattle.std.specs.Vec.Iter.{into_iter_items}
use Rattle.bal_region.specs.Land.{Land}
use Rattle.bal_copyfwd.specs.Filled.{MayFill, all_back, with_all_filled}
use Rattle.bal_copyfwd.proofs.Refilling.{after-spare, may-first, next-spare, none-out, none-spare}
use Rattle.bal_copyfwd.proofs.Unsplit.{is-whole, may-fill}
use Rattle.bal_copyfwd.proofs.filling.put_pool_back.Goals as goal

pub loop-region-init : goal.loop-region-init
loop-region-init c =
    let items = c.into_iter-region-iterator.ensures.into_iter_gives.0 in
    record {
      may = subst (λ (ls : List Land). MayFill c.args.occupied (all_back [] ls)) (sym items) (may-fill c.requires.0 c.args.occupied c.args.pool.items c.requires.1);
      table = ap (λ (ls : List Land). with_all_filled (all_back [] ls) c.args.occupied.table) items;
    }

pub put_back-requires : goal.put_back-requires
put_back-requires c =
    may-first _ _ _ (next-spare c.loop-region.occupied (into_iter_items c.loop-region.region-iterator) (into_iter_items c.next.new.self) c.in-Some.region
    c.loop-region.invariant.may c.in-Some.ensures.steps.0)

pub loop-region-preserved : goal.loop-region-preserved
loop-region-preserved c =
    let after = after-spare c.loop-region.occupied c.put_back.new.self (into_iter_items c.loop-region.region-iterator) (into_iter_items c.next.new.self) c.in-Some.region
    c.loop-region.invariant.may c.in-Some.ensures.steps.0 c.put_back.ensures in
    record { may = after.0; table = after.1 ∙ c.loop-region.invariant.table }

-- the iterator has no region left
none-left : (c : goal.After-drop-region-iterator) → into_iter_items c.loop-region.region-iterator ≡ []
none-left c =
    let none : length (into_iter_items c.loop-region.region-iterator) ≡ 0 = omega (arith, c.in-None.ensures.steps.0, c.loop-region.region-iterator.rest.ok.0) in
    nil_from_length (into_iter_items c.loop-region.region-iterator) none

pub whole-requires : goal.whole-requires
whole-requires c = none-out c.loop-region.occupied (into_iter_items c.loop-region.region-iterator) c.loop-region.invariant.may (none-left c)

pub returns : goal.returns
returns c t split =
    let none : length (into_iter_items c.loop-region.region-iterator) ≡ 0 = omega (arith, c.in-None.ensures.steps.0, c.loop-region.region-iterator.rest.ok.0) in
    c.whole.ensures ∙ (none-spare c.loop-region.occupied (into_iter_items c.loop-region.region-iterator) (nil_from_length (into_iter_items c.loop-region.region-iterator) none)
    ∙ (c.loop-region.invariant.table ∙ is-whole t c.args.occupied c.args.pool.items split))
