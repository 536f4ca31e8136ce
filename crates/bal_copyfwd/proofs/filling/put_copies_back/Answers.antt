use Rattle.std.proofs.Common.{◌≡◌, ◌∷◌, [], List, ap, length, refl, subst, sym, ◌∙◌, arith}
use Rattle.bal_dest.specs.Buffers.{Buffers}
use Rattle.bal_dest.specs.declared.buffers.Destination.{Destination}
use Rattle.bal_evacuate.specs.Course.{Course}
use Rattle.bal_region.specs.Land.{Land}
use Rattle.bal_copyfwd.specs.Filled.{MayFill, all_back}
use Rattle.bal_copyfwd.proofs.Refilling.{after-copies, may-first, next-copies, none-copies}
use Rattle.bal_copyfwd.proofs.filling.put_copies_back.Goals as goal

pub loop-age-init : goal.loop-age-init
loop-age-init c = record { idle = c.requires.idle; may = c.requires.may; table = refl; spares = refl }

pub take_region-requires : goal.take_region-requires
take_region-requires c = c.loop-age.invariant.idle

pub put_back-requires : goal.put_back-requires
put_back-requires c =
    may-first _ _ _ (next-copies c.loop-age.occupied c.loop-age.evacuated.buffers.regions c.take_region.new.self.buffers.regions c.in-Some.age c.in-Some.region
    c.loop-age.evacuated.spares c.loop-age.invariant.may c.in-Some.ensures.region.0)

pub loop-age-smaller : goal.loop-age-smaller
loop-age-smaller c =
    let now : length c.loop-age.evacuated.buffers.regions ≡ length (record { age = c.in-Some.age; region = c.in-Some.region } ∷ c.take_region.new.self.buffers.regions)
    = ap (λ (ds : List Destination). length ds) c.in-Some.ensures.region.0 in
    omega (arith, now)

pub loop-age-preserved : goal.loop-age-preserved
loop-age-preserved c =
    let after = after-copies c.loop-age.occupied c.put_back.new.self c.loop-age.evacuated.buffers.regions c.take_region.new.self.buffers.regions
    c.in-Some.age c.in-Some.region c.loop-age.evacuated.spares c.loop-age.invariant.may c.in-Some.ensures.region.0 c.put_back.ensures in
    let spares = ap (λ (e : Course). e.spares) c.in-Some.ensures.others in
    record {
      idle = ap (λ (b : Buffers). b.reserved) c.in-Some.ensures.region.2 ∙ c.loop-age.invariant.idle;
      may = subst (λ (ls : List Land). MayFill c.put_back.new.self (all_back c.take_region.new.self.buffers.regions ls)) (sym spares) after.0;
      table = after.1 ∙ c.loop-age.invariant.table;
      spares = spares ∙ c.loop-age.invariant.spares;
    }

pub returns-clause-table : goal.returns-clause-table
returns-clause-table c = none-copies c.loop-age.occupied c.loop-age.evacuated.buffers.regions c.in_default.ensures.region.0 ∙ c.loop-age.invariant.table

pub returns-clause-may : goal.returns-clause-may
returns-clause-may c =
    subst (λ (ls : List Land). MayFill c.loop-age.occupied (all_back [] ls)) c.loop-age.invariant.spares
    (subst (λ (ds : List Destination). MayFill c.loop-age.occupied (all_back ds c.loop-age.evacuated.spares)) c.in_default.ensures.region.0 c.loop-age.invariant.may)

pub returns-clause-spares : goal.returns-clause-spares
returns-clause-spares c = ap (λ (e : Course). e.spares) c.in_default.ensures.others ∙ c.loop-age.invariant.spares
