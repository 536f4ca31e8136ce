use Rattle.std.proofs.Common.{◌≡◌, ◌∷◌, List, ap, length, refl, ◌∙◌, arith}
use Rattle.bal_region.specs.Land.{Land}
use Rattle.bal_copyfwd.proofs.Refilling.{after-spare, may-first, next-spare, none-out, none-spare}
use Rattle.bal_copyfwd.proofs.filling.put_spares_back.Goals as goal

pub loop-region-init : goal.loop-region-init
loop-region-init c = record { may = c.requires; table = refl }

pub put_back-requires : goal.put_back-requires
put_back-requires c =
    may-first _ _ _ (next-spare c.loop-region.occupied c.loop-region.evacuated.spares c.take_spare.new.self.spares c.in-Some.region
    c.loop-region.invariant.may c.in-Some.ensures.0)

pub loop-region-smaller : goal.loop-region-smaller
loop-region-smaller c =
    let now : length c.loop-region.evacuated.spares ≡ length (c.in-Some.region ∷ c.take_spare.new.self.spares) = ap (λ (ls : List Land). length ls) c.in-Some.ensures.0 in
    omega (arith, now)

pub loop-region-preserved : goal.loop-region-preserved
loop-region-preserved c =
    let after = after-spare c.loop-region.occupied c.put_back.new.self c.loop-region.evacuated.spares c.take_spare.new.self.spares c.in-Some.region
    c.loop-region.invariant.may c.in-Some.ensures.0 c.put_back.ensures in
    record { may = after.0; table = after.1 ∙ c.loop-region.invariant.table }

pub returns-clause-table : goal.returns-clause-table
returns-clause-table c = none-spare c.loop-region.occupied c.loop-region.evacuated.spares c.in_default.ensures.0 ∙ c.loop-region.invariant.table

pub returns-clause-all : goal.returns-clause-all
returns-clause-all c = none-out c.loop-region.occupied c.loop-region.evacuated.spares c.loop-region.invariant.may c.in_default.ensures.0
