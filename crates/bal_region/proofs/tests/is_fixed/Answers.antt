use Rattle.std.proofs.Common.{◌≡◌, ◌+◌, ◌-◌, ◌≤◌, ◌∙◌, arith, ltb-false, subst, sym}
use Rattle.bal_region.specs.Land.{IsBehindHeaders}
use Rattle.bal_region.proofs.Seen.{IsBehindHeaders-free, IsBehindHeaders-inside, holder-is}
use Rattle.bal_region.proofs.tests.is_fixed.Goals as goal

pub returns-in_default-clause-behind : goal.returns-in_default-clause-behind
returns-in_default-clause-behind c = λ _.
    IsBehindHeaders-free c.args.region.now c.args.offset c.words.ensures.limits (sym c.holder_of.ensures.holder ∙ c.in_default.is)

pub returns-clause-behind : goal.returns-clause-behind
returns-clause-behind c = λ far.
    let l = c.args.region.now in
    let offset = c.args.offset in
    let start = c.in-Some.start in
    let behind : 2 ≤ offset - start = ltb-false (offset - start) 2 far in
    let holds = (holder-is l start offset c.words.ensures.limits).0 (sym c.holder_of.ensures.holder ∙ c.in-Some.is) in
    let place : start + (offset - start) ≡ offset = omega (arith, holds.1.1) in
    subst (IsBehindHeaders l) place
    (IsBehindHeaders-inside l start (offset - start) holds.0 c.words.ensures.limits holds.1.0 behind (omega (arith, place, holds.1.2)))
