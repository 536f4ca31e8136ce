use Rattle.std.proofs.Common.{None, Option, arith, refl, ℕ}
use Rattle.std.proofs.lemmas.List.{get_or-replicate}
use Rattle.bal_dest.proofs.Held.{kept-none}
use Rattle.bal_dest.proofs.buffers.Buffers.make.Goals as goal

pub invariant_of-result : goal.invariant_of-result
invariant_of-result c =
    let none : Option ℕ = None in
    kept-none _ c.in_ok-with_capacity.ensures.items c.in_ok-with_capacity.ensures.capacity refl (λ n le. get_or-replicate 25 n none none (omega (arith, le))) refl refl (omega (arith, c.ranges.pool))
