use Rattle.std.proofs.Common.{ap, ◌∙◌}
use Rattle.bal_dest.specs.Buffers.{Buffers}
use Rattle.bal_dest.proofs.Held.{kept-left}
use Rattle.bal_dest.proofs.buffers.Buffers.take_region.Goals as goal

pub invariant_of-self-2 : goal.invariant_of-self-2
invariant_of-self-2 c =
    kept-left c.self.inside c.self.invariant c.in_ok-destination.destination c.pop_front.new.self c.in_ok-destination.ensures.items c.in_ok-destination.ensures.capacity
    (ap (λ (b : Buffers). b.reserved) c.self.view_is ∙ c.requires)
