use Rattle.std.proofs.Common.{arith}
use Rattle.bal_base.proofs.SetBits.{members-none}
use Rattle.bal_base.proofs.bits.Bits.make.Goals as goal

pub returns : goal.returns
returns c = (members-none _ c.in_ok-with_capacity.ensures.items, omega (arith, c.in_ok-with_capacity.ensures.capacity))
