use Rattle.bal_base.proofs.SetBits.{members-none}
use Rattle.bal_base.proofs.bits.Bits.none.Goals as goal

pub returns : goal.returns
returns c = members-none _ c.new.ensures.items
