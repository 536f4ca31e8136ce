use Rattle.bal_base.proofs.SetBits.{members-none}
use Rattle.bal_base.proofs.bits.Bits.clear.Goals as goal

pub returns-clause-members : goal.returns-clause-members
returns-clause-members c = members-none _ c.clear.ensures.items
