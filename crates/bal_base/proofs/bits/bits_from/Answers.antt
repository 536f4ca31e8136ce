use Rattle.std.proofs.Common.{arith, refl}
use Rattle.bal_base.proofs.Masked.{from-all, from-some}
use Rattle.bal_base.proofs.bits.bits_from.Goals as goal

pub returns-then-i-number : goal.returns-then-i-number
returns-then-i-number c = from-all _ c.args.i c.args.number refl c.if-i-number.true

pub returns : goal.returns
returns c = from-some _ c.args.i c.args.number refl (omega (arith, c.requires, c.if-i-number.false))
