use Rattle.std.proofs.Common.{ap, arith}
use Rattle.std.proofs.lemmas.Fmt.{length-decimal-le}
use Rattle.bal_base.proofs.line.Line.put_number.Goals as goal

pub write_digits-self-inside-requires : goal.write_digits-self-inside-requires
write_digits-self-inside-requires c =
    let few = length-decimal-le 20 c.args.number (omega arith) (omega (arith, c.ranges.number.fits)) c.ranges.number.fits in
    let room = ap (λ l. l.spare) c.self.view_is in
    (omega (arith, few, room, c.requires), omega (arith, c.self.invariant, c.deref_mut.ensures.len))

pub returns-clause-room : goal.returns-clause-room
returns-clause-room c =
    let few = length-decimal-le 20 c.args.number (omega arith) (omega (arith, c.ranges.number.fits)) c.ranges.number.fits in
    let room = ap (λ l. l.spare) c.self.view_is in
    omega (arith, few, room, c.write_digits-self-inside.ensures.start)
