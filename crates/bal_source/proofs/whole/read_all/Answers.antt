use Rattle.std.proofs.Common.{arith}
use Rattle.bal_source.proofs.Moves.{takes_next}
use Rattle.bal_source.proofs.whole.read_all.Goals as goal

pub returns-then-count-len-clause-front : goal.returns-then-count-len-clause-front
returns-then-count-len-clause-front g c =
    let kept = c.loop.invariant in
    let read = c.in-Ok.ensures in
    takes_next _ _ _ _ _ _ _ _ _ kept.taken kept.number read.bound.0 read.bytes.0 read.given (omega arith)

pub returns-in_err-append-clause-front : goal.returns-in_err-append-clause-front
returns-in_err-append-clause-front g c =
    let kept = c.loop.invariant in
    let read = c.in-Ok.ensures in
    takes_next _ _ _ _ _ _ _ _ _ kept.taken kept.number read.bound.0 read.bytes.0 read.given (omega arith)
