use Rattle.bal_source.proofs.BufferFacts.{delivered}
use Rattle.bal_source.proofs.buffered.Buffered.finish.Goals as goal

pub returns : goal.returns
returns g c = λ from text passes.
    let wrote = rw c.as_slice.ensures at c.write_all_bytes.ensures in
    delivered from _ _ _ text c.write_all_bytes.result passes c.if-failed.false wrote.all wrote.front wrote.cause
