use Rattle.std.proofs.Common.{subst}
use Rattle.std.specs.Io.KnownBytes.{Appends}
use Rattle.bal_source.proofs.BufferFacts.{both-written, front-behind, at-error}
use Rattle.bal_source.proofs.buffered.Buffered.pass_on.Goals as goal

pub returns-clause-all : goal.returns-clause-all
returns-clause-all g c =
    both-written _ _ _ _ _ _ c.write_all_bytes-2.result
    (subst (Appends _ _) c.as_slice.ensures c.in_ok-write_all_bytes.ensures.all) c.write_all_bytes-2.ensures.all c.clear.ensures.empty

pub returns-clause-front : goal.returns-clause-front
returns-clause-front g c =
    at-error c.write_all_bytes-2.result (front-behind _ _ _ _ _
    (subst (Appends _ _) c.as_slice.ensures c.in_ok-write_all_bytes.ensures.all) c.write_all_bytes-2.ensures.front)
