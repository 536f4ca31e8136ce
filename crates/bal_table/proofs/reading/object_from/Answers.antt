use Rattle.std.proofs.Common.{subst, sym}
use Rattle.std.specs.Prelude.{IsSome}
use Rattle.bal_table.specs.Table.{things_of}
use Rattle.bal_table.proofs.ReadAs.{start-read-as}
use Rattle.bal_table.proofs.reading.object_from.Goals as goal

pub address-requires-clause-offset : goal.address-requires-clause-offset
address-requires-clause-offset g c =
    let t = g.T.Readable.table c.args.table.now in
    (start-read-as t c.shape-geometry.result c.shape-geometry.ensures.shape c.shape-geometry.ensures.limits c.region_of-number.result c.land.result.now
    c.region_of-number.ensures.within c.land.ensures c.in_ok-start.start c.in_ok-start.ensures.start).0

pub returns-clause-start : goal.returns-clause-start
returns-clause-start g c =
    let t = g.T.Readable.table c.args.table.now in
    let starts = start-read-as t c.shape-geometry.result c.shape-geometry.ensures.shape c.shape-geometry.ensures.limits c.region_of-number.result c.land.result.now
    c.region_of-number.ensures.within c.land.ensures c.in_ok-start.start c.in_ok-start.ensures.start in
    subst (λ n. IsSome (things_of t n)) (sym c.address.ensures.address) starts.1
