use Rattle.std.proofs.Common.{◌∙◌, sym}
use Rattle.bal_table.proofs.Headers.{header-found, header-says}
use Rattle.bal_table.proofs.reading.header.Goals as goal

pub unreachable-requires : goal.unreachable-requires
unreachable-requires g c =
    header-found (g.T.Readable.table c.args.table.now) c.shape-geometry.result c.shape-geometry.ensures.shape c.shape-geometry.ensures.limits c.args.address c.requires c.region_of.result c.land-region.result.now c.offset_of-offset.result
    c.region_of.ensures.region c.land-region.ensures c.offset_of-offset.ensures.offset
    c.word.result c.word-2.result c.word.ensures c.word-2.ensures (sym c.read_header.ensures.value ∙ c.in_default.is)

pub returns : goal.returns
returns g c =
    let says = header-says (g.T.Readable.table c.args.table.now) c.shape-geometry.result c.shape-geometry.ensures.shape c.shape-geometry.ensures.limits c.args.address c.requires c.region_of.result c.land-region.result.now c.offset_of-offset.result
    c.region_of.ensures.region c.land-region.ensures c.offset_of-offset.ensures.offset
    c.word.result c.word-2.result c.word.ensures c.word-2.ensures c.in-Some.header c.in-Some.ensures.value in
    record { what = says.what; refs = says.refs; values = says.values }
