use Rattle.std.proofs.Common.{◌∙◌, ap}
use Rattle.bal_region.specs.Land.{Land, first_from}
use Rattle.bal_region.specs.Region.{land_of}
use Rattle.bal_region.proofs.Seen.{first-next, first-starts}
use Rattle.bal_region.proofs.region.Region.first_from.Goals as goal

pub returns : goal.returns
returns c =
    let next = first-next (land_of c.self.inside) c.args.offset c.next_from.result c.self.invariant.land c.next_from.ensures.next in
    let least = next ∙ ap (λ (l : Land). first_from l c.args.offset) c.self.view_is in
    let found = first-starts c.args.self.now c.args.offset c.next_from.result least in
    record { least = least; start = found.0; behind = found.1 }
