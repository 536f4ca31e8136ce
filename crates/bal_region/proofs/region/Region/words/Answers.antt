use Rattle.std.proofs.Common.{◌∙◌, ap, length, sym}
use Rattle.bal_region.specs.Land.{Land}
use Rattle.bal_region.proofs.Regions.{region-long}
use Rattle.bal_region.proofs.region.Region.words.Goals as goal

pub returns-clause-number : goal.returns-clause-number
returns-clause-number c = sym (region-long c.self.inside c.self.invariant) ∙ ap (λ (l : Land). length l.words) c.self.view_is
