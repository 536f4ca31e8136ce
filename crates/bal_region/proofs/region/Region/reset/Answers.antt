use Rattle.std.proofs.Common.{◌∙◌, ap, length, refl, sym}
use Rattle.bal_region.specs.Changes.{empty_land}
use Rattle.bal_region.specs.Land.{Land}
use Rattle.bal_region.proofs.Regions.{land-empty, region-long}
use Rattle.bal_region.proofs.region.Region.reset.Goals as goal

pub returns : goal.returns
returns c =
    land-empty c.self.inside.number c.self.inside.room _ _ 0 c.clear.ensures.items c.clear-2.ensures.members refl
    ∙ (ap (empty_land c.self.inside.number) (sym (region-long c.self.inside c.self.invariant))
    ∙ ap (λ (l : Land). empty_land l.number (length l.words)) c.self.view_is)
