use Rattle.std.proofs.Common.{◌∙◌, ap, arith, refl, List, ℕ}
use Rattle.bal_region.specs.Changes.{without}
use Rattle.bal_region.specs.Land.{Land}
use Rattle.bal_base.specs.Filling.{padded}
use Rattle.bal_region.specs.Region.{land_of}
use Rattle.bal_region.proofs.Changed.{IsLand-removed, IsLand-same}
use Rattle.bal_region.proofs.Regions.{IsRegion-kept}
use Rattle.bal_region.proofs.region.Region.remove.Goals as goal

pub invariant_of-self : goal.invariant_of-self
invariant_of-self c =
    IsRegion-kept c.self.inside _ c.self.invariant
    (IsLand-same (without (land_of c.self.inside) c.args.offset) _ refl c.remove.ensures.members refl (IsLand-removed (land_of c.self.inside) c.args.offset c.self.invariant.land))
    refl c.self.invariant.written c.self.invariant.within (omega arith) c.remove.ensures.room

pub returns : goal.returns
returns c =
    ap (λ (ss : List ℕ). record { number = c.self.inside.number; words = padded c.self.inside.room c.self.inside.words.items; starts = ss; used = c.self.inside.used }) c.remove.ensures.members
    ∙ ap (λ (l : Land). without l c.args.offset) c.self.view_is
