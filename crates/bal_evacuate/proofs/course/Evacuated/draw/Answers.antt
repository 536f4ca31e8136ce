use Rattle.std.proofs.Common.{◌<◌, List, ap, subst, sym}
use Rattle.std.specs.Prelude.{slice_get}
use Rattle.bal_region.specs.Land.{Land}
use Rattle.bal_evacuate.specs.Course.{Course}
use Rattle.bal_evacuate.specs.Plan.{AreBare, IsBare}
use Rattle.bal_evacuate.proofs.course.Evacuated.draw.Goals as goal

-- the region that left is one of the pool's
bare : (c : goal.After-add_region-arg-1)
    → (c.in-Some.region.number < c.self.inside.buffers.shape.regions) × IsBare c.self.inside.buffers.shape c.in-Some.region
bare c =
    subst (λ (x : Course). AreBare x.buffers.shape x.spares) (sym c.self.view_is) c.requires.pool 0 c.in-Some.region
    (ap (λ (l : List Land). slice_get l 0) c.in-Some.ensures.items)

pub add_region-requires-clause-number : goal.add_region-requires-clause-number
add_region-requires-clause-number c = (bare c).0

pub add_region-requires-clause-words : goal.add_region-requires-clause-words
add_region-requires-clause-words c = (bare c).1.words

pub add_region-requires-clause-empty : goal.add_region-requires-clause-empty
add_region-requires-clause-empty c = let here = bare c in (here.1.starts, here.1.used)
