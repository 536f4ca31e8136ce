use Rattle.std.proofs.Common.{◌≡◌, ◌≤◌, ◌∙◌, ap, arith, length, sym}
use Rattle.std.proofs.lemmas.Bool.{le-leb, leb-true}
use Rattle.bal_region.specs.Land.{Land}
use Rattle.bal_region.proofs.Regions.{region-long}
use Rattle.bal_region.proofs.region.Region.fits.Goals as goal

pub returns : goal.returns
returns c =
    let a = c.self.inside in
    let long : a.room ≡ length c.args.self.now.words = sym (region-long a c.self.invariant) ∙ ap (λ (l : Land). length l.words) c.self.view_is in
    let used : a.used ≡ c.args.self.now.used = ap (λ (l : Land). l.used) c.self.view_is in
    let within : a.used ≤ a.room = omega (arith, c.self.invariant.written, c.self.invariant.within) in (
      λ fits. omega (arith, leb-true c.args.words _ fits, long, used, within),
      λ fits. le-leb c.args.words _ (omega (arith, fits, long, used)),
    )
