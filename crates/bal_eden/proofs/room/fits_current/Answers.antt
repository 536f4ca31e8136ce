use Rattle.std.proofs.Common.{◌≡◌, ◌∙◌, ◌+◌, ◌≤◌, Option, Some, ap, length, subst, sym, ℕ}
use Rattle.std.specs.Prelude.{◌↔◌, IsTrue}
use Rattle.bal_region.specs.Land.{Land}
use Rattle.bal_rules.specs.Room.{fits_current}
use Rattle.bal_eden.proofs.Finding.{fits-some}
use Rattle.bal_eden.proofs.room.fits_current.Goals as goal

pub returns : goal.returns
returns c =
    let t = c.args.table.now in
    let current : t.current ≡ Some c.in-Some.region = sym c.current.ensures.current ∙ c.in-Some.is in
    let iff = subst (λ (l : Land). IsTrue c.fits.result ↔ (l.used + c.args.words ≤ length l.words)) c.region.ensures c.fits.ensures in
    fits-some t c.in-Some.region c.args.words c.fits.result c.current.ensures.limits c.in-Some.ensures.within iff
    ∙ ap (λ (q : Option ℕ). fits_current t.shape t.regions q c.args.words) (sym current)
