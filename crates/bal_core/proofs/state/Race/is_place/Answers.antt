use Rattle.std.proofs.Common.{◌≤◌, ◌∙◌, List, ap, sym, subst}
use Rattle.bal_core.specs.declared.row.Told.{Told}
use Rattle.bal_core.specs.World.{Row}
use Rattle.bal_core.specs.Steps.{used}
use Rattle.bal_core.proofs.state.Race.is_place.Goals as goal

pub used-used-requires : goal.used-used-requires
used-used-requires c = record {
  room = subst (λ (l : List Told). used c.args.self.now.world c.args.drawn.now.region l ≤ 65536)
      (ap (λ (r : Row). r.won) (sym c.row.view_is) ∙ sym c.as_slice.ensures) (c.requires.room c.args.drawn.now.region);
}
