use Rattle.std.proofs.Math.Nat.{div-lt_iff_lt-mul}
use Rattle.std.proofs.Common.{◌<◌, ◌/◌, ◌∙◌, ap, arith}
use Rattle.bal_layout.proofs.Shapes.{words-power}
use Rattle.bal_layout.proofs.geometry.Geometry.region_of.Goals as goal

pub returns-clause-region : goal.returns-clause-region
returns-clause-region c = ap (λ w. c.args.address / w) (words-power c.self.inside.words c.self.invariant.power_of_two) ∙ ap (λ s. c.args.address / s.words) c.self.view_is

pub returns-clause-within : goal.returns-clause-within
returns-clause-within c =
    let words = words-power c.self.inside.words c.self.invariant.power_of_two ∙ ap (λ s. s.words) c.self.view_is in
    let some : 0 < c.args.self.now.words = omega (arith, c.self.invariant.fewest_words, ap (λ s. s.words) c.self.view_is) in
    rw words ((div-lt_iff_lt-mul some).1 c.requires)
