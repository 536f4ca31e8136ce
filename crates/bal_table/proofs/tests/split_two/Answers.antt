use Rattle.std.proofs.Common.{◌≡◌, [], ◌∷◌, List, arith, length, refl, sym, ◌∙◌}
use Rattle.std.proofs.lemmas.Bool.{eqb-true}
use Rattle.bal_region.specs.Land.{Land}
use Rattle.bal_table.proofs.OutTrials.{two-out}
use Rattle.bal_table.proofs.tests.split_two.Goals as goal

-- no item is left where there are so many
empty : (ls : List Land) → length ls ≡ 0 → ls ≡ []
empty [] none = refl
empty (l ∷ ls) none = absurd (omega (arith, none))

pub returns : goal.returns
returns c =
    two-out c.args.table c.in-Ok.split.0 c.in-Ok.split.1.items c.pop.new.self.items c.pop-2.new.self.items c.in-Some-pop.low c.in-Some.high c.geometry.ensures.limits
    c.in-Ok.ensures.occupied c.in-Ok.ensures.regions c.in-Some.ensures.items c.in-Some-pop.ensures.items
    (empty c.pop-2.new.self.items (sym c.pop-2.new.self.ok.0 ∙ eqb-true c.pop-2.new.self.len 0 (sym c.is_empty.ensures ∙ c.if-not-is_empty.false)))
    (λ same. c.if-number.false (c.number.ensures ∙ (same ∙ sym c.number-else-not-is_empty.ensures)))
