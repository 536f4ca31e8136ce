use Rattle.std.proofs.Common.{◌≡◌, ℕ, List, [], ◌∷◌, rules, sym, subst}
use Rattle.std.specs.Prelude.{nat_eq}
use Rattle.std.specs.List.{IsDistinct}
use Rattle.bal_choose.proofs.tests.those_with_the_most_garbage_are_taken.Goals as goal

pub are_taken-requires : goal.are_taken-requires
unfolding IsDistinct
are_taken-requires g c = subst (IsDistinct nat_eq) (sym regions) (search rules)
  where
    regions : ◌≡◌ {A = List ℕ} (c.row.result.region ∷ c.row-2.result.region ∷ c.row-3.result.region ∷ c.overflowed.result.region ∷ c.overflowed-2.result.region
        ∷ c.row-4.result.region ∷ c.row-5.result.region ∷ c.row-6.result.region ∷ c.row-7.result.region ∷ [])
        (9 ∷ 2 ∷ 7 ∷ 0 ∷ 4 ∷ 5 ∷ 3 ∷ 8 ∷ 1 ∷ [])
    regions = search rules
