-- The lowest free region is the first of the free ones.
use Rattle.std.proofs.Common.{◌≡◌, ℕ, zero, suc, ◌+◌, ◌<◌, true, false, List, [], ◌∷◌, length, Some, ap, ◌∙◌, arith}
use Rattle.std.specs.Prelude.{slice_get}
use Rattle.bal_base.specs.Numbering.{numbers_from}
use Rattle.bal_layout.specs.Regions.{free_regions, is_free, region_at}
use Rattle.bal_layout.specs.declared.region_state.RegionState.{RegionState}

-- those are numbered from a number on
numbers-first : (n : ℕ) (rs : List RegionState) (q : ℕ) → q < length rs → ((p : ℕ) → p < q → is_free (region_at rs p).role ≡ false)
    → is_free (region_at rs q).role ≡ true → slice_get (numbers_from n (λ (r : RegionState). is_free r.role) rs) 0 ≡ Some (n + q)
numbers-first n [] q within none free = absurd (omega (arith, within))
numbers-first n (r ∷ rs) zero within none free = rw free (ap Some (omega arith))
numbers-first n (r ∷ rs) (suc q) within none free =
    rw (none 0 (omega arith))
    (numbers-first (n + 1) rs q (omega (arith, within)) (λ p less. none (suc p) (omega (arith, less))) free ∙ ap Some (omega arith))

pub lowest-is : (rs : List RegionState) (q : ℕ) → q < length rs → ((p : ℕ) → p < q → is_free (region_at rs p).role ≡ false)
    → is_free (region_at rs q).role ≡ true → slice_get (free_regions rs) 0 ≡ Some q
lowest-is rs q within none free = numbers-first 0 rs q within none free ∙ ap Some (omega arith)
