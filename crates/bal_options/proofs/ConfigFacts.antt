-- The numbers that give a configuration.
use Rattle.std.proofs.Common.{◌≡◌, ◌≤◌, ◌*◌, ◌^◌, ℕ, Option, Some, None, IfSome, arith}
use Rattle.std.specs.Prelude.{unwrap_or, IsTrue}
use Rattle.std.proofs.lemmas.Bool.Decides.{nat_tests}
use Rattle.bal_layout.specs.Shape.{is_region_size}
use Rattle.bal_layout.specs.Geometry.{fault_of}
use Rattle.bal_options.specs.Numbers.{AreAllowed, shape_of}
use Rattle.bal_options.specs.declared.setting.Setting.{Setting}
use Rattle.bal_options.specs.declared.setting.Setting.TheVariants as setting

-- a number in range, or its default, is between what both are between
pub between : (given : Option ℕ) (least most default low high : ℕ) → IfSome given (λ n. (least ≤ n) × (n ≤ most))
    → low ≤ least → low ≤ default → most ≤ high → default ≤ high → (low ≤ unwrap_or given default) × (unwrap_or given default ≤ high)
between None least most default low high is a b c d = (b, d)
between (Some n) least most default low high is a b c d = (omega (arith, is.0), omega (arith, is.1))

-- a heap within the limits has no fault
fault-none : (regions words : ℕ) → (4 ≤ regions) × (regions ≤ 2047) → (256 ≤ words) × (words ≤ 65536) → IsTrue (is_region_size words)
    → regions * words ≤ 2 ^ 24 → fault_of regions words ≡ None
fault-none regions words r w power all = grind (arith, nat_tests, r, w)

-- the heap of numbers that are allowed is one that there is
pub no-fault : (given : Setting → Option ℕ) → AreAllowed given → fault_of (shape_of given).regions (shape_of given).words ≡ None
no-fault given is =
    fault-none (shape_of given).regions (shape_of given).words
    (between (given setting.Regions) 4 2047 64 4 2047 (is.in_range setting.Regions) (omega arith) (omega arith) (omega arith) (omega arith))
    (between (given setting.Words) 256 65536 1024 256 65536 (is.in_range setting.Words) (omega arith) (omega arith) (omega arith) (omega arith))
    is.power_of_two is.words_in_all
