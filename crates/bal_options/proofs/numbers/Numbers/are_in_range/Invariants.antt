use Rattle.std.proofs.Common.{ℕ, ◌<◌, get_or, IfSome}
use Rattle.bal_options.specs.Numbers.{number_in}
use Rattle.bal_options.specs.Settings.{IsInRange}
use Rattle.bal_options.specs.declared.setting.Setting.{Setting}
use Rattle.bal_options.proofs.numbers.Numbers.are_in_range.Given as goal

-- so many options are in range
abbrev pub invariant-loop-setting : goal.invariant-loop-setting
invariant-loop-setting l = (k : ℕ) (d : Setting) → k < l.setting-index
    → IfSome (number_in l.self (get_or l.setting-items k d)) (IsInRange l.regions (get_or l.setting-items k d))
