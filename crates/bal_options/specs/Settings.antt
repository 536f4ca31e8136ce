-- The options of the command line: what each is called, and which numbers it takes.
use Rattle.std.specs.Prelude.{ℕ, ◌≤◌, ◌/◌, Bool, true, false, List, codes}
use Rattle.bal_options.specs.declared.setting.Setting.{Setting}
use Rattle.bal_options.specs.declared.setting.Setting.TheVariants as setting

-- the word that names an option
abbrev pub name_of : Setting → List ℕ
name_of setting.Regions = codes "--regions"
name_of setting.Words = codes "--words"
name_of setting.Eden = codes "--eden"
name_of setting.Older = codes "--older"
name_of setting.Cards = codes "--cards"
name_of setting.Workers = codes "--workers"
name_of setting.MarkEvery = codes "--mark-every"
name_of setting.MarkStep = codes "--mark-step"
name_of setting.AbortAfter = codes "--abort-after"

-- the least number that an option takes
abbrev pub least_of : Setting → ℕ
least_of setting.Regions = 4
least_of setting.Words = 256
least_of setting.Eden = 1
least_of setting.Older = 0
least_of setting.Cards = 1
least_of setting.Workers = 1
least_of setting.MarkEvery = 1
least_of setting.MarkStep = 1
least_of setting.AbortAfter = 0

-- the greatest, in a heap of so many regions, of which at most half are eden
abbrev pub most_of : ℕ → Setting → ℕ
most_of regions setting.Regions = 2047
most_of regions setting.Words = 65536
most_of regions setting.Eden = regions / 2
most_of regions setting.Older = 64
most_of regions setting.Cards = 1024
most_of regions setting.Workers = 32
most_of regions setting.MarkEvery = 1000
most_of regions setting.MarkStep = 1000000
most_of regions setting.AbortAfter = 1000000

-- the option takes the number, in a heap of so many regions
abbrev pub IsInRange : ℕ → Setting → ℕ → Type 0
IsInRange regions s n = (least_of s ≤ n) × (n ≤ most_of regions s)

-- whether two options are one
abbrev pub is_same : Setting → Setting → Bool
is_same setting.Regions setting.Regions = true
is_same setting.Words setting.Words = true
is_same setting.Eden setting.Eden = true
is_same setting.Older setting.Older = true
is_same setting.Cards setting.Cards = true
is_same setting.Workers setting.Workers = true
is_same setting.MarkEvery setting.MarkEvery = true
is_same setting.MarkStep setting.MarkStep = true
is_same setting.AbortAfter setting.AbortAfter = true
is_same s t = false
