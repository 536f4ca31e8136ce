use Rattle.std.proofs.Common.{arith, IfSome, refl}
use Rattle.bal_options.specs.Numbers.{number_in}
use Rattle.bal_options.specs.Settings.{IsInRange}
use Rattle.bal_options.proofs.SettingFacts.{of_each}
use Rattle.bal_options.proofs.numbers.Numbers.are_in_range.Goals as goal

pub returns : goal.returns
returns c = (
  λ _. of_each (λ s. IfSome (number_in c.args.self.now s) (IsInRange c.args.regions s)) (λ k d below. c.loop-setting.invariant k d (omega arith)),
  λ _. refl,
)
