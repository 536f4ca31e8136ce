use Rattle.std.proofs.Common.{◌≡◌, ◌≤◌, ◌/◌, arith, rules, Some, None, sym, ◌∙◌, true, false}
use Rattle.bal_options.specs.Numbers.{number_in}
use Rattle.bal_options.specs.declared.setting.Setting.TheVariants as setting
use Rattle.bal_options.proofs.ConfigFacts.{between, no-fault}
use Rattle.bal_options.proofs.numbers.Numbers.config.Goals as goal

pub returns-then-not-are_in_range : goal.returns-then-not-are_in_range
returns-then-not-are_in_range c = λ is.
    let all = c.are_in_range.ensures.1 (rw c.unwrap_or-regions.ensures is.in_range) in
    let clash : true ≡ false = sym all ∙ c.if-not-are_in_range.true in
    cc

pub returns-in_default : goal.returns-in_default
returns-in_default c = λ is.
    let some = rw (c.unwrap_or-regions.ensures, c.unwrap_or.ensures) at c.in_default.ensures in
    let clash : None ≡ Some c.in_default.field-0 = sym (no-fault (number_in c.args.self.now) is) ∙ some in
    cc

pub overflow_cast-result : goal.overflow_cast-result
overflow_cast-result c =
    let small = between c.args.self.now.regions 4 2047 64 0 2047 (c.are_in_range.ensures.0 c.if-not-are_in_range.false setting.Regions) (omega arith) (omega arith) (omega arith) (omega arith) in
    let regions : c.unwrap_or-regions.result ≤ 2047 = omega (arith, c.unwrap_or-regions.ensures, small.1) in
    let least : c.min.result ≤ 2047 = search rules in
    let is = between c.args.self.now.eden 1 (c.unwrap_or-regions.result / 2) c.min.result 0 2047 (c.are_in_range.ensures.0 c.if-not-are_in_range.false setting.Eden) (omega arith) (omega arith) (omega arith) least in
    omega (arith, c.unwrap_or-2.ensures, is.1)

pub overflow_cast-result-2 : goal.overflow_cast-result-2
overflow_cast-result-2 c =
    let is = between c.args.self.now.older 0 64 2 0 64 (c.are_in_range.ensures.0 c.if-not-are_in_range.false setting.Older) (omega arith) (omega arith) (omega arith) (omega arith) in
    omega (arith, c.unwrap_or-3.ensures, is.1)

pub overflow_cast-result-3 : goal.overflow_cast-result-3
overflow_cast-result-3 c =
    let is = between c.args.self.now.cards 1 1024 64 0 1024 (c.are_in_range.ensures.0 c.if-not-are_in_range.false setting.Cards) (omega arith) (omega arith) (omega arith) (omega arith) in
    omega (arith, c.unwrap_or-4.ensures, is.1)

pub overflow_cast-result-4 : goal.overflow_cast-result-4
overflow_cast-result-4 c =
    let is = between c.args.self.now.workers 1 32 4 0 32 (c.are_in_range.ensures.0 c.if-not-are_in_range.false setting.Workers) (omega arith) (omega arith) (omega arith) (omega arith) in
    omega (arith, c.unwrap_or-5.ensures, is.1)

pub overflow_cast-result-5 : goal.overflow_cast-result-5
overflow_cast-result-5 c =
    let is = between c.args.self.now.mark_every 1 1000 4 0 1000 (c.are_in_range.ensures.0 c.if-not-are_in_range.false setting.MarkEvery) (omega arith) (omega arith) (omega arith) (omega arith) in
    omega (arith, c.unwrap_or-6.ensures, is.1)

pub overflow_cast-result-6 : goal.overflow_cast-result-6
overflow_cast-result-6 c =
    let is = between c.args.self.now.mark_step 1 1000000 256 0 1000000 (c.are_in_range.ensures.0 c.if-not-are_in_range.false setting.MarkStep) (omega arith) (omega arith) (omega arith) (omega arith) in
    omega (arith, c.unwrap_or-7.ensures, is.1)
