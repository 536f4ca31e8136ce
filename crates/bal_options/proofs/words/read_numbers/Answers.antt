use Rattle.std.proofs.Common.{map, string_bytes, sym, ◌∙◌}
use Rattle.bal_options.specs.CommandLine.{Given}
use Rattle.bal_options.specs.Numbers.{number_in}
use Rattle.bal_options.proofs.ReadFacts.{free-where, read-more, read-stuck, read-twice, some-left, taken-where}
use Rattle.bal_options.proofs.words.read_numbers.Goals as goal

pub returns-in_err-setting : goal.returns-in_err-setting
returns-in_err-setting c = rw c.from_residual.ensures (λ given is.
    read-stuck (map string_bytes c.args.words.now) (map string_bytes c.loop-left.left.now) (number_in c.loop-left.numbers) given c.loop-left.invariant
    (some-left c.loop-left.left.now c.is_empty.result c.is_empty.ensures c.loop-left-test.true) c.in_err-setting.ensures is)

pub returns-then-is_some : goal.returns-then-is_some
returns-then-is_some c = λ given is.
    let g : Given = record { setting = c.in_ok-setting.field-0.setting; number = c.in_ok-setting.field-0.number; in_one_word = c.in_ok-setting.ensures.1.0 } in
    read-twice (map string_bytes c.args.words.now) (map string_bytes c.loop-left.left.now) (number_in c.loop-left.numbers) given g
    (map string_bytes c.in_ok-setting.field-0.rest.now) c.loop-left.invariant
    (some-left c.loop-left.left.now c.is_empty.result c.is_empty.ensures c.loop-left-test.true) c.in_ok-setting.ensures.1.1 c.in_ok-setting.ensures.0
    (λ none. taken-where c.get.result c.is_some.result c.is_some.ensures c.if-is_some.true (c.get.ensures ∙ none)) is

pub loop-left-preserved : goal.loop-left-preserved
loop-left-preserved c =
    let g : Given = record { setting = c.in_ok-setting.field-0.setting; number = c.in_ok-setting.field-0.number; in_one_word = c.in_ok-setting.ensures.1.0 } in
    rw c.set.ensures (read-more (map string_bytes c.args.words.now) (map string_bytes c.loop-left.left.now) (map string_bytes c.in_ok-setting.field-0.rest.now)
    c.loop-left.numbers g c.loop-left.invariant c.in_ok-setting.ensures.1.1 c.in_ok-setting.ensures.0
    (sym c.get.ensures ∙ free-where c.get.result c.is_some.result c.is_some.ensures c.if-is_some.false))
