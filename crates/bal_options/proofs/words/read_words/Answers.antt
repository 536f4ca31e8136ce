use Rattle.std.proofs.Common.{◌≡◌, ◌-◌, rules, codes, ap, drop, length, map, string_bytes, take, List, ℕ, Option, None, Some}
use Rattle.std.specs.Prelude.{IfSome, MatchOption}
use Rattle.bal_model.specs.Configs.{IsWithinLimits}
use Rattle.bal_model.specs.declared.config.Config.{Config}
use Rattle.bal_options.specs.CommandLine.{IsCommandLine}
use Rattle.bal_options.specs.Numbers.{number_in}
use Rattle.bal_options.proofs.LimitFacts.{within-limits}
use Rattle.bal_options.proofs.LineFacts.{line-config, line-unread}
use Rattle.bal_options.proofs.WordFacts.{first-word}
use Rattle.bal_options.proofs.words.read_words.Goals as goal

-- what the words give is within the limits
gives-within : (words : List (List ℕ)) (read : Option Config) → MatchOption read ((config : Config) → IsCommandLine words config → ⊥) (IsCommandLine words)
    → IfSome read IsWithinLimits
gives-within words None none = tt
gives-within words (Some config) is = within-limits words config is

pub returns-in_err-read_numbers-clause-read : goal.returns-in_err-read_numbers-clause-read
returns-in_err-read_numbers-clause-read c = rw c.from_residual.ensures (λ config is.
    let whole = ap (map string_bytes) (first-word c.args.words.now c.command-item.result c.in-len1-up.len_at_least c.command-item.is) in
    line-unread (string_bytes c.command-item.result) (map string_bytes (take (length c.args.words.now - 1) (drop 1 c.args.words.now))) config
    c.in_err-read_numbers.ensures (rw whole at is))

pub returns-clause-read : goal.returns-clause-read
returns-clause-read c =
    let whole = ap (map string_bytes) (first-word c.args.words.now c.command-item.result c.in-len1-up.len_at_least c.command-item.is) in
    let named : string_bytes c.command-item.result ≡ codes "replay" = search rules in
    line-config (map string_bytes c.args.words.now) (string_bytes c.command-item.result)
    (map string_bytes (take (length c.args.words.now - 1) (drop 1 c.args.words.now))) (number_in c.in_ok-read_numbers.field-0) whole named
    c.in_ok-read_numbers.ensures c.config.result c.config.ensures

pub returns-clause-within_limits : goal.returns-clause-within_limits
returns-clause-within_limits c =
    let whole = ap (map string_bytes) (first-word c.args.words.now c.command-item.result c.in-len1-up.len_at_least c.command-item.is) in
    let named : string_bytes c.command-item.result ≡ codes "replay" = search rules in
    gives-within (map string_bytes c.args.words.now) c.config.result
    (line-config (map string_bytes c.args.words.now) (string_bytes c.command-item.result)
    (map string_bytes (take (length c.args.words.now - 1) (drop 1 c.args.words.now))) (number_in c.in_ok-read_numbers.field-0) whole named
    c.in_ok-read_numbers.ensures c.config.result c.config.ensures)
