use Rattle.std.proofs.Common.{◌≡◌, ◌++◌, map}
use Rattle.std.specs.List.{range_with_len}
use Rattle.bal_model.proofs.plain.reach.push_names.Given as goal

-- so many of the names were appended
abbrev pub invariant-loop-before : goal.invariant-loop-before
invariant-loop-before l = l.names.list ≡ l.initial.names.list ++ map (λ o. record { thread = l.thread; ordinal = o }) (range_with_len 1 l.before)
