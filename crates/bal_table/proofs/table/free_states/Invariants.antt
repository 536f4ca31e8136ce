use Rattle.std.proofs.Common.{◌≡◌, replicate}
use Rattle.bal_layout.specs.Regions.{free_region}
use Rattle.bal_table.proofs.table.free_states.Given as goal

-- so many free regions so far
abbrev pub invariant-loop : goal.invariant-loop
invariant-loop l = l.states.items ≡ replicate l.counter free_region
