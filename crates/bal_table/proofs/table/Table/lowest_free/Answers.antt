use Rattle.std.proofs.Common.{◌<◌, ◌≤◌, ◌∙◌, ap, arith, length, sym}
use Rattle.std.specs.Prelude.{slice_get}
use Rattle.bal_layout.specs.Regions.{free_regions}
use Rattle.bal_table.specs.Table.{Table}
use Rattle.bal_table.proofs.Roles.{lowest-first, lowest-none}
use Rattle.bal_table.proofs.table.Table.lowest_free.Goals as goal

pub returns-then-self-len-clause-lowest : goal.returns-then-self-len-clause-lowest
returns-then-self-len-clause-lowest c =
    let a = c.self.inside in
    let past : length a.states.items ≤ a.lowest = omega (arith, a.states.ok.0) in
    sym (lowest-none a.states.items a.lowest c.self.invariant.counts.lowest past) ∙ ap (λ (t : Table). slice_get (free_regions t.regions) 0) c.self.view_is

pub returns-clause-lowest : goal.returns-clause-lowest
returns-clause-lowest c =
    let a = c.self.inside in
    let less : a.lowest < length a.states.items = omega (arith, a.states.ok.0) in
    sym (lowest-first a.states.items a.lowest c.self.invariant.counts.lowest less) ∙ ap (λ (t : Table). slice_get (free_regions t.regions) 0) c.self.view_is
