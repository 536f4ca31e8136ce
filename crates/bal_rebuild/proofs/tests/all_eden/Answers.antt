use Rattle.std.proofs.Common.{◌≡◌, ℕ, List, set, Option, Some, None, ap, subst, sym}
use Rattle.std.specs.Prelude.{MatchOption}
use Rattle.bal_layout.specs.Regions.{region_at}
use Rattle.bal_layout.specs.Shape.{Shape}
use Rattle.bal_layout.specs.declared.region_state.RegionState.{RegionState}
use Rattle.bal_layout.specs.declared.region_state.Role.{Role}
use Rattle.bal_table.specs.Changes.{with_role}
use Rattle.bal_table.specs.Table.{Table}
use Rattle.bal_barrier.specs.Flush.{LeadToObjects}
use Rattle.bal_rebuild.proofs.tests.all_eden.Goals as goal

abbrev Keeps : Shape → Table → Type 0
Keeps g t = (t.shape ≡ g) × LeadToObjects t

-- what regions are used for says nothing of references
abbrev SaysNothing : Type 0
SaysNothing = (t : Table) (regions : List RegionState) (current : Option ℕ) → LeadToObjects t → LeadToObjects (record t { regions = regions; current = current })

taken : SaysNothing → (g : Shape) (t u : Table) (o : Option ℕ) (role : Role) → MatchOption o (u ≡ t) (λ q. u ≡ with_role t q role) → Keeps g t → Keeps g u
taken states g t u None role h keeps = subst (Keeps g) (sym h) keeps
taken states g t u (Some q) role h keeps =
    subst (Keeps g) (sym h) (keeps.0, states t (set t.regions q (record (region_at t.regions q) { role = role })) t.current keeps.1)

pub loop-init : goal.loop-init
loop-init c = (
  ap (λ (t : Table). t.shape) c.in_ok-table.ensures,
  subst LeadToObjects (sym c.in_ok-table.ensures) (c.a_new_table_is_covered.ensures.found c.args.geometry c.regions-end.ensures.limits),
)

pub loop-preserved : goal.loop-preserved
loop-preserved c =
    taken c.states_say_nothing_of_references.ensures.found c.args.geometry c.loop.table c.take_free.new.self c.take_free.result _ c.take_free.ensures.table c.loop.invariant
