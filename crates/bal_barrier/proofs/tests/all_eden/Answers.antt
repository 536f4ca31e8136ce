use Rattle.std.proofs.Common.{◌≡◌, ℕ, set, Option, Some, None, ap, subst, sym}
use Rattle.std.specs.Prelude.{MatchOption}
use Rattle.bal_layout.specs.Regions.{region_at}
use Rattle.bal_layout.specs.Shape.{Shape}
use Rattle.bal_layout.specs.declared.region_state.Role.{Role}
use Rattle.bal_table.specs.Changes.{with_role}
use Rattle.bal_table.specs.Table.{Table}
use Rattle.bal_barrier.specs.Flush.{LeadToObjects}
use Rattle.bal_barrier.proofs.Targets.{lead-empty, lead-states}
use Rattle.bal_barrier.proofs.tests.all_eden.Goals as goal

abbrev Keeps : Shape → Table → Type 0
Keeps g t = (t.shape ≡ g) × LeadToObjects t

taken : (g : Shape) (t u : Table) (o : Option ℕ) (role : Role) → MatchOption o (u ≡ t) (λ q. u ≡ with_role t q role) → Keeps g t → Keeps g u
taken g t u None role h keeps = subst (Keeps g) (sym h) keeps
taken g t u (Some q) role h keeps =
    subst (Keeps g) (sym h) (keeps.0, lead-states t (set t.regions q (record (region_at t.regions q) { role = role })) t.current keeps.1)

pub loop-init : goal.loop-init
loop-init c = (ap (λ (t : Table). t.shape) c.in_ok-table.ensures, subst LeadToObjects (sym c.in_ok-table.ensures) (lead-empty c.args.geometry c.regions-end.ensures.limits))

pub loop-preserved : goal.loop-preserved
loop-preserved c = taken c.args.geometry c.loop.table c.take_free.new.self c.take_free.result _ c.take_free.ensures.table c.loop.invariant
