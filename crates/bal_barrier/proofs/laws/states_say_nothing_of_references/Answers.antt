use Rattle.std.proofs.Common.{refl}
use Rattle.bal_layout.specs.Regions.{region_at}
use Rattle.bal_barrier.proofs.Covering.{covered-region, covered-states}
use Rattle.bal_barrier.proofs.Targets.{lead-states}
use Rattle.bal_barrier.proofs.laws.states_say_nothing_of_references.Goals as goal

pub returns-clause-found : goal.returns-clause-found
returns-clause-found c = lead-states

pub returns-clause-role : goal.returns-clause-role
returns-clause-role c = λ t d q role. covered-region t d q (record (region_at t.regions q) { role = role }) refl

pub returns-clause-estimate : goal.returns-clause-estimate
returns-clause-estimate c = λ t d q words. covered-region t d q (record (region_at t.regions q) { estimate = words }) refl

pub returns-clause-current : goal.returns-clause-current
returns-clause-current c = λ t d q. covered-states t d t.regions q (λ k card h. h)
