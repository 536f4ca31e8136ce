use Rattle.std.proofs.Common.{refl}
use Rattle.bal_laws.specs.Refused.{a_worker_beyond_the_crew_of_two_ages}
use Rattle.bal_laws.proofs.RefusalTests.{refused-there}
use Rattle.bal_laws.proofs.refused.a_worker_beyond_the_crew_of_two_ages_is_refused.Goals as goal

pub returns : goal.returns
returns c = refused-there a_worker_beyond_the_crew_of_two_ages refl refl
