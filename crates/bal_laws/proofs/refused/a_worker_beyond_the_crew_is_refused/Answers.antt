use Rattle.std.proofs.Common.{refl}
use Rattle.bal_laws.specs.Refused.{a_worker_beyond_the_crew}
use Rattle.bal_laws.proofs.RefusalTests.{refused-there}
use Rattle.bal_laws.proofs.refused.a_worker_beyond_the_crew_is_refused.Goals as goal

pub returns : goal.returns
returns c = refused-there a_worker_beyond_the_crew refl refl
