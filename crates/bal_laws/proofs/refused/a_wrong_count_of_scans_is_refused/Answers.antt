use Rattle.std.proofs.Common.{refl}
use Rattle.bal_laws.specs.Refused.{a_wrong_count_of_scans}
use Rattle.bal_laws.proofs.RefusalTests.{refused-there}
use Rattle.bal_laws.proofs.refused.a_wrong_count_of_scans_is_refused.Goals as goal

pub returns : goal.returns
returns c = refused-there a_wrong_count_of_scans refl refl
