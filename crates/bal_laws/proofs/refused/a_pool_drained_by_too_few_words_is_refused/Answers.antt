use Rattle.std.proofs.Common.{refl}
use Rattle.bal_laws.specs.Refused.{a_pool_drained_by_too_few_words}
use Rattle.bal_laws.proofs.RefusalTests.{refused-there}
use Rattle.bal_laws.proofs.refused.a_pool_drained_by_too_few_words_is_refused.Goals as goal

pub returns : goal.returns
returns c = refused-there a_pool_drained_by_too_few_words refl refl
