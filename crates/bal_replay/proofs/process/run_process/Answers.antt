use Rattle.std.specs.IoError.{error_kind}
use Rattle.bal_replay.specs.Statuses.{status_without_words}
use Rattle.bal_replay.proofs.ReplayFacts.{no-refusal}
use Rattle.bal_replay.proofs.process.run_process.Goals as goal

pub returns-in-Ok-clause-no_words : goal.returns-in-Ok-clause-no_words
returns-in-Ok-clause-no_words g c = no-refusal c.in-Ok.words c.args.arguments (λ why. status_without_words (error_kind why)) _ c.in-Ok.ensures.refused
