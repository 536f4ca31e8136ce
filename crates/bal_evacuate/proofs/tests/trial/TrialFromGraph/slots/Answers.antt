use Rattle.std.proofs.Common.{◌<◌, ℕ, List, None, ap, arith, length, sym}
use Rattle.std.specs.Prelude.{Option}
use Rattle.std.proofs.lemmas.List.{length-replicate}
use Rattle.std.proofs.lemmas.Option.{slice_get-get_or}
use Rattle.bal_evacuate.proofs.Trials.{slots-at}
use Rattle.bal_evacuate.proofs.tests.trial.TrialFromGraph.slots.Goals as goal

pub returns : goal.returns
returns c =
    let t = c.args.self.now in
    let less : c.args._object < length t.slots.items = omega (arith, c.requires, length-replicate t.count t.age, t.counted) in
    sym (ap (λ (l : List (Option ℕ)). length l)
    (slots-at t.count t.slots.items c.args._object _ (slice_get-get_or t.slots.items c.args._object (None, None) less)))
