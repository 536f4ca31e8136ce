use Rattle.std.proofs.Common.{rules, [], ap, refl, sym, ◌∙◌}
use Rattle.bal_source.proofs.Lemmas.{passes-none}
use Rattle.bal_replay.proofs.run.write_through.Goals as goal

pub returns : goal.returns
returns g c =
    let fresh = c.make-text.ensures.fresh in
    let told = c.write_text.ensures c.make-text.result [] (refl, passes-none _ (ap (λ m. m.failed) fresh)) in
    let name = sym c.make-text.ensures.same_sink ∙ sym told.0 in
    let delivered = c.finish.ensures _ _ told.1 in
    record {
      all = search (rules, name, delivered.all, ap (λ m. m.held) fresh, ap (λ m. m.waiting) fresh);
      front = search (rules, name, delivered.front, ap (λ m. m.held) fresh, ap (λ m. m.waiting) fresh);
      cause = search (rules, name, delivered.cause, ap (λ m. m.faults) fresh);
    }
