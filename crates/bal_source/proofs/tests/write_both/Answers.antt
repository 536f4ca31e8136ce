use Rattle.std.proofs.Common.{rules, [], ap, refl, sym, ◌∙◌}
use Rattle.bal_source.proofs.BufferFacts.{passes-none}
use Rattle.bal_source.proofs.tests.write_both.Goals as goal

pub returns : goal.returns
returns c =
    let fresh = c.make-text.ensures.fresh in
    let first = c.append.ensures c.make-text.result [] (refl, passes-none _ (ap (λ m. m.failed) fresh)) in
    let both = c.append-2.ensures c.make-text.result _ first in
    let name = sym c.make-text.ensures.same_sink ∙ sym both.0 in
    let all = (c.finish.ensures _ _ both.1).all in
    search (rules, name, all, ap (λ m. m.held) fresh, ap (λ m. m.waiting) fresh)
