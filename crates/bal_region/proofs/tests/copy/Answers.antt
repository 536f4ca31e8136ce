use Rattle.std.proofs.Common.{◌∙◌, subst, sym, ℕ}
use Rattle.bal_region.specs.Land.{IsObject}
use Rattle.bal_region.proofs.tests.copy.Goals as goal

pub place-requires-clause-object : goal.place-requires-clause-object
place-requires-clause-object c =
    subst (λ (n : ℕ). IsObject n c.in_ok-words.words.now) (sym c.words.ensures.number ∙ (c.if-words.false ∙ c.words-2.ensures.number)) c.in_ok-words.ensures
