use Rattle.std.proofs.Common.{[], false, refl, ◌∙◌}
use Rattle.std.proofs.lemmas.Result.{MatchResult-weaker}
use Rattle.bal_text.proofs.writer.render.Goals as goal

pub returns : goal.returns
returns c =
    let told = rw c.in_ok-text.ensures at c.write_text.ensures in
    let whole = told (record { text = []; refused = false }) [] (λ _. refl) in
    MatchResult-weaker c.finish.result c.finish.ensures (λ _ arrived. arrived.1 ∙ whole arrived.0) (λ _ _. tt)
