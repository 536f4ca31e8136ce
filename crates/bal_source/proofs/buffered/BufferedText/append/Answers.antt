use Rattle.std.proofs.Common.{◌∙◌}
use Rattle.bal_source.proofs.BufferFacts.{passed-on}
use Rattle.bal_source.proofs.buffered.BufferedText.append.Goals as goal

pub returns-else-fits : goal.returns-else-fits
returns-else-fits g c = λ from text told.
    let passed = c.pass_on.ensures in
    (passed.same_sink ∙ told.0, passed-on _ _ _ _ _ c.pass_on.result told.1 c.if-self.false passed.all passed.front passed.cause c.is_err-self.ensures.value)
