use Rattle.bal_text.proofs.NumberFacts.{told_value}
use Rattle.bal_text.proofs.reader.pieces.value_at.Goals as goal

pub returns : goal.returns
returns c = told_value (λ rest. rest.now) c.args.text.now c.leading_number.result c.leading_number.ensures
