use Rattle.bal_text.proofs.Readings.{behind_other, behind_same, behind_short}
use Rattle.bal_text.proofs.reader.pieces.behind.Goals as goal

pub returns-then-text-bytes : goal.returns-then-text-bytes
returns-then-text-bytes c = behind_short c.args.bytes.now c.args.text.now c.if-text-bytes.true

pub returns-then-text-at : goal.returns-then-text-at
returns-then-text-at c = behind_other c.args.bytes.now c.args.text.now c.loop-at.at c.loop-at-test.true c.if-text-at.true

pub returns : goal.returns
returns c = behind_same c.args.bytes.now c.args.text.now c.loop-at.at c.loop-at-test.false c.loop-at.auto.at-end c.loop-at.invariant
