-- What the causes are called in a message.
use Rattle.std.specs.Prelude.{ℕ, List, codes}
use Rattle.bal_rows.specs.declared.cause.RowCause.{RowCause}
use Rattle.bal_rows.specs.declared.cause.RowCause.TheVariants as cause

abbrev pub text_of : RowCause → List ℕ
text_of cause.TooManyRows = codes "too many rows"
text_of cause.Word = codes "bad word"
text_of cause.Fields = codes "bad number of fields"
text_of cause.Number = codes "bad number"
text_of cause.Thread = codes "bad thread"
text_of cause.Register = codes "bad register"
text_of cause.Global = codes "bad global"
text_of cause.Slot = codes "bad slot"
text_of cause.TooBig = codes "too big"
