use Rattle.std.proofs.Common.{◌≡◌, ◌∙◌, ap, sym, List, ℕ, Result, Ok, Err, Some, arith, length-drop}
use Rattle.std.specs.Prelude.{MatchResult}
use Rattle.csv.specs.Records.{fields_of}
use Rattle.csv.proofs.RecordFacts.{field-get, field-there}
use Rattle.bal_layout.specs.Shape.{Shape}
use Rattle.bal_model.specs.declared.row.Row.{Row}
use Rattle.bal_model.specs.Spelling.{fields, word_of}
use Rattle.bal_model.specs.Built.{IsTraceRow}
use Rattle.bal_rows.specs.Causes.{HasCause, Spells, broken_by}
use Rattle.bal_rows.specs.Words.{op_from}
use Rattle.bal_rows.specs.declared.cause.RowCause.{RowCause}
use Rattle.bal_rows.proofs.LimitFacts.{limit-cause}
use Rattle.bal_rows.proofs.RowFacts.{begins, count-from, field-some, first-word, is-read, row_read, spells-read}
use Rattle.bal_rows.proofs.row.row_of.Goals as goal

-- the row that the record spells, or the limit that this row breaks
within-limits : (s : Shape) (cells : List (List ℕ)) (spelled : Row) (result : Result Row RowCause) → Spells cells spelled
    → MatchResult result (λ r. IsTraceRow s r × (r ≡ spelled)) (λ limit. broken_by s spelled ≡ Some limit)
    → MatchResult result (λ r. IsTraceRow s r × (cells ≡ fields r)) (HasCause s cells)
within-limits s cells spelled (Ok r) spells row = (row.0, spells.spelled ∙ ap fields (sym row.1))
within-limits s cells spelled (Err limit) spells broken = limit-cause s cells spelled limit spells broken

pub returns-in_default : goal.returns-in_default
returns-in_default c = λ o b.
    field-there (fields_of c.args.raw.now) 0 (first-word (fields_of c.args.raw.now) o b).0 (sym c.in_default.ensures.value)

pub returns-in_default-word_of : goal.returns-in_default-word_of
returns-in_default-word_of c = λ o b.
    let field = field-get (fields_of c.args.raw.now) 0 c.in-Some.field.now (sym c.in-Some.ensures.value) in
    c.in_default-word_of.ensures (word_of o) (sym field ∙ (first-word (fields_of c.args.raw.now) o b).1)

pub returns-then-len-count : goal.returns-then-len-count
returns-then-len-count c =
    let fs = fields_of c.args.raw.now in
    let word = c.in-Some-word_of.word in
    let field = field-get fs 0 c.in-Some.field.now (sym c.in-Some.ensures.value) in
    let some = field-some fs c.in-Some.field.now (sym c.in-Some.ensures.value) in
    (op_from word 0 0 0, begins fs word some (field ∙ c.in-Some-word_of.ensures), λ e. c.if-len-count.true (omega (arith, e, length-drop 1 fs, count-from word 0 0 0)))

pub returns-in_default-numbers_of : goal.returns-in_default-numbers_of
returns-in_default-numbers_of c =
    let fs = fields_of c.args.raw.now in
    let word = c.in-Some-word_of.word in
    let field = field-get fs 0 c.in-Some.field.now (sym c.in-Some.ensures.value) in
    let some = field-some fs c.in-Some.field.now (sym c.in-Some.ensures.value) in
    (op_from word 0 0 0, begins fs word some (field ∙ c.in-Some-word_of.ensures), omega (arith, length-drop 1 fs, count-from word 0 0 0), c.in_default-numbers_of.ensures)

pub returns : goal.returns
returns c =
    let fs = fields_of c.args.raw.now in
    let word = c.in-Some-word_of.word in
    let numbers = c.in-Some-numbers_of.numbers in
    let read = is-read fs c.in-Some.field.now word numbers c.number_count-count.result (sym c.in-Some.ensures.value) c.in-Some-word_of.ensures c.number_count-count.ensures c.in-Some-numbers_of.ensures in
    within-limits c.args.geometry.now fs (row_read word numbers) c.row_in_limits.result (spells-read fs word numbers read) c.row_in_limits.ensures
