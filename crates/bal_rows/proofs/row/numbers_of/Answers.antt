use Rattle.std.proofs.Common.{◌+◌, ◌<◌, ◌^◌, ◌∙◌, ap, sym, get_or, arith, rules, length-drop}
use Rattle.std.proofs.lemmas.List.{get_or-drop}
use Rattle.std.proofs.lemmas.List.Elements.{All-set}
use Rattle.csv.specs.Records.{fields_of}
use Rattle.csv.proofs.RecordFacts.{field-get, field-there}
use Rattle.bal_rows.proofs.RowFacts.{field-is, read_more}
use Rattle.bal_rows.proofs.row.numbers_of.Goals as goal

pub returns-in_err-get : goal.returns-in_err-get
returns-in_err-get c = absurd (field-there (fields_of c.args.raw.now) (c.loop-i.i + 1) (omega arith) (sym (rw c.in_err-get.was at c.get.ensures.value)))

pub returns-in_err-numbers : goal.returns-in_err-numbers
returns-in_err-numbers c =
    let fs = fields_of c.args.raw.now in
    let field = c.in_ok-get.field-0.now in
    let at = get_or-drop 1 fs c.loop-i.i field ∙ ap (λ k. get_or fs k field) (omega arith) ∙ field-is fs (c.loop-i.i + 1) field field (sym c.in_ok-get.ensures.value) in
    rw c.from_residual-in_err-numbers.ensures (c.loop-i.i, field, omega (arith, length-drop 1 fs), at, c.in_err-numbers.ensures)

pub loop-i-preserved : goal.loop-i-preserved
loop-i-preserved c =
    let field = field-get (fields_of c.args.raw.now) (c.loop-i.i + 1) c.in_ok-get.field-0.now (sym c.in_ok-get.ensures.value) in
    record {
      room = search rules;
      small = All-set (λ n. n < 2 ^ 64) c.loop-i.numbers c.loop-i.i c.in_ok-numbers.field-0 c.in_ok-numbers.ensures.0 c.loop-i.invariant.small;
      read = read_more (fields_of c.args.raw.now) c.loop-i.numbers c.loop-i.i c.in_ok-numbers.field-0 (omega arith) (omega arith) (field ∙ c.in_ok-numbers.ensures.1) c.loop-i.invariant.read;
    }
