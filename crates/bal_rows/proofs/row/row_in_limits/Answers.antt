use Rattle.std.proofs.Common.{refl, sym, arith}
use Rattle.bal_rows.specs.Words.{row_from}
use Rattle.bal_rows.proofs.LimitFacts.{broken-op, broken-thread, row-within}
use Rattle.bal_rows.proofs.RowFacts.{IsSmall-row_from}
use Rattle.bal_rows.proofs.row.row_in_limits.Goals as goal

pub returns-then-thread-from : goal.returns-then-thread-from
returns-then-thread-from c = broken-thread c.args.geometry.now (row_from c.args.word c.args.thread c.args.first c.args.second c.args.third) (omega arith)

pub returns-in-Some : goal.returns-in-Some
returns-in-Some c =
    let s = c.args.geometry.now in
    broken-op s (row_from c.args.word c.args.thread c.args.first c.args.second c.args.third) c.in-Some.limit (omega arith)
    (sym (c.in-Some.ensures s (sym c.largest.ensures)))

pub op_of-requires : goal.op_of-requires
op_of-requires c =
    let s = c.args.geometry.now in
    let numbers = IsSmall-row_from c.args.word c.args.thread c.args.first c.args.second c.args.third (omega arith) (omega arith) (omega arith) (omega arith) in
    let row = row-within s (row_from c.args.word c.args.thread c.args.first c.args.second c.args.third) numbers.1 (omega arith)
    (sym (c.in_default.ensures s (sym c.largest.ensures))) in
    (s, omega (arith, c.largest.ensures), row.in_range.1)

pub returns : goal.returns
returns c =
    let s = c.args.geometry.now in
    let numbers = IsSmall-row_from c.args.word c.args.thread c.args.first c.args.second c.args.third (omega arith) (omega arith) (omega arith) (omega arith) in
    let row = row-within s (row_from c.args.word c.args.thread c.args.first c.args.second c.args.third) numbers.1 (omega arith)
    (sym (c.in_default.ensures s (sym c.largest.ensures))) in
    rw c.op_of.ensures (row, refl)
