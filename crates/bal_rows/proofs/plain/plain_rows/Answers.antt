use Rattle.std.proofs.Common.{◌≢◌, ◌<◌, ◌∷◌, ◌++◌, ◌∙◌, get_or, [], ap, length, map, refl, arith, length-append}
use Rattle.std.proofs.lemmas.Bool.Decides.{nat_tests}
use Rattle.csv.specs.Reading.{Reached, default_config, strip_bom}
use Rattle.csv.specs.declared.parser.State.TheVariants as st
use Rattle.csv.proofs.ReadFacts.{reached-more}
use Rattle.bal_model.specs.Spelling.{fields}
use Rattle.bal_rows.proofs.PlainFacts.{line-read, no-mark, no-more}
use Rattle.bal_rows.proofs.TraceFacts.{all_rows, reads_more}
use Rattle.bal_rows.proofs.plain.plain_rows.Goals as goal
use Rattle.bal_rows.proofs.plain.plain_rows.Goals.{else-not-is_empty-via-then-not-is_empty+else-bytes, else-not-is_empty-via-else-not-is_empty}

pub loop-rest-init : goal.loop-rest-init
unfolding Reached
loop-rest-init c =
    let other : 0 < length c.args.bytes.now → get_or c.args.bytes.now 0 0 ≢ 239 = λ some mark. elim c.else-not-is_empty.branch [
      | else-not-is_empty-via-then-not-is_empty+else-bytes w ↦ w.if-bytes.false mark
      | else-not-is_empty-via-else-not-is_empty w ↦ grind (arith, nat_tests, w.if-not-is_empty.false, c.is_empty.ensures, some)
    ] in
    rw c.in_ok-rows.ensures (record {
      reached = (refl, no-mark c.args.bytes.now other);
      each_row = tt;
      few = omega arith;
    })

pub loop-rest-smaller : goal.loop-rest-smaller
loop-rest-smaller c =
    let rows = c.push.ensures.list ∙ ap (λ l. l ++ c.in-Some.row ∷ []) c.in_ok-reserve.ensures.list in
    omega (arith, c.if-len.false, c.len.ensures, ap length rows, length-append c.loop-rest.rows.list (c.in-Some.row ∷ []))

pub loop-rest-preserved : goal.loop-rest-preserved
loop-rest-preserved c =
    let read = c.loop-rest.invariant in
    let row = c.in-Some.ensures in
    let rows = c.push.ensures.list ∙ ap (λ l. l ++ c.in-Some.row ∷ []) c.in_ok-reserve.ensures.list in
    let more = reached-more default_config st.StartRecord st.StartRecord (strip_bom c.args.bytes.now) c.loop-rest.rest.now (map fields c.loop-rest.rows.list) _ read.reached
    (line-read c.loop-rest.rest.now c.in-Some.row c.in-Some.behind.now row.1) in
    record {
      reached = reads_more c.args.geometry.now c.args.bytes.now _ _ c.loop-rest.rows.list c.push.new.self.list c.in-Some.row _ refl rows more;
      each_row = all_rows c.args.geometry.now c.loop-rest.rows.list c.push.new.self.list c.in-Some.row read.each_row row.0 rows;
      few = omega (arith, ap length rows, length-append c.loop-rest.rows.list (c.in-Some.row ∷ []));
    }

pub returns : goal.returns
returns c =
    let read = c.loop-rest.invariant in
    record {
      spelled = (st.StartRecord, c.loop-rest.rest.now, read.reached, no-more c.loop-rest.rest.now (grind (arith, nat_tests)));
      each_row = read.each_row;
      few = read.few;
    }
