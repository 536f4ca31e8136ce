use Rattle.std.proofs.Common.{Bor, ◌+◌, ◌++◌, ◌∷◌, ◌∙◌, List, [], ℕ, Some, true, ap, inl, inr, length, map, refl, sym, arith, length-append}
use Rattle.csv.specs.Reading.{Reached, builder_config, builder_names_headers, builder_trim, default_config, strip_bom, with_flexible}
use Rattle.csv.specs.Records.{fields_of}
use Rattle.csv.specs.declared.parser.State.TheVariants as st
use Rattle.csv.proofs.ReadFacts.{rows-more}
use Rattle.bal_model.specs.Spelling.{fields}
use Rattle.bal_rows.specs.declared.cause.RowCause.TheVariants as cause
use Rattle.bal_rows.proofs.TraceFacts.{all_rows, bad_record, reads_more}
use Rattle.bal_rows.proofs.trace.read_records.Goals as goal

pub loop-before-init : goal.loop-before-init
unfolding Reached
loop-before-init c =
    let made = c.from_reader-reader.ensures in
    let settings = c.flexible.ensures ∙ ap (λ b. with_flexible b true) c.has_headers.ensures in
    let none = c.in_ok-rows.ensures in
    record {
      plain = made.trim ∙ ap builder_trim settings ∙ c.new.ensures.trim;
      ready = inr (inr (made.has_headers ∙ ap builder_names_headers settings, made.headers));
      config = made.config ∙ ap builder_config settings ∙ c.new.ensures.config;
      reached = (strip_bom c.args.bytes.now, made.source, rw none (sym made.state, refl));
      each_row = rw none tt;
      count = ap length none;
    }

pub returns-in-Err-clause-bad : goal.returns-in-Err-clause-bad
returns-in-Err-clause-bad c =
    let read = c.loop-before.invariant in
    let more = rows-more (λ (s : Bor (List ℕ)). Some s.now) c.loop-before.reader c.read_byte_record.new.self (fields_of c.read_byte_record.new.row) default_config st.StartRecord (strip_bom c.args.bytes.now)
    read.reached.0 (map fields c.loop-before.rows.list) read.config read.reached.1 read.reached.2
    (rw c.if-not-found.false at (c.in-Ok.ensures.reads read.plain read.ready)) in
    bad_record c.args.geometry.now c.args.bytes.now _ more.0 c.loop-before.rows.list (c.loop-before.before + 1) (fields_of c.read_byte_record.new.row) c.in-Err.cause
    read.each_row (omega (arith, read.count)) more.2 (inr (omega (arith, read.count), c.in-Err.ensures))

pub loop-before-preserved : goal.loop-before-preserved
loop-before-preserved c =
    let read = c.loop-before.invariant in
    let step = rw c.if-not-found.false at (c.in-Ok.ensures.reads read.plain read.ready) in
    let more = rows-more (λ (s : Bor (List ℕ)). Some s.now) c.loop-before.reader c.read_byte_record.new.self (fields_of c.read_byte_record.new.row) default_config st.StartRecord (strip_bom c.args.bytes.now)
    read.reached.0 (map fields c.loop-before.rows.list) read.config read.reached.1 read.reached.2 step in
    let row = c.in-Ok-row_of.ensures in
    let rows = c.push.ensures.list ∙ ap (λ l. l ++ c.in-Ok-row_of.row ∷ []) c.in_ok-reserve-in-Ok-row_of.ensures.list in
    record {
      plain = step.3 ∙ read.plain;
      ready = inl (c.in-Ok.ensures.ready read.plain);
      config = step.2 ∙ read.config;
      reached = (more.0, more.1, reads_more c.args.geometry.now c.args.bytes.now _ more.0 c.loop-before.rows.list c.push.new.self.list c.in-Ok-row_of.row _ row.1 rows more.2);
      each_row = all_rows c.args.geometry.now c.loop-before.rows.list c.push.new.self.list c.in-Ok-row_of.row read.each_row row.0 rows;
      count = omega (arith, read.count, ap length rows, length-append c.loop-before.rows.list (c.in-Ok-row_of.row ∷ []));
    }

pub returns-then-found-clause-bad : goal.returns-then-found-clause-bad
returns-then-found-clause-bad c =
    let read = c.loop-before.invariant in
    let more = rows-more (λ (s : Bor (List ℕ)). Some s.now) c.loop-before.reader c.read_byte_record-2.new.self (fields_of c.read_byte_record-2.new.row) default_config st.StartRecord (strip_bom c.args.bytes.now)
    read.reached.0 (map fields c.loop-before.rows.list) read.config read.reached.1 read.reached.2
    (rw c.if-found.true at (c.in-Ok-read_byte_record.ensures.reads read.plain read.ready)) in
    bad_record c.args.geometry.now c.args.bytes.now _ more.0 c.loop-before.rows.list 1048577 (fields_of c.read_byte_record-2.new.row) cause.TooManyRows
    read.each_row (omega (arith, read.count)) more.2 (inl (omega (arith, read.count), refl))
