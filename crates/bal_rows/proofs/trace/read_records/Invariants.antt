use Rattle.std.proofs.Common.{Bor, ◌≡◌, ℕ, List, Some, length, map}
use Rattle.std.specs.List.{AllByRecursion}
use Rattle.csv.specs.Reading.{Reached, Ready, default_config, reader_config, reader_state, reader_trim, source_of, strip_bom}
use Rattle.csv.specs.declared.parser.State.TheVariants as st
use Rattle.csv.specs.declared.reader.Trim.TheVariants as trim
use Rattle.bal_model.specs.Spelling.{fields}
use Rattle.bal_model.specs.Built.{IsTraceRow}
use Rattle.bal_rows.proofs.trace.read_records.Given as goal

-- the records so far are the rows so far, and the reader stands after them
abbrev pub invariant-loop-before : goal.invariant-loop-before
invariant-loop-before l = record {
  plain : reader_trim l.reader ≡ trim.None;
  ready : Ready l.reader;
  config : reader_config l.reader ≡ default_config;
  reached : (rest : List ℕ) × (source_of (λ (s : Bor (List ℕ)). Some s.now) l.reader ≡ Some rest)
      × Reached default_config st.StartRecord (strip_bom l.bytes) (map fields l.rows.list) (reader_state l.reader) rest;
  each_row : AllByRecursion (IsTraceRow l.geometry) l.rows.list;
  count : length l.rows.list ≡ l.before;
}
