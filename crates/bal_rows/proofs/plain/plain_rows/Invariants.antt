use Rattle.std.proofs.Common.{◌≤◌, ◌-◌, ◌^◌, length, map}
use Rattle.std.specs.List.{AllByRecursion}
use Rattle.csv.specs.Reading.{Reached, default_config, strip_bom}
use Rattle.csv.specs.declared.parser.State.TheVariants as st
use Rattle.bal_model.specs.Spelling.{fields}
use Rattle.bal_model.specs.Built.{IsTraceRow}
use Rattle.bal_rows.proofs.plain.plain_rows.Given as goal

-- the records so far are the rows so far, and the rest begins a record
abbrev pub invariant-loop-rest : goal.invariant-loop-rest
invariant-loop-rest l = record {
  reached : Reached default_config st.StartRecord (strip_bom l.bytes) (map fields l.rows.list) st.StartRecord l.rest;
  each_row : AllByRecursion (IsTraceRow l.geometry) l.rows.list;
  few : length l.rows.list ≤ 2 ^ 20;
}

-- how many rows may follow
abbrev pub decreases-loop-rest : goal.decreases-loop-rest
decreases-loop-rest l = 2 ^ 20 - length l.rows.list
