-- The trace of some bytes: their records, as csv reads them with no header row, each of which spells a row.
use Rattle.std.specs.Prelude.{◌≡◌, ◌+◌, ◌≤◌, ◌<◌, ◌^◌, ◌⊎◌, ◌++◌, ◌∷◌, [], ℕ, ⊤, List, length, map}
use Rattle.std.specs.List.{AllByRecursion}
use Rattle.csv.specs.Reading.{AreRecords, Reached, default_config, strip_bom}
use Rattle.csv.specs.declared.parser.State.{State}
use Rattle.csv.specs.declared.parser.State.TheVariants as st
use Rattle.bal_layout.specs.Shape.{Shape}
use Rattle.bal_model.specs.declared.row.Row.{Row}
use Rattle.bal_model.specs.Spelling.{fields}
use Rattle.bal_model.specs.Built.{IsTraceRow}
use Rattle.bal_rows.specs.Causes.{HasCause}
use Rattle.bal_rows.specs.declared.cause.RowCause.{RowCause}
use Rattle.bal_rows.specs.declared.cause.RowCause.TheVariants as cause
use Rattle.bal_rows.specs.declared.trace.TraceFault.{TraceFault}
use Rattle.bal_rows.specs.declared.trace.TraceFault.TheVariants as fault

-- the bytes are a trace of at most 2^20 rows
pub record IsTrace (s : Shape) (bytes : List ℕ) (rows : List Row) : Type 0 where
  pub spelled : AreRecords default_config st.StartRecord (strip_bom bytes) (map fields rows)
  pub each_row : AllByRecursion (IsTraceRow s) rows
  pub few : length rows ≤ 2 ^ 20

-- a record after so many rows makes its bytes no trace: there is one row too many, or it has the cause itself
abbrev pub IsBadBehind : Shape → ℕ → List (List ℕ) → RowCause → Type 0
IsBadBehind s count cells why = ((count ≡ 2 ^ 20) × (why ≡ cause.TooManyRows)) ⊎ ((count < 2 ^ 20) × HasCause s cells why)

-- the record of this number, from 1, is the first that makes the bytes no trace, and this is its first cause: those
-- before it are rows
pub record HasBadRecord (s : Shape) (bytes : List ℕ) (number : ℕ) (why : RowCause) : Type 0 where
  pub rows : List Row
  pub each_row : AllByRecursion (IsTraceRow s) rows
  pub bad : List (List ℕ)
  pub state : State
  pub rest : List ℕ
  pub reached : Reached default_config st.StartRecord (strip_bom bytes) (map fields rows ++ bad ∷ []) state rest
  pub count : number ≡ length rows + 1
  pub is_bad : IsBadBehind s (length rows) bad why

-- what a fault tells of the bytes
abbrev pub TellsFault : Shape → List ℕ → TraceFault → Type 0
TellsFault s bytes (fault.Bad number why) = HasBadRecord s bytes number why
TellsFault s bytes fault.NoMemory = ⊤
