-- What a replay comes to.
use Rattle.std.specs.Prelude.{◌≡◌, ◌≢◌, ◌≤◌, ◌<◌, ◌+◌, ◌^◌, ◌⊎◌, ◌↔◌, ℕ, List, length, Option, Some, None, Result, IfOk, IfErr, IsErrOf, IsSomeAnd}
use Rattle.std.specs.Io.KnownBytes.{Appends}
use Rattle.bal_source.specs.Causes.{Rose}
use Rattle.bal_source.specs.Streams.{AppendsFront, TakesAll, TakesFront}
use Rattle.bal_model.specs.declared.config.Config.{Config}
use Rattle.bal_model.specs.declared.row.Row.{Row}
use Rattle.bal_model.specs.Text.{journal_text}
use Rattle.bal_rules.specs.Interim.{today}
use Rattle.bal_rules.specs.Run.{IsWholeRun, IsComplete, IsInFileOrder}
use Rattle.bal_heap.specs.Heap.{MeetsBoard, Told}
use Rattle.bal_options.specs.CommandLine.{IsCommandLine}
use Rattle.bal_rows.specs.Trace.{IsTrace, HasBadRecord}
use Rattle.bal_rows.specs.declared.cause.RowCause.{RowCause}
use Rattle.bal_replay.specs.declared.status.Status.{Status}
use Rattle.bal_replay.specs.declared.status.Status.TheVariants as status

-- the heap has told a whole and complete run of the rows, in file order, and its words are those of the board that the run
-- leaves: they decode to the plain state without what is not present, each object in the region of its place
pub record IsWholeReplay (c : Config) (rows : List Row) (told : Told) : Type 0 where
  pub configured : told.config ≡ c
  pub traced : told.rows ≡ rows
  pub run : IsWholeRun today c rows told.entries
  pub complete : IsComplete rows told.entries
  pub in_order : IsInFileOrder rows told.entries
  pub meets : MeetsBoard told

-- a source at a moment: the bytes that it has left, where it tells them, how many it has given, and how many of its reads
-- have failed
pub record Reading : Type 0 where
  pub left : Option (List ℕ)
  pub given : ℕ
  pub faults : ℕ

abbrev pub reading_of : {S : Type 0} → (S → Option (List ℕ)) → (S → ℕ) → (S → ℕ) → S → Reading
reading_of left given faults source = record { left = left source; given = given source; faults = faults source }

-- a sink at a moment: the bytes that it holds, where it tells them, and how many of its writes have failed
pub record Writing : Type 0 where
  pub held : Option (List ℕ)
  pub faults : ℕ

abbrev pub writing_of : {K : Type 0} → (K → Option (List ℕ)) → (K → ℕ) → K → Writing
writing_of held faults sink = record { held = held sink; faults = faults sink }

-- all bytes that the source had left were taken, at most 2^26 of them
pub record TakesBytes (before after : Reading) (bytes : List ℕ) : Type 0 where
  pub taken : TakesAll before.left after.left bytes
  pub counted : after.given ≡ before.given + length bytes
  pub most : length bytes ≤ 2 ^ 26

-- the source gave too much
abbrev pub GivesTooMuch : Reading → Reading → Type 0
GivesTooMuch before after = before.given + 2 ^ 26 < after.given

-- a whole and complete run under this configuration, in file order, of the trace of the bytes that the source had left, all
-- of which were taken
pub record IsReplayUnder (config : Config) (before after : Reading) (told : Told) : Type 0 where
  pub bytes : List ℕ
  pub takes : TakesBytes before after bytes
  pub rows : List Row
  pub trace : IsTrace config.geometry bytes rows
  pub replay : IsWholeReplay config rows told

-- all bytes were taken, and this record is the first among them that is no row, for this cause
pub record HasBadRow (config : Config) (before after : Reading) (number : ℕ) (why : RowCause) : Type 0 where
  pub bytes : List ℕ
  pub takes : TakesBytes before after bytes
  pub bad : HasBadRecord config.geometry bytes number why

-- the source failed before it had given too much
pub record FailsToRead (before after : Reading) : Type 0 where
  pub rose : Rose before.faults after.faults
  pub within : after.given ≤ before.given + 2 ^ 26

-- what reading a trace to its end and executing it comes to: a replay, or a status with its cause
pub record Reads (config : Config) (before after : Reading) (result : Result Told Status) : Type 0 where
  pub ok : IfOk result (IsReplayUnder config before after)
  pub read_fault : IsErrOf result status.ReadFault → FailsToRead before after
  pub too_long : IsErrOf result status.TooLong ↔ GivesTooMuch before after
  pub bad_row : (row : ℕ) (cause : RowCause) → IsErrOf result (status.BadRow row cause) → HasBadRow config before after row cause
  pub no_other : IfErr result (λ s. (s ≢ status.Ok) × (s ≢ status.Usage) × (s ≢ status.WriteFault))
  pub taken : TakesFront before.left after.left before.given after.given

-- The same under the configuration that the words of the command line give.

pub record IsReplay (words : List (List ℕ)) (before after : Reading) (told : Told) : Type 0 where
  pub config : Config
  pub command : IsCommandLine words config
  pub replay : IsReplayUnder config before after told

pub record IsBadInput (words : List (List ℕ)) (before after : Reading) (number : ℕ) (why : RowCause) : Type 0 where
  pub config : Config
  pub command : IsCommandLine words config
  pub bad : HasBadRow config before after number why

-- no configuration has these words
abbrev pub IsNoCommandLine : List (List ℕ) → Type 0
IsNoCommandLine words = (config : Config) → IsCommandLine words config → ⊥

-- What a run answers, and what it took from its source and put on its output. Each status has its cause; that memory was
-- refused may be answered at any time.
pub record Replays (words : List (List ℕ)) (before after : Reading) (out_before out_after : Writing) (s : Status) (heap : Option Told) : Type 0 where
  -- under the configuration of the words, the journal of a whole and complete run, in file order, of the trace of the bytes
  -- that the source had left, all of which were taken, was appended to the output
  pub replayed : s ≡ status.Ok
      → IsSomeAnd heap (λ told. IsReplay words before after told × Appends out_before.held out_after.held (journal_text told.entries))
  -- the output failed, and a front of that journal was appended
  pub cut_short : s ≡ status.WriteFault
      → IsSomeAnd heap (λ told. IsReplay words before after told × AppendsFront out_before.held out_after.held (journal_text told.entries))
  pub write_fault : s ≡ status.WriteFault → Rose out_before.faults out_after.faults
  pub usage : s ≡ status.Usage ↔ IsNoCommandLine words
  pub read_fault : s ≡ status.ReadFault → FailsToRead before after
  pub too_long : s ≡ status.TooLong ↔ GivesTooMuch before after
  pub bad_row : (row : ℕ) (cause : RowCause) → s ≡ status.BadRow row cause → IsBadInput words before after row cause
  -- whatever the status, a front of the bytes was taken
  pub taken : TakesFront before.left after.left before.given after.given

-- but for the two statuses with a journal the output is as it was, and there is no heap; and where the words are no command
-- line, so is the source
pub record Spares {S K : Type 0} (source_before source_after : S) (out_before out_after : K) (s : Status) (heap : Option Told) : Type 0 where
  pub unread : s ≡ status.Usage → source_after ≡ source_before
  pub nothing : s ≢ status.Ok → s ≢ status.WriteFault → out_after ≡ out_before
  pub no_heap : s ≢ status.Ok → s ≢ status.WriteFault → heap ≡ None

-- the words are a command line, and what the source has left is a trace under its configuration, of at most 2^26 bytes
pub record IsAccepted (words : List (List ℕ)) (reading : Reading) : Type 0 where
  pub config : Config
  pub command : IsCommandLine words config
  pub bytes : List ℕ
  pub left : reading.left ≡ Some bytes
  pub most : length bytes ≤ 2 ^ 26
  pub rows : List Row
  pub trace : IsTrace config.geometry bytes rows

-- the words are a command line, and of what the source has left, at most 2^26 bytes, this record is the first that is no row
-- under its configuration, for this cause
pub record IsRejected (words : List (List ℕ)) (reading : Reading) (number : ℕ) (why : RowCause) : Type 0 where
  pub config : Config
  pub command : IsCommandLine words config
  pub bytes : List ℕ
  pub left : reading.left ≡ Some bytes
  pub most : length bytes ≤ 2 ^ 26
  pub bad : HasBadRecord config.geometry bytes number why

-- a run ended well, or memory was refused
abbrev pub IsDone : Status → Type 0
IsDone s = (s ≡ status.Ok) ⊎ (s ≡ status.NoMemory)

-- If the words are a command line and neither source nor output fails, the bytes decide: if they are a trace, the run is
-- done, and if not, the first bad record is told; or memory was refused.
pub record Decides (words : List (List ℕ)) (before after : Reading) (out_before out_after : Writing) (s : Status) : Type 0 where
  pub complete : IsAccepted words before → (Rose before.faults after.faults → ⊥) → (Rose out_before.faults out_after.faults → ⊥) → IsDone s
  pub rejected : (row : ℕ) (cause : RowCause) → IsRejected words before row cause → (Rose before.faults after.faults → ⊥)
      → (s ≡ status.BadRow row cause) ⊎ (s ≡ status.NoMemory)

-- a line was appended, or a front of it to a sink that failed
pub record Tells (before after : Writing) (line : List ℕ) : Type 0 where
  pub front : AppendsFront before.held after.held line
  pub whole : Appends before.held after.held line ⊎ Rose before.faults after.faults
