-- How a heap meets its journal.
use Rattle.std.specs.Prelude.{◌≡◌, ◌*◌, ◌≤◌, ◌<◌, ◌^◌, ℕ, length}
use Rattle.std.specs.List.{AllByRecursion}
use Rattle.bal_model.specs.Built.{IsTraceRow}
use Rattle.bal_model.specs.Configs.{IsWithinLimits}
use Rattle.bal_model.specs.Entries.{entries_of}
use Rattle.bal_rules.specs.Interim.{today}
use Rattle.bal_model.specs.Plain.{made_by}
use Rattle.bal_rules.specs.Run.{IsRun, board_of, done_by}
use Rattle.bal_heap.specs.Heap.{MeetsBoard, Told}
use Rattle.bal_heap.specs.Turns.{Progress, done_of}
use Rattle.bal_heap.specs.declared.heap.Heap.TheInside.{Inside}

-- the journal is a run of the trace, the words are those of the board that it leaves, and each thread stands where its row
-- events say
pub record IsMet (told : Told) (progress : Progress) : Type 0 where
  pub run : IsRun today told.config told.rows told.entries
  pub meets : MeetsBoard told
  pub rows : progress.rows ≡ told.rows
  pub threads : length progress.done ≡ 32
  pub done : (t : ℕ) → t < 32 → done_of progress t ≡ done_by t told.entries
  pub made : (t : ℕ) → made_by (board_of told.config told.entries).plain t ≤ done_by t told.entries
  pub each_row : AllByRecursion (IsTraceRow told.config.geometry) told.rows
  pub few : length told.rows ≤ 2 ^ 20
  pub limits : IsWithinLimits told.config

abbrev pub told_by : Inside → Told
told_by a = record { config = a.config; rows = a.turns.rows; entries = entries_of a.journal; objects = a.objects }

-- and the marks and the moves of a collection are those of its words
pub record Meets (a : Inside) : Type 0 where
  pub met : IsMet (told_by a) a.turns
  pub marks : a.marks.words ≡ a.config.geometry.regions * a.config.geometry.words
  pub moves : length a.moves.words ≡ a.config.geometry.regions * a.config.geometry.words
