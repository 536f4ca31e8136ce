-- A run: a journal that is cut into the paths of the trace's rows, each thread's rows in their order.
use Rattle.std.specs.Prelude.{◌≡◌, ℕ, ◌+◌, ◌==◌, ⊤, Bool, true, false, List, [], ◌∷◌, ◌++◌, filter, flat_map, length, Some, slice_get, take}
use Rattle.std.specs.List.{AllByRecursion}
use Rattle.bal_model.specs.declared.config.Config.{Config}
use Rattle.bal_model.specs.declared.row.Reply.{Reply}
use Rattle.bal_model.specs.declared.row.Row.{Row}
use Rattle.bal_rules.specs.After.{after_all}
use Rattle.bal_rules.specs.Board.{Board, opening}
use Rattle.bal_model.specs.Entries.{Entry, row, executed}
use Rattle.bal_rules.specs.Interim.{Rule}
use Rattle.bal_rules.specs.Path.{IsPath}
use Rattle.bal_model.specs.Plain.{is_full}

-- the rows of one thread, in order
abbrev pub rows_of : ℕ → List Row → List Row
rows_of t rows = filter (λ r. r.thread == t) rows

-- how many rows of a thread a journal executes
abbrev pub done_by : ℕ → List Entry → ℕ
done_by t entries = length (rows_of t (executed entries))

-- the board that a journal leaves
abbrev pub board_of : Config → List Entry → Board
board_of c entries = after_all c (opening c) entries

-- one piece of a run: a path of the thread's next row, or a broken path of it
pub record Piece : Type 0 where
  pub thread : ℕ
  pub whole : Bool
  pub events : List Entry

-- the piece may come after these events
pub record MayComeNext (rule : Rule) (c : Config) (rows : List Row) (before : List Entry) (piece : Piece) : Type 0 where
  pub row : Row
  pub next : slice_get (rows_of piece.thread rows) (done_by piece.thread before) ≡ Some row
  pub path : IsPath rule c (record { row = row; number = done_by piece.thread before + 1 }) (board_of c before) piece.whole piece.events

-- the pieces may come one after another
abbrev pub ArePieces : Rule → Config → List Row → List Entry → List Piece → Type 0
ArePieces rule c rows before [] = ⊤
ArePieces rule c rows before (piece ∷ pieces) = MayComeNext rule c rows before piece × ArePieces rule c rows (before ++ piece.events) pieces

abbrev pub events_of : List Piece → List Entry
events_of pieces = flat_map (λ (p : Piece). p.events) pieces

-- the journal is a run of the trace, where allocations without soft room go by that rule
pub record IsRun (rule : Rule) (c : Config) (rows : List Row) (entries : List Entry) : Type 0 where
  pub pieces : List Piece
  pub each_next : ArePieces rule c rows [] pieces
  pub cut : entries ≡ events_of pieces

-- and no path in it is broken
pub record IsWholeRun (rule : Rule) (c : Config) (rows : List Row) (entries : List Entry) : Type 0 where
  pub run : IsRun rule c rows entries
  pub whole : AllByRecursion (λ (p : Piece). p.whole ≡ true) run.pieces

-- every row of the trace has its event
abbrev pub IsComplete : List Row → List Entry → Type 0
IsComplete rows entries = (t : ℕ) → done_by t entries ≡ length (rows_of t rows)

-- the replies, all threads together, in the order of their events
abbrev pub replies : List Entry → List Reply
replies [] = []
replies (row t k o r p ∷ es) = r ∷ replies es
replies (e ∷ es) = replies es

-- no allocation was told that the heap is full
abbrev pub IsNeverFull : List Entry → Type 0
IsNeverFull entries = AllByRecursion (λ (r : Reply). is_full r ≡ false) (replies entries)

-- the rows were executed in the order of the file, as far as they were executed
abbrev pub IsInFileOrder : List Row → List Entry → Type 0
IsInFileOrder rows entries = executed entries ≡ take (length (executed entries)) rows
