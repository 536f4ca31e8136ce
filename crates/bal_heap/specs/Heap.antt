-- What contracts see of a heap, and what a step of it does.
use Rattle.std.specs.Prelude.{◌≡◌, ℕ, ◌+◌, Bool, IsTrue, true, false, List, [], ◌∷◌, ◌++◌, Option, None, Some, slice_get, if◌then◌else◌}
use Rattle.std.specs.List.{AllByRecursion}
use Rattle.bal_layout.specs.declared.geometry.Want.{Want}
use Rattle.bal_layout.specs.declared.name.Abort.{Abort}
use Rattle.bal_layout.specs.declared.name.Name.{Name}
use Rattle.bal_model.specs.declared.config.Config.{Config}
use Rattle.bal_model.specs.declared.row.Op.{Op}
use Rattle.bal_model.specs.declared.row.Reply.{Reply}
use Rattle.bal_model.specs.declared.row.Row.{Row}
use Rattle.bal_model.specs.declared.event.Kept.{Kept}
use Rattle.bal_model.specs.declared.event.Packed.{Packed}
use Rattle.bal_model.specs.Entries.{Entry, Spot, executed, global, partial, row}
use Rattle.bal_rules.specs.After.{after_all}
use Rattle.bal_rules.specs.Full.{is_full_allowed}
use Rattle.bal_rules.specs.GlobalEvents.{IsGlobal}
use Rattle.bal_rules.specs.Interim.{today}
use Rattle.bal_rules.specs.Packing.{IsEvacuation}
use Rattle.bal_rules.specs.Path.{IsLegal, IsPath, IsPathFrom, Stage, Turn, full_event, hard_room, lacks_room, own_at, own_event, placed_event}
use Rattle.bal_rules.specs.Run.{IsRun, MayComeNext, board_of, done_by, rows_of}
use Rattle.bal_model.specs.Built.{IsTraceRow}
use Rattle.bal_heap.specs.Notes.{IsTrueOf}
use Rattle.bal_heap.specs.Objects.{AreOnBoard, Objects}

-- a heap by what it was made for, what it has told, and its objects in words
pub record Told : Type 0 where
  pub config : Config
  pub rows : List Row
  pub entries : List Entry
  pub objects : Objects

-- the objects are those of the board that the journal leaves
pub record MeetsBoard (told : Told) : Type 0 where
  pub shape : told.objects.table.shape ≡ told.config.geometry
  pub objects_are : AreOnBoard told.objects (board_of told.config told.entries)

-- nothing has happened
pub record Begins (c : Config) (rows : List Row) (told : Told) : Type 0 where
  pub config_is : told.config ≡ c
  pub rows_are : told.rows ≡ rows
  pub entries : told.entries ≡ []
  pub meets : MeetsBoard told

-- the row as its thread's next one, and its own event with this reply and this place
abbrev pub turn_of : Told → Row → Turn
turn_of told r = record { row = r; number = done_by r.thread told.entries + 1 }

abbrev pub own_entry : Told → Row → Reply → Option Spot → Entry
own_entry told r reply place = row r.thread (turn_of told r).number r.op reply place

-- the row is the next one of its thread, and is a row of the trace
pub record IsNext (told : Told) (r : Row) : Type 0 where
  pub traced : IsTraceRow told.config.geometry r
  pub next : slice_get (rows_of r.thread told.rows) (done_by r.thread told.entries) ≡ Some r

-- the row allocates, and finds no soft room on the board that the journal leaves
abbrev pub LacksRoom : Told → Row → Type 0
LacksRoom told r = IsTrue (lacks_room told.config (turn_of told r) (board_of told.config told.entries))

-- the row's own event was told, with this reply, and the words are those of the board that it leaves
pub record Tells (before after : Told) (r : Row) (reply : Reply) (own : Entry) : Type 0 where
  pub config : after.config ≡ before.config
  pub rows : after.rows ≡ before.rows
  pub place : Option Spot
  pub is : own_entry before r reply place ≡ own
  pub grows : after.entries ≡ before.entries ++ own ∷ []
  pub meets : MeetsBoard after

-- what was told of a row since its execution began: its path has come to this stage, and whatever may follow there makes it
-- a path of the row, whole or broken. Its notes are true of the words before the row
pub record Comes (before now : Told) (r : Row) (stage : Stage) : Type 0 where
  pub config : now.config ≡ before.config
  pub rows : now.rows ≡ before.rows
  pub events : List Entry
  pub grows : now.entries ≡ before.entries ++ events
  pub no_row : executed events ≡ []
  pub path : (whole : Bool) (more : List Entry)
      → IsPathFrom today before.config (turn_of before r) stage (after_all before.config (board_of before.config before.entries) events) whole more
      → IsPath today before.config (turn_of before r) (board_of before.config before.entries) whole (events ++ more)
  pub notes : AllByRecursion (IsTrueOf before.objects.table) events
  pub meets : MeetsBoard now

-- the path has come to a stage at which this event comes as the row's own
pub record IsReady (start now : Told) (r : Row) (own : Entry) : Type 0 where
  pub stage : Stage
  pub comes : Comes start now r stage
  pub own_is : own_at today now.config (turn_of now r) stage (board_of now.config now.entries) ≡ Some own

-- so it may come now: the row is executed since some heap, whose journal is a run
pub record MayEndBy (now : Told) (r : Row) (own : Entry) : Type 0 where
  pub start : Told
  pub run : IsRun today start.config start.rows start.entries
  pub next : IsNext start r
  pub ready : IsReady start now r own

-- the own event of an allocation: it is placed if there is hard room, and else told that the heap is full
abbrev pub allocation_event : Told → Row → Want → Entry
allocation_event told r w =
    if hard_room told.config (board_of told.config told.entries) w then placed_event told.config (turn_of told r) (board_of told.config told.entries) w
    else full_event (turn_of told r)

-- the own event of a row that asks for no room
abbrev pub plain_event : Told → Row → Entry
plain_event told r = own_event (turn_of told r) (board_of told.config told.entries) None

-- a partial collection was told: it is one of the board, and the words are those of the board that it leaves
pub record Evacuates (before after : Told) : Type 0 where
  pub config : after.config ≡ before.config
  pub rows : after.rows ≡ before.rows
  pub chosen : List ℕ
  pub scans : ℕ
  pub kept : List Kept
  pub aborts : List Abort
  pub grows : after.entries ≡ before.entries ++ partial chosen scans kept aborts ∷ []
  pub legal : IsEvacuation before.config (board_of before.config before.entries) chosen scans kept aborts
  pub meets : MeetsBoard after

-- a global collection may come next in the execution of a row, which began with some heap whose journal is a run
pub record MayCompact (now : Told) (r : Row) : Type 0 where
  pub start : Told
  pub run : IsRun today start.config start.rows start.entries
  pub next : IsNext start r
  pub stage : Stage
  pub comes : Comes start now r stage
  pub legal : (dead : List Name) (packed : List Packed) → IsGlobal now.config (board_of now.config now.entries) dead packed
      → IsLegal today now.config (turn_of now r) stage (board_of now.config now.entries) (global dead packed)

-- a global collection was told: it is one of the board, and the words are those of the board that it leaves. If it leaves no
-- hard room for a request, the heap is really full
pub record Collects (before after : Told) : Type 0 where
  pub config : after.config ≡ before.config
  pub rows : after.rows ≡ before.rows
  pub dead : List Name
  pub packed : List Packed
  pub grows : after.entries ≡ before.entries ++ global dead packed ∷ []
  pub legal : IsGlobal before.config (board_of before.config before.entries) dead packed
  pub meets : MeetsBoard after
  pub full : (w : Want) → hard_room after.config (board_of after.config after.entries) w ≡ false
      → is_full_allowed after.config.geometry (board_of after.config after.entries).plain w ≡ true

-- the thread's next row was executed: the journal grew by one path of it, which ends with the row's reply, its notes are true
-- of the words before the row, and the words are those of the board that it leaves then
pub record Executes (before after : Told) (thread : ℕ) (reply : Reply) : Type 0 where
  pub config : after.config ≡ before.config
  pub rows : after.rows ≡ before.rows
  pub path : List Entry
  pub grows : after.entries ≡ before.entries ++ path
  pub next : MayComeNext today before.config before.rows before.entries (record { thread = thread; whole = true; events = path })
  pub front : List Entry
  pub op : Op
  pub place : Option Spot
  pub replies : path ≡ front ++ row thread (done_by thread before.entries + 1) op reply place ∷ []
  pub notes : AllByRecursion (IsTrueOf before.objects.table) path
  pub meets : MeetsBoard after

-- the thread's next row was begun, and ran out of memory: the journal grew by what had been told of it, which is a broken path
-- of the row, and the words are those of the board that it leaves then. A later step begins the row anew
pub record Breaks (before after : Told) (thread : ℕ) : Type 0 where
  pub config : after.config ≡ before.config
  pub rows : after.rows ≡ before.rows
  pub path : List Entry
  pub grows : after.entries ≡ before.entries ++ path
  pub next : MayComeNext today before.config before.rows before.entries (record { thread = thread; whole = false; events = path })
  pub notes : AllByRecursion (IsTrueOf before.objects.table) path
  pub meets : MeetsBoard after
