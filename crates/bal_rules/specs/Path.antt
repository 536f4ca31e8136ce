-- The path of a row: the events that executing it may write, each legal on the board that those before it left.
--
--   1. A row that asks for no room has its own event at once.
--   2. `gc` has a global collection, and then its own event.
--   3. An allocation with soft room is placed at once. Without it come
--      a. the notes of a flush,
--      b. a partial collection, and after it the mark events that are due;
--      c. with soft room then, its own event; without it a global collection,
--      d. and then its own event: placed where there is hard room, and else full.
--
-- A broken path stops at some point before the row's own event: there memory was refused.
use Rattle.std.specs.Prelude.{◌≡◌, ℕ, ◌&&◌, ◌||◌, not, nat_lt, Bool, IsTrue, true, false, List, [], ◌∷◌, length, Option, Some, None, if◌then◌else◌}
use Rattle.bal_layout.specs.declared.geometry.Want.{Want}
use Rattle.bal_model.specs.declared.config.Config.{Config}
use Rattle.bal_model.specs.declared.row.Op.{Op}
use Rattle.bal_model.specs.declared.row.Op.TheVariants as op
use Rattle.bal_model.specs.declared.row.Reply.TheVariants as reply
use Rattle.bal_model.specs.declared.row.Row.{Row}
use Rattle.bal_rules.specs.After.{after}
use Rattle.bal_rules.specs.Board.{Board}
use Rattle.bal_model.specs.Entries.{Entry, Spot, row, note, partial, begin, mark, end, global}
use Rattle.bal_rules.specs.Full.{is_full_allowed}
use Rattle.bal_rules.specs.GlobalEvents.{IsGlobal}
use Rattle.bal_rules.specs.Interim.{Rule}
use Rattle.bal_rules.specs.MarkEvents.{IsMark, IsEnd, is_mark_due}
use Rattle.bal_rules.specs.NoteEvents.{IsNote, Slot}
use Rattle.bal_rules.specs.Packing.{IsEvacuation}
use Rattle.bal_model.specs.Plain.{step}
use Rattle.bal_rules.specs.Room.{has_soft_room, has_hard_room, spot_for}
use Rattle.bal_rules.specs.RowEvents.{want_of}

-- how far the events of a row have come
pub data Stage : Type 0 where
  -- nothing was collected yet; these slots were noted
  opened : List Slot → Stage
  -- a partial collection was made, and the beginning of a mark cycle or a mark step is due
  marking : Stage
  -- the mark step found no more names, so the end of the cycle is due
  ending : Stage
  -- a partial collection was made, and nothing is due
  collected : Stage
  -- a global collection was made
  compacted : Stage

-- a row, and which of its thread's rows it is
pub record Turn : Type 0 where
  pub row : Row
  pub number : ℕ

-- The row's own event.

-- with the reply of the plain step, and placed so
abbrev pub own_event : Turn → Board → Option Spot → Entry
own_event turn b place = row turn.row.thread turn.number turn.row.op (step b.plain turn.row.thread turn.row.op).0 place

abbrev pub placed_event : Config → Turn → Board → Want → Entry
placed_event c turn b w = own_event turn b (Some (spot_for c.geometry b.regions b.current w))

abbrev pub full_event : Turn → Entry
full_event turn = row turn.row.thread turn.number turn.row.op reply.Full None

abbrev pub is_gc : Op → Bool
is_gc op.Gc = true
is_gc o = false

-- of a row that asks for no room
abbrev pub plain_at : Turn → Stage → Board → Option Entry
plain_at turn (opened noted) b = if is_gc turn.row.op then None else Some (own_event turn b None)
plain_at turn marking b = None
plain_at turn ending b = None
plain_at turn collected b = None
plain_at turn compacted b = if is_gc turn.row.op then Some (own_event turn b None) else None

abbrev pub soft_room : Config → Board → Want → Bool
soft_room c b w = has_soft_room c.geometry c.eden b.regions b.current w

abbrev pub hard_room : Config → Board → Want → Bool
hard_room c b w = has_hard_room c.geometry b.regions b.current w

-- of an allocation
abbrev pub allocation_at : Rule → Config → Turn → Stage → Board → Want → Option Entry
allocation_at rule c turn (opened noted) b w =
    if soft_room c b w then Some (placed_event c turn b w)
    else if rule.goes_by_hard_room then Some (if hard_room c b w then placed_event c turn b w else full_event turn)
    else None
allocation_at rule c turn marking b w = None
allocation_at rule c turn ending b w = None
allocation_at rule c turn collected b w = if soft_room c b w then Some (placed_event c turn b w) else None
allocation_at rule c turn compacted b w =
    if hard_room c b w then Some (placed_event c turn b w)
    else if is_full_allowed c.geometry b.plain w then Some (full_event turn)
    else None

abbrev pub own_for : Rule → Config → Turn → Stage → Board → Option Want → Option Entry
own_for rule c turn stage b None = plain_at turn stage b
own_for rule c turn stage b (Some w) = allocation_at rule c turn stage b w

-- the row's own event, where it may come at this stage
abbrev pub own_at : Rule → Config → Turn → Stage → Board → Option Entry
own_at rule c turn stage b = own_for rule c turn stage b (want_of c.geometry turn.row.op)

-- The events before it.

-- the row allocates, and there is no soft room
abbrev pub lacks_room_for : Config → Board → Option Want → Bool
lacks_room_for c b None = false
lacks_room_for c b (Some w) = not (soft_room c b w)

abbrev pub lacks_room : Config → Turn → Board → Bool
lacks_room c turn b = lacks_room_for c b (want_of c.geometry turn.row.op)

-- a global collection may come first: for a `gc`
abbrev pub may_start_global : Rule → Config → Turn → Board → Bool
may_start_global rule c turn b = (rule.takes_gc && is_gc turn.row.op) || (rule.compacts_at_once && lacks_room c turn b)

abbrev pub IsLegal : Rule → Config → Turn → Stage → Board → Entry → Type 0
IsLegal rule c turn (opened noted) b (note q card holder slot) =
    IsTrue (rule.notes_cards && lacks_room c turn b) × IsNote c b noted q card holder slot
IsLegal rule c turn (opened noted) b (partial chosen scans kept aborts) =
    IsTrue (rule.evacuates && lacks_room c turn b) × IsEvacuation c b chosen scans kept aborts
IsLegal rule c turn (opened noted) b (global dead packed) = IsTrue (may_start_global rule c turn b) × IsGlobal c b dead packed
IsLegal rule c turn marking b begin = b.cycle ≡ None
IsLegal rule c turn marking b (mark names) = IsMark c b names
IsLegal rule c turn ending b (end dead) = IsEnd b dead
IsLegal rule c turn collected b (global dead packed) = IsTrue (lacks_room c turn b) × IsGlobal c b dead packed
IsLegal rule c turn stage b e = ⊥

-- the stage after an event, after which the board is b
abbrev pub with_noted_slot : Stage → Slot → Stage
with_noted_slot (opened noted) slot = opened (slot ∷ noted)
with_noted_slot marking slot = marking
with_noted_slot ending slot = ending
with_noted_slot collected slot = collected
with_noted_slot compacted slot = compacted

abbrev pub next_stage : Rule → Config → Board → Stage → Entry → Stage
next_stage rule c b stage (row t k o r p) = stage
next_stage rule c b stage (note q card holder slot) = with_noted_slot stage (record { holder = holder; number = slot })
next_stage rule c b stage (partial chosen scans kept aborts) = if rule.marks && is_mark_due c b then marking else collected
next_stage rule c b stage begin = collected
next_stage rule c b stage (mark names) = if nat_lt (length names) c.mark_step then ending else collected
next_stage rule c b stage (end dead) = collected
next_stage rule c b stage (global dead packed) = compacted

-- these are the events of a row from a stage on: to its own event, or to some point before that
abbrev pub IsPathFrom : Rule → Config → Turn → Stage → Board → Bool → List Entry → Type 0
IsPathFrom rule c turn stage b whole [] = whole ≡ false
IsPathFrom rule c turn stage b whole (row t k o r p ∷ es) =
    (own_at rule c turn stage b ≡ Some (row t k o r p)) × (whole ≡ true) × (es ≡ [])
IsPathFrom rule c turn stage b whole (e ∷ es) =
    IsLegal rule c turn stage b e × IsPathFrom rule c turn (next_stage rule c (after c b e) stage e) (after c b e) whole es

abbrev pub IsPath : Rule → Config → Turn → Board → Bool → List Entry → Type 0
IsPath rule c turn b whole es = IsPathFrom rule c turn (opened []) b whole es
