-- The events of a journal as plain data: what `Event` says, without the room that its lists have reserved.
use Rattle.std.specs.Prelude.{ℕ, List, [], ◌∷◌, map, Option, Some, None}
use Rattle.bal_layout.specs.declared.name.Name.{Name}
use Rattle.bal_layout.specs.declared.name.Abort.{Abort}
use Rattle.bal_model.specs.declared.row.Op.{Op}
use Rattle.bal_model.specs.declared.row.Reply.{Reply}
use Rattle.bal_model.specs.declared.row.Row.{Row}
use Rattle.bal_model.specs.declared.row.Reply.TheVariants as reply
use Rattle.bal_model.specs.declared.event.Answer.{Answer}
use Rattle.bal_model.specs.declared.event.Answer.TheVariants as answer
use Rattle.bal_model.specs.declared.event.Kept.{Kept}
use Rattle.bal_model.specs.declared.event.Packed.{Packed}
use Rattle.bal_model.specs.declared.event.Event.{Event}
use Rattle.bal_model.specs.declared.event.Event.TheVariants as event
use Rattle.bal_model.specs.declared.event.Journal.{Journal}

-- where an object was placed
pub record Spot : Type 0 where
  pub region : ℕ
  pub leaves : List ℕ

pub data Entry : Type 0 where
  -- a thread's row with its number: what it does, what it replied, and where an allocation was placed
  row : ℕ → ℕ → Op → Reply → Option Spot → Entry
  -- a card was noted for a region, for the reference in a slot of a holder
  note : ℕ → ℕ → Name → ℕ → Entry
  -- a partial collection: the chosen regions, how many objects were scanned, the kept, and the causes of an abort
  partial : List ℕ → ℕ → List Kept → List Abort → Entry
  begin : Entry
  mark : List Name → Entry
  end : List Name → Entry
  -- a global collection: the dead, and the others as they were packed
  global : List Name → List Packed → Entry

-- what a row replied: for an object that was placed, its name
abbrev pub reply_of : Answer → Reply
reply_of (answer.Replied r) = r
reply_of (answer.Placed name region) = reply.Name name
reply_of (answer.Arraylet name region leaves) = reply.Name name

-- where a row's object was placed, if it made one
abbrev pub spot_of : Answer → Option Spot
spot_of (answer.Replied r) = None
spot_of (answer.Placed name region) = Some (record { region = region; leaves = [] })
spot_of (answer.Arraylet name region leaves) = Some (record { region = region; leaves = leaves.value.list })

abbrev pub entry_of : Event → Entry
entry_of (event.Row thread number op answer) = row thread number op (reply_of answer) (spot_of answer)
entry_of (event.Note region card holder slot) = note region card holder slot
entry_of (event.Partial did) = partial did.value.chosen.list did.value.scans did.value.kept.list did.value.aborts.list
entry_of event.Begin = begin
entry_of (event.Mark names) = mark names.list
entry_of (event.End dead) = end dead.list
entry_of (event.Global dead packed) = global dead.list packed.list

abbrev pub entries_of : Journal → List Entry
entries_of j = map entry_of j.events.list

-- the rows that were executed, all threads together, in the order of their events
abbrev pub executed : List Entry → List Row
executed [] = []
executed (row t k o r p ∷ es) = record { thread = t; op = o } ∷ executed es
executed (e ∷ es) = executed es
