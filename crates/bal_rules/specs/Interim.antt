-- What a row may have before its own event, as far as the collector is built. A rule is a record of switches, and each
-- stage of the collector is one value of it. `whole` is the rule of a legal run. The other stages go away as the collector
-- grows, and with the last of them this module.
use Rattle.std.specs.Prelude.{Bool, true, false}

pub record Rule : Type 0 where
  -- an allocation without soft room is placed if there is hard room, and else is told that the heap is full, with no
  -- collection before it
  pub goes_by_hard_room : Bool
  -- an allocation without soft room has the notes of a flush first
  pub notes_cards : Bool
  -- after them it may have a partial collection
  pub evacuates : Bool
  -- after them it may have a global collection, with no partial one before it
  pub compacts_at_once : Bool
  -- a row may ask for a global collection
  pub takes_gc : Bool
  -- after a partial collection come the mark events that are due
  pub marks : Bool

-- there are no collections
abbrev pub placing : Rule
placing = record {
  goes_by_hard_room = true;
  notes_cards = false;
  evacuates = false;
  compacts_at_once = false;
  takes_gc = false;
  marks = false;
}

-- cards are noted, and still there are no collections
abbrev pub noting : Rule
noting = record placing { notes_cards = true }

-- all collections are global
abbrev pub compacting : Rule
compacting = record noting { goes_by_hard_room = false; compacts_at_once = true; takes_gc = true }

-- a partial collection comes first, and a global one if there is no soft room after it
abbrev pub evacuating : Rule
evacuating = record compacting { compacts_at_once = false; evacuates = true }

-- and mark cycles run
abbrev pub whole : Rule
whole = record evacuating { marks = true }

-- the rule of the program as it stands
abbrev pub today : Rule
today = evacuating
