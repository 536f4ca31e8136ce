-- The objects of the heap in words, and the plain state that they stand for.
use Rattle.std.specs.Prelude.{◌≡◌, ◌≤◌, ℕ, ◌+◌, List, [], Option, Some, None, Result, Ok, Err, if◌then◌else◌, length, nat_lt, slice_index_or, slice_set}
use Rattle.std.specs.Option.{ok_or}
use Rattle.bal_barrier.specs.Coverage.{IsCovered, after_store}
use Rattle.bal_cards.specs.Cards.{Cards}
use Rattle.bal_layout.specs.Addresses.{card_of}
use Rattle.bal_eden.specs.Room.{end_of, opened, spot_in, with_allocated}
use Rattle.bal_eden.specs.declared.room.Room.{Room}
use Rattle.bal_layout.specs.References.{target_of, word_of}
use Rattle.bal_layout.specs.declared.header.Header.{Header}
use Rattle.bal_layout.specs.declared.name.Abort.{Abort}
use Rattle.bal_layout.specs.declared.name.Name.{Name}
use Rattle.bal_meet.specs.Heap.{Heap, Meets}
use Rattle.bal_model.specs.Plain.{allocating, next_name, step}
use Rattle.bal_model.specs.declared.config.Config.{Config}
use Rattle.bal_model.specs.declared.event.Kept.{Kept}
use Rattle.bal_model.specs.declared.row.Op.{Op}
use Rattle.bal_model.specs.declared.row.Op.TheVariants as op
use Rattle.bal_model.specs.declared.row.Reply.{Reply}
use Rattle.bal_model.specs.declared.row.Reply.TheVariants as replies
use Rattle.bal_roots.specs.Roots.{global_place, register_place}
use Rattle.bal_rules.specs.Board.{Board}
use Rattle.bal_rules.specs.Packing.{IsEvacuation}
use Rattle.bal_rules.specs.PartialEvents.{after_partial}
use Rattle.bal_rules.specs.RowEvents.{board_with_object}
use Rattle.bal_table.specs.Changes.{with_word_at}
use Rattle.bal_table.specs.Table.{IsTable, Table, refs_in, slot_place, things_of, value_found, word_at}
use Rattle.bal_heap.specs.Request.{requested}
use Rattle.bal_heap.specs.declared.request.Request.{Request}

-- the table, which cards of it were written, the words of registers and globals, and how many objects each thread has made
pub record Objects : Type 0 where
  pub table : Table
  pub cards : Cards
  pub roots : List ℕ
  pub made : List ℕ

abbrev pub made_in : Objects → ℕ → ℕ
made_in o t = slice_index_or o.made t 0

-- the word of a thread's register
abbrev pub word_in : Objects → ℕ → ℕ → ℕ
word_in o t r = slice_index_or o.roots (register_place t r) 0

-- the heap's state by its words. No object is an arraylet yet
abbrev pub heap_of : Objects → Heap
heap_of o = record {
  shape = o.table.shape;
  things = things_of o.table;
  leaves = λ a. [];
  roots = o.roots;
  account = record { made = o.made; regions = o.table.regions; current = o.table.current };
}

-- the objects are the board's: they meet it, and no two of them share a word. Each reference from one region into another
-- lies on a dirty card, or on one that the region remembers into which it leads
pub record AreOnBoard (o : Objects) (b : Board) : Type 0 where
  pub table : IsTable o.table
  pub meets : Meets (heap_of o) b
  pub cards : o.cards.shape ≡ o.table.shape
  pub covered : IsCovered o.table o.cards

-- What a row does to the words.

-- where a slot lies of an object, if there is one
abbrev pub place_from : (ℕ → Option ℕ) → Option ℕ → Result ℕ Reply
place_from find None = Err replies.Nil
place_from find (Some address) = ok_or (find address) replies.Slot

-- where a slot lies of the object to which a word leads, or the reply of a row that finds none there
abbrev pub named_place : (ℕ → Option ℕ) → ℕ → Result ℕ Reply
named_place find word = place_from find (target_of word)

-- the object itself, if it has such a reference slot
abbrev pub holder_found : Table → ℕ → ℕ → Option ℕ
holder_found t slot address = if nat_lt slot (length (refs_in (things_of t address))) then Some address else None

-- the object of the reference slot that a row names by its holder's register and a number, and where the number lies that it
-- names so
abbrev pub slot_holder : Objects → ℕ → ℕ → ℕ → Result ℕ Reply
slot_holder o t holder slot = named_place (holder_found o.table slot) (word_in o t holder)

abbrev pub number_place : Objects → ℕ → ℕ → ℕ → Result ℕ Reply
number_place o t holder slot = named_place (λ a. value_found o.table a slot) (word_in o t holder)

-- the reference in a slot of an object is another, and its card is dirty unless the reference is null
abbrev pub with_reference : Objects → ℕ → ℕ → ℕ → Objects
with_reference o a slot word = record o {
  table = with_word_at o.table (slot_place o.table a slot) word;
  cards = after_store word (card_of (slot_place o.table a slot)) o.cards;
}

-- a number of an object, the word of a register or that of a global is another
abbrev pub with_number : Objects → ℕ → ℕ → Objects
with_number o place word = record o { table = with_word_at o.table place word }

abbrev pub with_root : Objects → ℕ → ℕ → Objects
with_root o place word = record o { roots = slice_set o.roots place word }

-- what is done at a place, if there is one
abbrev pub done_at : Objects → Result ℕ Reply → (ℕ → Objects) → Objects
done_at o (Ok place) act = act place
done_at o (Err reply) act = o

-- the objects after a row that asks for no room: at most one word is another, and only a store makes a card dirty
abbrev pub after_row : Objects → ℕ → Op → Objects
after_row o t (op.Store holder slot value) = done_at o (slot_holder o t holder slot) (λ a. with_reference o a slot (word_in o t value))
after_row o t (op.Load into holder slot) =
    done_at o (slot_holder o t holder slot) (λ a. with_root o (register_place t into) (word_at o.table (slot_place o.table a slot)))
after_row o t (op.Put holder slot number) = done_at o (number_place o t holder slot) (λ place. with_number o place number)
after_row o t (op.GStore global register) = with_root o (global_place global) (word_in o t register)
after_row o t (op.GLoad into global) = with_root o (register_place t into) (slice_index_or o.roots (global_place global) 0)
after_row o t (op.Drop register) = with_root o (register_place t register) 0
after_row o t other = o

-- the object that is asked for is placed in the room, a register takes its word, and its thread has made one more
abbrev pub header_for : Request → Name → Header
header_for q name = record { kind = q.kind; refs = q.refs; values = q.values; name = name }

abbrev pub after_allocation : Objects → ℕ → Request → Room → Name → Objects
after_allocation o t q room name = record o {
  table = with_allocated (opened o.table room) q.want (header_for q name);
  roots = slice_set o.roots (register_place t q.register) (word_of (end_of (opened o.table room)));
  made = slice_set o.made t (made_in o t + 1);
}

-- What an execution promises.

-- a row of a thread that asks for no room was executed, and no word is another but the row's: whatever board was met, the
-- reply is the plain step's, and the board with the state after that step is met then
pub record Performs (before after : Objects) (t : ℕ) (o : Op) (r : Reply) : Type 0 where
  pub words : after ≡ after_row before t o
  pub shape : after.table.shape ≡ before.table.shape
  pub reply : (b : Board) → AreOnBoard before b → r ≡ (step b.plain t o).0
  pub meets : (b : Board) → AreOnBoard before b → AreOnBoard after (record b { plain = (step b.plain t o).1 })

-- a thread made an object in a region, which a register then holds, and no other word is another: it has the thread's next
-- name, and whatever board was met, the one with that object in the region where the request goes is met then
pub record Allocated (before after : Objects) (t : ℕ) (q : Request) (room : Room) (name : Name) (number : ℕ) : Type 0 where
  pub words : after ≡ after_allocation before t q room name
  pub shape : after.table.shape ≡ before.table.shape
  pub name_is : (b : Board) → AreOnBoard before b → name ≡ next_name b.plain t
  pub meets : (b : Board) → AreOnBoard before b
      → AreOnBoard after (board_with_object (next_name b.plain t) q.want (record { region = number; leaves = [] })
      (record b { plain = (allocating b.plain t q.register (requested q)).1 }))
  pub region : number ≡ (spot_in before.table q.want).region

-- regions were collected, at most so many older ones, where each worker copied at most so many objects, if that is limited: whatever
-- board was met, what is told is a partial collection of it, and the board that this leaves is met then
abbrev pub IsEvacuated : Objects → Objects → ℕ → Option ℕ → List ℕ → ℕ → List Kept → List Abort → Type 0
IsEvacuated before after older limit chosen scans kept aborts =
    (c : Config) (b : Board) → c.geometry ≡ before.table.shape → c.older ≡ older → c.abort_after ≡ limit → 1 ≤ c.workers → AreOnBoard before b
    → IsEvacuation c b chosen scans kept aborts × AreOnBoard after (after_partial c b chosen kept)
