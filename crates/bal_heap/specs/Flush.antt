-- What a flush tells: the notes that come before an allocation without soft room.
use Rattle.std.specs.Prelude.{◌≡◌, ⊤, ℕ, IsTrue, List, [], ◌∷◌, ◌++◌, Option, None, Some, slice_get}
use Rattle.std.specs.List.{AllByRecursion}
use Rattle.bal_barrier.specs.Flush.{with_states}
use Rattle.bal_barrier.specs.declared.note.Note.{Note}
use Rattle.bal_layout.specs.Addresses.{card_of, region_of}
use Rattle.bal_layout.specs.References.{word_of}
use Rattle.bal_layout.specs.Regions.{region_at}
use Rattle.bal_layout.specs.declared.name.Name.{Name}
use Rattle.bal_layout.specs.declared.region_state.RegionState.{RegionState}
use Rattle.bal_remember.specs.Remembered.{remembers}
use Rattle.bal_table.specs.Table.{Table, slot_place, things_of}
use Rattle.bal_words.specs.Things.{Thing}
use Rattle.bal_model.specs.declared.config.Config.{Config}
use Rattle.bal_model.specs.declared.row.Row.{Row}
use Rattle.bal_model.specs.Entries.{Entry, note}
use Rattle.bal_rules.specs.Board.{Board}
use Rattle.bal_rules.specs.Interim.{today}
use Rattle.bal_rules.specs.NoteEvents.{Slot, after_note}
use Rattle.bal_rules.specs.Path.{Turn, IsLegal, opened}
use Rattle.bal_rules.specs.Run.{board_of}
use Rattle.bal_heap.specs.Heap.{IsNext, LacksRoom, MeetsBoard, Told, turn_of}
use Rattle.bal_heap.specs.Notes.{IsTrueOf}

-- these are notes, each legal on the board that those before it left, when these slots were noted
abbrev pub AreNotes : Config → Turn → List Slot → Board → List Entry → Type 0
AreNotes c turn noted b [] = ⊤
AreNotes c turn noted b (note q card holder slot ∷ es) =
    IsLegal today c turn (opened noted) b (note q card holder slot)
    × AreNotes c turn (record { holder = holder; number = slot } ∷ noted) (after_note c b q card) es
AreNotes c turn noted b (e ∷ es) = ⊥

-- the slots of these notes, with those that were noted before
abbrev pub slots_noted : List Entry → List Slot → List Slot
slots_noted [] noted = noted
slots_noted (note q card holder slot ∷ es) noted = slots_noted es (record { holder = holder; number = slot } ∷ noted)
slots_noted (e ∷ es) noted = slots_noted es noted

-- a slot's card is remembered by the region into which its reference leads. So it is not noted again
pub record IsKnown (t : Table) (regions : List RegionState) (s : Slot) : Type 0 where
  pub known : (a target : ℕ) (x : Thing) → things_of t a ≡ Some x → x.name ≡ s.holder → slice_get x.refs s.number ≡ Some (word_of target)
      → IsTrue (remembers (region_at regions (region_of t.shape target)).remembered (card_of (slot_place t a s.number)))

-- the event of a note in the table: it names the holder
abbrev pub holder_name : Option Thing → Name
holder_name None = record { thread = 0; ordinal = 0 }
holder_name (Some x) = x.name

abbrev pub entry_for : Table → Note → Entry
entry_for t n = note n.region n.card (holder_name (things_of t n.holder)) n.slot

-- notes of a row were told, and nothing else happened: no word is another, the notes are true of the words, and these are
-- those of the board that the notes leave
pub record Flushes (before after : Told) (r : Row) : Type 0 where
  pub config : after.config ≡ before.config
  pub rows : after.rows ≡ before.rows
  pub notes : List Entry
  pub grows : after.entries ≡ before.entries ++ notes
  pub legal : AreNotes before.config (turn_of before r) [] (board_of before.config before.entries) notes
  pub words : after.objects.table ≡ with_states before.objects.table after.objects.table.regions
  pub true_of : AllByRecursion (IsTrueOf before.objects.table) notes
  pub known : AllByRecursion (IsKnown after.objects.table after.objects.table.regions) (slots_noted notes [])
  pub meets : MeetsBoard after

-- the execution of a row began with the notes of a flush, after which no card was dirty
pub record FlushedFirst (before after : Told) (r : Row) : Type 0 where
  pub middle : Told
  pub flushes : Flushes before middle r
  pub clean : middle.objects.cards.list ≡ []
  pub rest : List Entry
  pub grows : after.entries ≡ middle.entries ++ rest

-- if the thread's next row lacked room, its execution flushed: the journal came, by notes alone, to where no card was dirty
abbrev pub HasFlushed : Told → Told → ℕ → Type 0
HasFlushed before after thread = (r : Row) → IsNext before r → r.thread ≡ thread → LacksRoom before r → FlushedFirst before after r
