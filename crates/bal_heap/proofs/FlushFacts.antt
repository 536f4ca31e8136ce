-- A row's own event as a path of its own, and after the notes of a flush.
use Rattle.std.proofs.Common.{◌≡◌, List, [], ◌∷◌, None, refl, ap, sym, subst, ◌∙◌}
use Rattle.std.proofs.lemmas.Bool.{false≢true}
use Rattle.std.proofs.lemmas.List.{append-nil}
use Rattle.std.proofs.lemmas.Option.{same_Some}
use Rattle.std.specs.Prelude.{slice_get}
use Rattle.bal_model.specs.declared.config.Config.{Config}
use Rattle.bal_model.specs.declared.row.Row.{Row}
use Rattle.bal_model.specs.Entries.{Entry, note}
use Rattle.bal_rules.specs.After.{after, after_all}
use Rattle.bal_rules.specs.Board.{Board}
use Rattle.bal_rules.specs.NoteEvents.{Slot, after_note}
use Rattle.bal_rules.specs.Path.{Turn, lacks_room_for, opened}
use Rattle.bal_rules.specs.RowEvents.{want_of}
use Rattle.bal_rules.specs.Run.{board_of, done_by, rows_of}
use Rattle.bal_heap.specs.Flush.{AreNotes, FlushedFirst, Flushes, HasFlushed, slots_noted}
use Rattle.bal_heap.specs.Heap.{IsNext, LacksRoom, MeetsBoard, Told, turn_of}
use Rattle.bal_heap.specs.Meets.{IsMet}
use Rattle.bal_heap.specs.Turns.{Progress}
use Rattle.bal_heap.proofs.Comes.{board_all, comes-flushed, comes-met}

-- where nothing is noted
pub no-flush : (told : Told) (r : Row) → MeetsBoard told → Flushes told told r
no-flush told r meets = record { config = refl; rows = refl; notes = []; grows = sym (append-nil told.entries); legal = tt; words = refl; true_of = tt; known = tt; meets = meets }

-- what the execution of a row promises of its flush, it promises of its thread's next row, since a thread has one next row
pub has-flushed : (before after : Told) (r : Row) → IsNext before r → (LacksRoom before r → FlushedFirst before after r) → HasFlushed before after r.thread
has-flushed before after r next flushed s s-next same lacks = subst (FlushedFirst before after) (sym one) (flushed (subst (LacksRoom before) one lacks))
  where
    at : slice_get (rows_of s.thread before.rows) (done_by s.thread before.entries) ≡ slice_get (rows_of r.thread before.rows) (done_by r.thread before.entries)
    at = ap (λ t. slice_get (rows_of t before.rows) (done_by t before.entries)) same

    one : s ≡ r
    one = same_Some s r (sym s-next.next ∙ (at ∙ next.next))

-- a row that asks for no room lacks none
pub lacks-none : (told : Told) (r : Row) → want_of told.config.geometry r.op ≡ None → LacksRoom told r → ⊥
lacks-none told r none lacks = false≢true (sym (ap (lacks_room_for told.config (board_of told.config told.entries)) none) ∙ lacks)

-- what was told of the board's plain state stays
plain-noted : (c : Config) (turn : Turn) (noted : List Slot) (b : Board) (es : List Entry) → AreNotes c turn noted b es → (after_all c b es).plain ≡ b.plain
plain-noted c turn noted b [] h = refl
plain-noted c turn noted b (note q card x i ∷ es) h = plain-noted c turn (record { holder = x; number = i } ∷ noted) (after_note c b q card) es h.1
plain-noted c turn noted b (e ∷ es) h = absurd h

-- a heap meets its journal after a flush too
pub flush-met : (before after : Told) (p : Progress) (r : Row) → IsMet before p → IsNext before r → Flushes before after r → IsMet after p
flush-met before after p r h next f = comes-met before after r (opened (slots_noted f.notes [])) (comes-flushed before after r f) p h next plain
  where
    plain : (board_of after.config after.entries).plain ≡ (board_of before.config before.entries).plain
    plain = ap (λ (c : Config). (board_of c after.entries).plain) f.config
        ∙ (ap (λ (es : List Entry). (board_of before.config es).plain) f.grows
        ∙ (ap (λ (b : Board). b.plain) (board_all before.config before.entries f.notes)
        ∙ plain-noted before.config (turn_of before r) [] (board_of before.config before.entries) f.notes f.legal))
