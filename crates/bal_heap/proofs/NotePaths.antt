-- Notes as the beginning of a row's path.
use Rattle.std.proofs.Common.{◌≡◌, Bool, List, [], ◌∷◌, ◌++◌, refl}
use Rattle.bal_model.specs.declared.config.Config.{Config}
use Rattle.bal_model.specs.Entries.{Entry, note, executed}
use Rattle.bal_rules.specs.After.{after_all}
use Rattle.bal_rules.specs.Board.{Board}
use Rattle.bal_rules.specs.Interim.{today}
use Rattle.bal_rules.specs.NoteEvents.{Slot, after_note}
use Rattle.bal_rules.specs.Path.{Turn, IsPathFrom, opened}
use Rattle.bal_heap.specs.Flush.{AreNotes, slots_noted}

-- whatever may follow them makes a path with them
pub notes-path : (c : Config) (turn : Turn) (noted : List Slot) (b : Board) (es : List Entry) (whole : Bool) (more : List Entry) → AreNotes c turn noted b es
    → IsPathFrom today c turn (opened (slots_noted es noted)) (after_all c b es) whole more → IsPathFrom today c turn (opened noted) b whole (es ++ more)
notes-path c turn noted b [] whole more h rest = rest
notes-path c turn noted b (note q card x i ∷ es) whole more h rest =
    (h.0, notes-path c turn (record { holder = x; number = i } ∷ noted) (after_note c b q card) es whole more h.1 rest)
notes-path c turn noted b (e ∷ es) whole more h rest = absurd h

-- they execute no row
pub notes-no-row : (c : Config) (turn : Turn) (noted : List Slot) (b : Board) (es : List Entry) → AreNotes c turn noted b es → executed es ≡ []
notes-no-row c turn noted b [] h = refl
notes-no-row c turn noted b (note q card x i ∷ es) h = notes-no-row c turn (record { holder = x; number = i } ∷ noted) (after_note c b q card) es h.1
notes-no-row c turn noted b (e ∷ es) h = absurd h

-- more notes may come after them
pub notes-more : (c : Config) (turn : Turn) (noted : List Slot) (b : Board) (es more : List Entry) → AreNotes c turn noted b es
    → AreNotes c turn (slots_noted es noted) (after_all c b es) more → AreNotes c turn noted b (es ++ more)
notes-more c turn noted b [] more h rest = rest
notes-more c turn noted b (note q card x i ∷ es) more h rest =
    (h.0, notes-more c turn (record { holder = x; number = i } ∷ noted) (after_note c b q card) es more h.1 rest)
notes-more c turn noted b (e ∷ es) more h rest = absurd h
