-- More notes of a flush: they are told in the journal, and the heap meets the board that they leave.
use Rattle.std.proofs.Common.{◌≡◌, ℕ, zero, suc, ◌+◌, List, [], ◌∷◌, ◌++◌, All, map, Some, option_map, refl, ap, sym, subst, ◌∙◌, append_assoc, arith}
use Rattle.std.specs.Prelude.{IsSome, IsTrue, is_some}
use Rattle.std.specs.List.{AllByRecursion}
use Rattle.std.proofs.lemmas.Option.{get_or_from_slice_get}
use Rattle.bal_barrier.specs.Coverage.{IsCovered}
use Rattle.bal_barrier.specs.Flush.{AreNew, IsFlushed, LeadToObjects, with_note, with_notes, with_states}
use Rattle.bal_barrier.specs.declared.note.Note.{Note}
use Rattle.bal_cards.specs.Cards.{Cards}
use Rattle.bal_layout.specs.declared.region_state.RegionState.{RegionState}
use Rattle.bal_meet.specs.Heap.{Account, Meets}
use Rattle.bal_model.specs.Entries.{Entry, note}
use Rattle.bal_model.specs.declared.config.Config.{Config}
use Rattle.bal_model.specs.declared.row.Row.{Row}
use Rattle.bal_rules.specs.After.{after_all}
use Rattle.bal_rules.specs.Board.{Board}
use Rattle.bal_rules.specs.NoteEvents.{Slot, after_note}
use Rattle.bal_rules.specs.Path.{Turn, lacks_room}
use Rattle.bal_rules.specs.Run.{board_of, done_by}
use Rattle.bal_table.specs.Table.{IsTable, Table, things_of, word_at}
use Rattle.bal_table.proofs.Lemmas.{slot-lies_at}
use Rattle.bal_words.specs.Shown.{Finds}
use Rattle.bal_words.specs.Things.{Thing}
use Rattle.bal_heap.specs.Flush.{AreNotes, Flushes, IsKnown, entry_for, holder_name, slots_noted}
use Rattle.bal_heap.specs.Notes.{IsTrueOf}
use Rattle.bal_heap.specs.Heap.{LacksRoom, Told, turn_of}
use Rattle.bal_heap.specs.Objects.{AreOnBoard, Objects, heap_of}
use Rattle.bal_heap.proofs.Comes.{board_all}
use Rattle.bal_heap.proofs.NoteFacts.{AreTold, notes-told}
use Rattle.bal_heap.proofs.NotePaths.{notes-more}
use Rattle.bal_heap.proofs.NotedRooms.{lacks-noted}

-- The objects.

-- no reference of objects on a board dangles
pub leads-to-objects : (o : Objects) (b : Board) → AreOnBoard o b → LeadToObjects o.table
leads-to-objects o b h = record {
  each = λ a i p s.
      let lies = slot-lies_at o.table a i p h.table s in
      subst (Finds (things_of o.table)) (get_or_from_slice_get lies.thing.refs i (word_at o.table p) 0 lies.read)
      (h.meets.decodes.objects.found a lies.thing lies.is i 0 lies.within);
}

-- after a flush they are on the board with the lists that it leaves
pub flush-keeps : (o : Objects) (u : Table) (d : Cards) (limit : ℕ) (old new : List Note) (f : IsFlushed limit o.table u o.cards d old new)
    → IsTable u → (IsCovered o.table o.cards → IsCovered u d) → (b : Board) → AreOnBoard o b
    → AreOnBoard (record o { table = u; cards = d }) (record b { regions = u.regions })
flush-keeps o u d limit old new f table covers b h = record {
  table = table;
  meets = subst (λ (w : Table). Meets (heap_of (record o { table = w; cards = d })) (record b { regions = w.regions })) (sym f.remembered) (record {
    decodes = h.meets.decodes;
    account = ap (λ (a : Account). record a { regions = with_notes limit o.table.regions f.made }) h.meets.account;
  });
  cards = ap (λ (c : Cards). c.shape) f.clean ∙ (h.cards ∙ sym (ap (λ (w : Table). w.shape) f.remembered));
  covered = covers h.covered;
}

-- each note is of an object
pub new-holders : (limit : ℕ) (t : Table) (regions : List RegionState) (notes : List Note) → IsTable t → AreNew limit t regions notes
    → All (λ (n : Note). IsSome (things_of t n.holder)) notes
new-holders limit t regions [] table new i d less = absurd (omega (arith, less))
new-holders limit t regions (n ∷ ns) table new zero d less =
    let lies = slot-lies_at t n.holder n.slot new.0.place table new.0.crosses.slot in
    ap is_some lies.is
new-holders limit t regions (n ∷ ns) table new (suc i) d less = new-holders limit t (with_note limit regions n) ns table new.1 i d (omega (arith, less))

-- The journal.

-- the board after notes has their cards in its lists
notes-board : (c : Config) (t : Table) (b : Board) (ns : List Note) → after_all c b (map (entry_for t) ns) ≡ record b { regions = with_notes c.cards b.regions ns }
notes-board c t b [] = refl
notes-board c t b (n ∷ ns) = notes-board c t (after_note c b n.region n.card) ns

slots-append : (xs ys : List Entry) (noted : List Slot) → slots_noted (xs ++ ys) noted ≡ slots_noted ys (slots_noted xs noted)
slots-append [] ys noted = refl
slots-append (note q card x i ∷ xs) ys noted = slots-append xs ys (record { holder = x; number = i } ∷ noted)
slots-append (e ∷ xs) ys noted = slots-append xs ys noted

-- what is known says nothing of the states that the table had before
known-states : (t : Table) (regions : List RegionState) (slots : List Slot) → AllByRecursion (IsKnown t regions) slots
    → AllByRecursion (IsKnown (with_states t regions) regions) slots
known-states t regions [] h = tt
known-states t regions (s ∷ ss) h = (record { known = h.0.known }, known-states t regions ss h.1)

-- a row that lacks room lacks it while notes are told
pub lacks-told : (c : Config) (turn : Turn) (noted : List Slot) (b : Board) (es : List Entry) → AreNotes c turn noted b es
    → lacks_room c turn (after_all c b es) ≡ lacks_room c turn b
lacks-told c turn noted b [] h = refl
lacks-told c turn noted b (note q card x i ∷ es) h =
    lacks-told c turn (record { holder = x; number = i } ∷ noted) (after_note c b q card) es h.1 ∙ lacks-noted c turn b q card
lacks-told c turn noted b (e ∷ es) h = absurd h

-- so it does after a flush
pub lacks-flushed : (before now : Told) (r : Row) (f : Flushes before now r) → LacksRoom before r
    → LacksRoom now r
lacks-flushed before now r f lacks =
    subst (λ (c : Config). IsTrue (lacks_room c (turn_of now r) (board_of c now.entries))) (sym f.config)
    (subst (λ (es : List Entry). IsTrue (lacks_room before.config (record { row = r; number = done_by r.thread es + 1 }) (board_of before.config es))) (sym f.grows)
    (ap (lacks_room before.config (turn_of before r)) (board_all before.config before.entries f.notes)
    ∙ (lacks-told before.config (turn_of before r) [] (board_of before.config before.entries) f.notes f.legal ∙ lacks)))

-- what a note says of the words says nothing of the regions' states
true-states : (t : Table) (regions : List RegionState) (es : List Entry) → AllByRecursion (IsTrueOf (with_states t regions)) es → AllByRecursion (IsTrueOf t) es
true-states t regions [] h = tt
true-states t regions (note q card x i ∷ es) h = (
  record {
    address = h.0.address;
    place = h.0.place;
    target = h.0.target;
    named = h.0.named;
    crosses = record {
      slot = let s = h.0.crosses.slot in record { object = s.object; header = s.header; is = s.is; read = s.read; within = s.within; at = s.at };
      leads = h.0.crosses.leads;
      apart = h.0.crosses.apart;
    };
    into = h.0.into;
    on = h.0.on;
  },
  true-states t regions es h.1,
)
true-states t regions (e ∷ es) h = (tt, true-states t regions es h.1)

-- what is new when it comes is true
new-true : (limit : ℕ) (t : Table) (regions : List RegionState) (notes : List Note) → IsTable t → AreNew limit t regions notes
    → AllByRecursion (IsTrueOf t) (map (entry_for t) notes)
new-true limit t regions [] table new = tt
new-true limit t regions (n ∷ ns) table new =
    let lies = slot-lies_at t n.holder n.slot new.0.place table new.0.crosses.slot in (
      record {
        address = n.holder;
        place = new.0.place;
        target = new.0.target;
        named = ap (option_map (λ (x : Thing). x.name)) lies.is ∙ ap Some (sym (ap holder_name lies.is));
        crosses = new.0.crosses;
        into = new.0.into;
        on = new.0.on;
      },
      new-true limit t (with_note limit regions n) ns table new.1,
    )

all-both : (P : Entry → Type 0) (xs ys : List Entry) → AllByRecursion P xs → AllByRecursion P ys → AllByRecursion P (xs ++ ys)
all-both P [] ys h more = more
all-both P (x ∷ xs) ys h more = (h.0, all-both P xs ys h.1 more)

-- what a heap has told once it has told these notes too
abbrev pub noting_more : Told → Table → Cards → List Note → Told
noting_more now u d made = record {
  config = now.config;
  rows = now.rows;
  entries = now.entries ++ map (entry_for now.objects.table) made;
  objects = record now.objects { table = u; cards = d };
}

pub flush-more : (before now : Told) (r : Row) (u : Table) (d : Cards) (made : List Note) → Flushes before now r
    → LacksRoom now r
    → u ≡ with_states now.objects.table (with_notes now.config.cards now.objects.table.regions made)
    → AreNew now.config.cards now.objects.table now.objects.table.regions made
    → ((b : Board) → AreOnBoard now.objects b → AreOnBoard (record now.objects { table = u; cards = d }) (record b { regions = u.regions }))
    → Flushes before (noting_more now u d made) r
flush-more before now r u d made f lacks table new met = record {
  config = f.config;
  rows = f.rows;
  notes = f.notes ++ more;
  grows = ap (λ (es : List Entry). es ++ more) f.grows ∙ append_assoc before.entries f.notes more;
  legal = notes-more before.config (turn_of before r) [] start f.notes more f.legal legal;
  words = table ∙ (ap (λ (w : Table). with_states w states) f.words ∙ sym (ap (λ (w : Table). with_states before.objects.table w.regions) table));
  true_of = all-both (IsTrueOf before.objects.table) f.notes more f.true_of
      (true-states before.objects.table now.objects.table.regions more (subst (λ (w : Table). AllByRecursion (IsTrueOf w) more) f.words
      (new-true now.config.cards now.objects.table now.objects.table.regions made on.table new)));
  known = subst (λ (w : Table). AllByRecursion (IsKnown w w.regions) (slots_noted (f.notes ++ more) [])) (sym table)
      (known-states now.objects.table states (slots_noted (f.notes ++ more) [])
      (subst (AllByRecursion (IsKnown now.objects.table states)) (sym (slots-append f.notes more [])) told.known));
  meets = record {
    shape = ap (λ (w : Table). w.shape) table ∙ f.meets.shape;
    objects_are = subst (AreOnBoard (record now.objects { table = u; cards = d })) (sym settles) (met board on);
  };
}
  where
    more : List Entry
    more = map (entry_for now.objects.table) made

    start : Board
    start = board_of before.config before.entries

    board : Board
    board = board_of now.config now.entries

    states : List RegionState
    states = with_notes now.config.cards now.objects.table.regions made

    on : AreOnBoard now.objects board
    on = f.meets.objects_are

    told : AreTold now.config (turn_of before r) now.objects now.objects.table.regions board (slots_noted f.notes []) made
    told = notes-told now.config (turn_of before r) now.objects now.objects.table.regions board (slots_noted f.notes []) made
        (sym f.meets.shape) on.table on.table.regions lacks on.meets f.known new

    here : board ≡ after_all before.config start f.notes
    here = ap (λ (c : Config). board_of c now.entries) f.config ∙ (ap (board_of before.config) f.grows ∙ board_all before.config before.entries f.notes)

    legal : AreNotes before.config (turn_of before r) (slots_noted f.notes []) (after_all before.config start f.notes) more
    legal = subst (λ (b : Board). AreNotes before.config (turn_of before r) (slots_noted f.notes []) b more) here
        (subst (λ (c : Config). AreNotes c (turn_of before r) (slots_noted f.notes []) board more) f.config told.legal)

    settles : board_of now.config (now.entries ++ more) ≡ record board { regions = u.regions }
    settles = board_all now.config now.entries more ∙ (notes-board now.config now.objects.table board made
        ∙ (ap (λ (rs : List RegionState). record board { regions = with_notes now.config.cards rs made }) (sym (ap (λ (a : Account). a.regions) on.meets.account))
        ∙ sym (ap (λ (w : Table). record board { regions = w.regions }) table)))

-- what a heap has told once a flush has told its notes
pub part-told : (now : Told) (o : Objects) (old new : List Note) (entries : List Entry)
    (f : IsFlushed now.config.cards now.objects.table o.table now.objects.cards o.cards old new) → old ≡ []
    → o ≡ record now.objects { table = o.table; cards = o.cards } → entries ≡ now.entries ++ map (entry_for o.table) new
    → ◌≡◌ {A = Told} (record { config = now.config; rows = now.rows; entries = entries; objects = o }) (noting_more now o.table o.cards f.made)
part-told now o old new entries f none words grows =
    let made : new ≡ f.made = f.told ∙ ap (λ (ns : List Note). ns ++ f.made) none in
    let same : map (entry_for o.table) new ≡ map (entry_for now.objects.table) f.made =
    ap (λ (w : Table). map (entry_for w) new) f.remembered ∙ ap (map (entry_for now.objects.table)) made in
    ap (λ (es : List Entry). record { config = now.config; rows = now.rows; entries = es; objects = o }) (grows ∙ ap (λ (es : List Entry). now.entries ++ es) same)
    ∙ ap (λ (x : Objects). record { config = now.config; rows = now.rows; entries = now.entries ++ map (entry_for now.objects.table) f.made; objects = x }) words
