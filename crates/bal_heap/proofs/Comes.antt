-- How the path of a row comes from stage to stage, and how it ends or breaks.
use Rattle.std.proofs.Common.{◌≡◌, ◌≤◌, ◌+◌, ◌^◌, ℕ, List, [], ◌∷◌, ◌++◌, length, Bool, true, false, Option, Some, refl, ap, sym, subst, ◌∙◌, append_assoc, arith}
use Rattle.std.specs.Prelude.{IsTrue, slice_get}
use Rattle.std.specs.List.{AllByRecursion}
use Rattle.std.proofs.lemmas.List.{append-nil}
use Rattle.std.proofs.lemmas.List.Sums.{fold-append}
use Rattle.bal_model.specs.declared.config.Config.{Config}
use Rattle.bal_layout.specs.declared.name.Name.{Name}
use Rattle.bal_model.specs.declared.event.Packed.{Packed}
use Rattle.bal_model.specs.declared.row.Reply.{Reply}
use Rattle.bal_model.specs.declared.row.Row.{Row}
use Rattle.bal_model.specs.Built.{IsTraceRow}
use Rattle.bal_model.specs.Entries.{Entry, Spot, executed, global, partial, row}
use Rattle.bal_rules.specs.After.{after as after_event, after_all}
use Rattle.bal_rules.specs.Board.{Board, opening}
use Rattle.bal_rules.specs.Interim.{today}
use Rattle.bal_rules.specs.NoteEvents.{Slot}
use Rattle.bal_rules.specs.Path.{IsLegal, IsPath, IsPathFrom, Stage, Turn, collected, compacted, lacks_room, opened, own_at}
use Rattle.bal_model.specs.Configs.{IsWithinLimits}
use Rattle.bal_model.specs.Plain.{State, made_by}
use Rattle.bal_rules.specs.Run.{IsRun, MayComeNext, board_of, done_by, rows_of}
use Rattle.bal_rules.proofs.Lemmas.{IsRun-more, executed-append}
use Rattle.bal_heap.specs.Flush.{Flushes, slots_noted}
use Rattle.bal_heap.specs.Heap.{Breaks, Collects, Comes, Evacuates, Executes, IsNext, MeetsBoard, Tells, Told, own_entry, turn_of}
use Rattle.bal_heap.specs.Meets.{IsMet}
use Rattle.bal_heap.specs.Notes.{IsTrueOf}
use Rattle.bal_heap.specs.Turns.{Progress}
use Rattle.bal_heap.proofs.NotePaths.{notes-no-row, notes-path}

pub board_all : (c : Config) (entries more : List Entry) → board_of c (entries ++ more) ≡ after_all c (board_of c entries) more
board_all c entries more = fold-append (after_event c) (opening c) entries more

-- what holds of each, and of one more at the end
pub all-end : (P : Entry → Type 0) (es : List Entry) (e : Entry) → AllByRecursion P es → P e → AllByRecursion P (es ++ e ∷ [])
all-end P [] e h last = (last, tt)
all-end P (x ∷ xs) e h last = (h.0, all-end P xs e h.1 last)

-- The path begins.

pub comes-none : (told : Told) (r : Row) → MeetsBoard told → Comes told told r (opened [])
comes-none told r meets = record {
  config = refl;
  rows = refl;
  events = [];
  grows = sym (append-nil told.entries);
  no_row = refl;
  path = λ whole more h. h;
  notes = tt;
  meets = meets;
}

pub comes-flushed : (before after : Told) (r : Row) (f : Flushes before after r) → Comes before after r (opened (slots_noted f.notes []))
comes-flushed before after r f = record {
  config = f.config;
  rows = f.rows;
  events = f.notes;
  grows = f.grows;
  no_row = notes-no-row before.config (turn_of before r) [] (board_of before.config before.entries) f.notes f.legal;
  path = λ whole more h. notes-path before.config (turn_of before r) [] (board_of before.config before.entries) f.notes whole more f.legal h;
  notes = f.true_of;
  meets = f.meets;
}

-- a heap meets its journal still when more was told, if no row was executed and no object made
pub met-more : (now after : Told) (p : Progress) → IsMet now p → IsRun today after.config after.rows after.entries → MeetsBoard after → after.config ≡ now.config
    → after.rows ≡ now.rows → ((t : ℕ) → done_by t after.entries ≡ done_by t now.entries)
    → (board_of after.config after.entries).plain ≡ (board_of now.config now.entries).plain → IsMet after p
met-more now after p h run meets config rows done plain = record {
  run = run;
  meets = meets;
  rows = h.rows ∙ sym rows;
  threads = h.threads;
  done = λ t less. h.done t less ∙ sym (done t);
  made = λ t. omega (arith, h.made t, done t, ap (λ (s : State). made_by s t) plain);
  each_row = subst (λ (rs : List Row). AllByRecursion (IsTraceRow after.config.geometry) rs) (sym rows)
      (subst (λ (c : Config). AllByRecursion (IsTraceRow c.geometry) now.rows) (sym config) h.each_row);
  few = subst (λ (rs : List Row). length rs ≤ 2 ^ 20) (sym rows) h.few;
  limits = subst IsWithinLimits (sym config) h.limits;
}

-- It has come to some stage.
module _ (before now : Told) (r : Row) (stage : Stage) (k : Comes before now r stage) where
  pub comes-board : board_of now.config now.entries ≡ after_all before.config (board_of before.config before.entries) k.events
  comes-board = ap (λ (c : Config). board_of c now.entries) k.config ∙ (ap (board_of before.config) k.grows ∙ board_all before.config before.entries k.events)

  -- no thread has come further
  pub comes-done : (t : ℕ) → done_by t now.entries ≡ done_by t before.entries
  comes-done t =
      ap (done_by t) k.grows
      ∙ ap (λ (rows : List Row). length (rows_of t rows)) (executed-append before.entries k.events
      ∙ (ap (λ (rows : List Row). executed before.entries ++ rows) k.no_row ∙ append-nil (executed before.entries)))

  pub comes-turn : turn_of now r ≡ turn_of before r
  comes-turn = ap (λ (n : ℕ). record { row = r; number = n + 1 }) (comes-done r.thread)

  -- the row is the next one still
  pub comes-next : IsNext before r → IsNext now r
  comes-next next = record {
    traced = subst (λ (c : Config). IsTraceRow c.geometry r) (sym k.config) next.traced;
    next = ap (λ (rows : List Row). slice_get (rows_of r.thread rows) (done_by r.thread now.entries)) k.rows
        ∙ (ap (slice_get (rows_of r.thread before.rows)) (comes-done r.thread) ∙ next.next);
  }

  -- it may break here
  pub comes-broken : IsNext before r → MayComeNext today before.config before.rows before.entries (record { thread = r.thread; whole = false; events = k.events })
  comes-broken next = record {
    row = r;
    next = next.next;
    path = subst (IsPath today before.config (turn_of before r) (board_of before.config before.entries) false) (append-nil k.events) (k.path false [] refl);
  }

  pub comes-breaks : IsNext before r → Breaks before now r.thread
  comes-breaks next = record { config = k.config; rows = k.rows; path = k.events; grows = k.grows; next = comes-broken next; notes = k.notes; meets = k.meets }

  -- what was told by then is a run
  pub comes-run : IsRun today before.config before.rows before.entries → IsNext before r → IsRun today now.config now.rows now.entries
  comes-run run next =
      subst (λ (c : Config). IsRun today c now.rows now.entries) (sym k.config)
      (subst (λ (rows : List Row). IsRun today before.config rows now.entries) (sym k.rows)
      (subst (IsRun today before.config before.rows) (sym k.grows)
      (IsRun-more today before.config before.rows before.entries (record { thread = r.thread; whole = false; events = k.events }) run (comes-broken next))))

  -- a heap meets its journal there, if no object was made
  pub comes-met : (p : Progress) → IsMet before p → IsNext before r → (board_of now.config now.entries).plain ≡ (board_of before.config before.entries).plain → IsMet now p
  comes-met p h next plain = met-more before now p h (comes-run h.run next) k.meets k.config k.rows comes-done plain

  -- whose own event it is at this stage
  pub comes-own : (own : Entry) → own_at today now.config (turn_of now r) stage (board_of now.config now.entries) ≡ Some own
      → own_at today before.config (turn_of before r) stage (after_all before.config (board_of before.config before.entries) k.events) ≡ Some own
  comes-own own is =
      sym (ap (λ (b : Board). own_at today before.config (turn_of before r) stage b) comes-board)
      ∙ (sym (ap (λ (t : Turn). own_at today before.config t stage (board_of now.config now.entries)) comes-turn)
      ∙ (sym (ap (λ (c : Config). own_at today c (turn_of now r) stage (board_of now.config now.entries)) k.config) ∙ is))

  -- it is the row's own
  pub own-same : (after : Told) (reply : Reply) (own : Entry) (h : Tells now after r reply own) → own ≡ own_entry before r reply h.place
  own-same after reply own h = sym h.is ∙ ap (λ (t : Turn). row r.thread t.number r.op reply h.place) comes-turn

  -- with which the path is whole
  pub comes-whole : (reply : Reply) (place : Option Spot) (own : Entry) → IsNext before r
      → own_at today now.config (turn_of now r) stage (board_of now.config now.entries) ≡ Some own → own ≡ own_entry before r reply place
      → MayComeNext today before.config before.rows before.entries (record { thread = r.thread; whole = true; events = k.events ++ own_entry before r reply place ∷ [] })
  comes-whole reply place own next is same = record {
    row = r;
    next = next.next;
    path = k.path true (own_entry before r reply place ∷ []) (comes-own own is ∙ ap Some same, refl, refl);
  }

  pub comes-grows : (own : Entry) (entries : List Entry) → entries ≡ now.entries ++ own ∷ [] → entries ≡ before.entries ++ (k.events ++ own ∷ [])
  comes-grows own entries e = e ∙ (ap (λ (es : List Entry). es ++ own ∷ []) k.grows ∙ append_assoc before.entries k.events (own ∷ []))

  pub comes-executes : (after : Told) (reply : Reply) (own : Entry) → IsNext before r
      → own_at today now.config (turn_of now r) stage (board_of now.config now.entries) ≡ Some own
      → Tells now after r reply own → Executes before after r.thread reply
  comes-executes after reply own next is h = record {
    config = h.config ∙ k.config;
    rows = h.rows ∙ k.rows;
    path = k.events ++ own_entry before r reply h.place ∷ [];
    grows = comes-grows own after.entries h.grows ∙ ap (λ (e : Entry). before.entries ++ (k.events ++ e ∷ [])) (own-same after reply own h);
    next = comes-whole reply h.place own next is (own-same after reply own h);
    front = k.events;
    op = r.op;
    place = h.place;
    replies = refl;
    notes = all-end (IsTrueOf before.objects.table) k.events (own_entry before r reply h.place) k.notes tt;
    meets = h.meets;
  }

-- One more event comes, which is not the row's own.
module _ (before now after : Told) (r : Row) (stage : Stage) (k : Comes before now r stage) (e : Entry) (config : after.config ≡ now.config) (rows : after.rows ≡ now.rows)
    (grows : after.entries ≡ now.entries ++ e ∷ []) (no-row : executed (e ∷ []) ≡ []) (no-note : IsTrueOf before.objects.table e) (meets : MeetsBoard after) (then : Stage)
    (step : (c : Config) (turn : Turn) (b : Board) (whole : Bool) (more : List Entry) → IsLegal today c turn stage b e
    → IsPathFrom today c turn then (after_event c b e) whole more → IsPathFrom today c turn stage b whole (e ∷ more))
    (legal : IsLegal today now.config (turn_of now r) stage (board_of now.config now.entries) e) where
  legal-there : IsLegal today before.config (turn_of before r) stage (after_all before.config (board_of before.config before.entries) k.events) e
  legal-there = subst (λ (d : Board). IsLegal today before.config (turn_of before r) stage d e) (comes-board before now r stage k)
      (subst (λ (t : Turn). IsLegal today before.config t stage (board_of now.config now.entries) e) (comes-turn before now r stage k)
      (subst (λ (x : Config). IsLegal today x (turn_of now r) stage (board_of now.config now.entries) e) k.config legal))

  pub comes-more : Comes before after r then
  comes-more = record {
    config = config ∙ k.config;
    rows = rows ∙ k.rows;
    events = k.events ++ e ∷ [];
    grows = comes-grows before now r stage k e after.entries grows;
    no_row = executed-append k.events (e ∷ []) ∙ (ap (λ (rs : List Row). rs ++ executed (e ∷ [])) k.no_row ∙ no-row);
    path = λ whole more h. subst (IsPath today before.config (turn_of before r) (board_of before.config before.entries) whole) (sym (append_assoc k.events (e ∷ []) more))
        (k.path whole (e ∷ more) (step before.config (turn_of before r) (after_all before.config (board_of before.config before.entries) k.events) whole more legal-there
        (subst (λ (d : Board). IsPathFrom today before.config (turn_of before r) then d whole more)
        (fold-append (after_event before.config) (board_of before.config before.entries) k.events (e ∷ [])) h)));
    notes = all-end (IsTrueOf before.objects.table) k.events e k.notes no-note;
    meets = meets;
  }

-- A global collection comes.

step-global : (stage : Stage) (dead : List Name) (packed : List Packed) (c : Config) (turn : Turn) (b : Board) (whole : Bool) (more : List Entry)
    → IsLegal today c turn stage b (global dead packed) → IsPathFrom today c turn compacted (after_event c b (global dead packed)) whole more
    → IsPathFrom today c turn stage b whole (global dead packed ∷ more)
step-global stage dead packed c turn b whole more legal h = (legal, h)

pub comes-collected : (before now after : Told) (r : Row) (stage : Stage) → Comes before now r stage → (g : Collects now after)
    → IsLegal today now.config (turn_of now r) stage (board_of now.config now.entries) (global g.dead g.packed) → Comes before after r compacted
comes-collected before now after r stage k g legal =
    comes-more before now after r stage k (global g.dead g.packed) g.config g.rows g.grows refl tt g.meets compacted (step-global stage g.dead g.packed) legal

-- A partial collection comes, after notes alone.

pub comes-evacuated : (before now after : Told) (r : Row) (noted : List Slot) → Comes before now r (opened noted) → Evacuates now after
    → IsTrue (lacks_room now.config (turn_of now r) (board_of now.config now.entries)) → Comes before after r collected
comes-evacuated before now after r noted k g lacks =
    comes-more before now after r (opened noted) k (partial g.chosen g.scans g.kept g.aborts) g.config g.rows g.grows refl tt g.meets collected
    (λ c turn b whole more legal h. (legal, h)) (lacks, g.legal)

-- The row is the next one still after its notes.

pub flush-next : (before after : Told) (r : Row) → IsNext before r → Flushes before after r → IsNext after r
flush-next before after r next f = comes-next before after r (opened (slots_noted f.notes [])) (comes-flushed before after r f) next
