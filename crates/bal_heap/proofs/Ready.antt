-- At which stage the own event of a row may come: at once, or after a global collection.
use Rattle.std.proofs.Common.{◌≡◌, ◌∷◌, ◌++◌, [], ℕ, List, Bool, true, false, cond, not, Option, Some, None, refl, ap, append_assoc, sym, subst, ◌∙◌}
use Rattle.std.specs.Prelude.{◌&&◌, ◌||◌, Err, IfOk, IsTrue, Ok, OnErr, Result, length, nat_lt}
use Rattle.std.specs.List.{AllByRecursion}
use Rattle.std.proofs.lemmas.Bool.{true≢false}
use Rattle.bal_layout.specs.Regions.{eden_regions}
use Rattle.bal_layout.specs.Shape.{Shape}
use Rattle.bal_layout.specs.declared.geometry.Want.{Want}
use Rattle.bal_layout.specs.declared.name.Abort.{Abort}
use Rattle.bal_layout.specs.declared.name.Name.{Name}
use Rattle.bal_layout.specs.declared.region_state.RegionState.{RegionState}
use Rattle.bal_model.specs.Built.{IsTraceRow}
use Rattle.bal_model.specs.Entries.{Entry, global, partial}
use Rattle.bal_model.specs.Spelling.{IsRow}
use Rattle.bal_model.specs.declared.config.Config.{Config}
use Rattle.bal_model.specs.declared.event.Kept.{Kept}
use Rattle.bal_model.specs.declared.event.Packed.{Packed}
use Rattle.bal_model.specs.declared.row.Reply.{Reply}
use Rattle.bal_model.specs.declared.row.Row.{Row}
use Rattle.bal_rules.specs.Board.{Board}
use Rattle.bal_rules.specs.Full.{is_full_allowed}
use Rattle.bal_rules.specs.GlobalEvents.{IsGlobal, after_global}
use Rattle.bal_rules.specs.Interim.{today}
use Rattle.bal_rules.specs.Packing.{IsEvacuation}
use Rattle.bal_rules.specs.PartialEvents.{after_partial}
use Rattle.bal_rules.specs.Path.{IsLegal, Stage, Turn, allocation_at, collected, compacted, full_event, hard_room, is_gc, lacks_room, lacks_room_for, may_start_global, opened, own_for, placed_event, soft_room}
use Rattle.bal_rules.specs.Room.{has_fresh_room, has_hard_room, has_room_here, has_soft_room}
use Rattle.bal_rules.specs.RowEvents.{want_of}
use Rattle.bal_rules.specs.Run.{board_of}
use Rattle.bal_rules.proofs.Lemmas.{board_of-more, full-after, run-occupied}
use Rattle.bal_heap.specs.Flush.{FlushedFirst, Flushes}
use Rattle.bal_heap.specs.Heap.{Breaks, Collects, Comes, Evacuates, Executes, IsNext, IsReady, LacksRoom, MayCompact, MayEndBy, Tells, Told, allocation_event, plain_event, turn_of}
use Rattle.bal_heap.specs.Meets.{IsMet}
use Rattle.bal_heap.specs.Objects.{AreOnBoard, IsEvacuated, Objects}
use Rattle.bal_heap.specs.Turns.{Progress}
use Rattle.bal_heap.proofs.Comes.{comes-breaks, comes-collected, comes-done, comes-evacuated, comes-executes, comes-met, comes-next, comes-none, comes-run, met-more}
use Rattle.bal_heap.proofs.HeapFacts.{board_now}

-- what has soft room has hard room
soft-hard : (s : Shape) (eden : ℕ) (rs : List RegionState) (cur : Option ℕ) (w : Want) → has_hard_room s rs cur w ≡ false → has_soft_room s eden rs cur w ≡ false
soft-hard s eden rs cur w none =
    let parts = or-false (has_room_here s rs cur w) (has_fresh_room rs w) none in
    ap (λ x. x || (nat_lt (length (eden_regions rs)) eden && has_fresh_room rs w)) parts.0 ∙ ap (λ x. nat_lt (length (eden_regions rs)) eden && x) parts.1 ∙ and-false (nat_lt (length (eden_regions rs)) eden)
  where
    or-false : (a b : Bool) → (a || b) ≡ false → (a ≡ false) × (b ≡ false)
    or-false true b e = absurd (true≢false e)
    or-false false b e = (refl, e)

    and-false : (a : Bool) → (a && false) ≡ false
    and-false true = refl
    and-false false = refl

-- an allocation's own event where it has soft room
own-soft : (c : Config) (turn : Turn) (b : Board) (w : Want) → soft_room c b w ≡ true
    → allocation_at today c turn (opened []) b w ≡ Some (cond (hard_room c b w) (placed_event c turn b w) (full_event turn))
own-soft c turn b w soft = by (hard_room c b w) refl
  where
    by : (hard : Bool) → hard_room c b w ≡ hard → allocation_at today c turn (opened []) b w ≡ Some (cond hard (placed_event c turn b w) (full_event turn))
    by true e = ap (λ x. cond x (Some (placed_event c turn b w)) None) soft
    by false e = absurd (true≢false (sym soft ∙ soft-hard c.geometry c.eden b.regions b.current w e))

-- and after a partial collection
own-evacuated : (c : Config) (turn : Turn) (b : Board) (w : Want) → soft_room c b w ≡ true
    → allocation_at today c turn collected b w ≡ Some (cond (hard_room c b w) (placed_event c turn b w) (full_event turn))
own-evacuated c turn b w soft = own-soft c turn b w soft

-- and after a global one
own-collected : (c : Config) (turn : Turn) (b : Board) (w : Want) → (hard_room c b w ≡ false → is_full_allowed c.geometry b.plain w ≡ true)
    → allocation_at today c turn compacted b w ≡ Some (cond (hard_room c b w) (placed_event c turn b w) (full_event turn))
own-collected c turn b w full = by (hard_room c b w) full
  where
    by : (hard : Bool) → (hard ≡ false → is_full_allowed c.geometry b.plain w ≡ true)
        → cond hard (Some (placed_event c turn b w)) (cond (is_full_allowed c.geometry b.plain w) (Some (full_event turn)) None) ≡ Some (cond hard (placed_event c turn b w) (full_event turn))
    by true full = refl
    by false full = ap (λ x. cond x (Some (full_event turn)) None) (full refl)

not-true : (x : Bool) → not x ≡ false → x ≡ true
not-true true e = refl
not-true false e = absurd (true≢false e)

-- an allocation with soft room may be placed at once
pub ready-soft : (told : Told) (p : Progress) (r : Row) (w : Want) → IsMet told p → IsNext told r → want_of told.config.geometry r.op ≡ Some w
    → lacks_room told.config (turn_of told r) (board_of told.config told.entries) ≡ false → IsReady told told r (allocation_event told r w)
ready-soft told p r w h next asks lacks = record {
  stage = opened [];
  comes = comes-none told r h.meets;
  own_is = ap (own_for today told.config (turn_of told r) (opened []) b) asks
      ∙ own-soft told.config (turn_of told r) b w (not-true (soft_room told.config b w) (sym (ap (lacks_room_for told.config b) asks) ∙ lacks));
}
  where
    b : Board
    b = board_now told

-- a row that asks for no room, unless it is a `gc`
pub ready-plain : (told : Told) (p : Progress) (r : Row) → IsMet told p → IsNext told r → want_of told.config.geometry r.op ≡ None → is_gc r.op ≡ false
    → IsReady told told r (plain_event told r)
ready-plain told p r h next asks other = record {
  stage = opened [];
  comes = comes-none told r h.meets;
  own_is = ap (own_for today told.config (turn_of told r) (opened []) (board_now told)) asks ∙ ap (λ x. cond x None (Some (plain_event told r))) other;
}

-- An allocation that has soft room after a partial collection may be placed then.
pub ready-evacuated : (start now : Told) (r : Row) (w : Want) → Comes start now r collected → want_of now.config.geometry r.op ≡ Some w
    → lacks_room now.config (turn_of now r) (board_of now.config now.entries) ≡ false → IsReady start now r (allocation_event now r w)
ready-evacuated start now r w k asks lacks = record {
  stage = collected;
  comes = k;
  own_is = ap (own_for today now.config (turn_of now r) collected b) asks
      ∙ own-evacuated now.config (turn_of now r) b w (not-true (soft_room now.config b w) (sym (ap (lacks_room_for now.config b) asks) ∙ lacks));
}
  where
    b : Board
    b = board_now now

-- After a global collection.
module _ (start now after : Told) (r : Row) (stage : Stage) (k : Comes start now r stage) (g : Collects now after)
    (legal : IsLegal today now.config (turn_of now r) stage (board_of now.config now.entries) (global g.dead g.packed)) where
  -- an allocation is placed, or told that the heap is full
  pub ready-collected : (w : Want) → want_of after.config.geometry r.op ≡ Some w → IsReady start after r (allocation_event after r w)
  ready-collected w asks = record {
    stage = compacted;
    comes = comes-collected start now after r stage k g legal;
    own_is = ap (own_for today after.config (turn_of after r) compacted (board_now after)) asks
        ∙ own-collected after.config (turn_of after r) (board_now after) w (g.full w);
  }

  -- and a `gc` replies
  pub ready-gc : want_of after.config.geometry r.op ≡ None → is_gc r.op ≡ true → IsReady start after r (plain_event after r)
  ready-gc asks is = record {
    stage = compacted;
    comes = comes-collected start now after r stage k g legal;
    own_is = ap (own_for today after.config (turn_of after r) compacted (board_now after)) asks ∙ ap (λ x. cond x (Some (plain_event after r)) None) is;
  }

-- What is ready.

pub may-end : (start now : Told) (p : Progress) (r : Row) (own : Entry) → IsMet start p → IsNext start r → IsReady start now r own → MayEndBy now r own
may-end start now p r own h next ready = record { start = start; run = h.run; next = next; ready = ready }

-- the row is the next one still
pub ready-next : {own : Entry} (start now : Told) (r : Row) → IsReady start now r own → IsNext start r → IsNext now r
ready-next start now r k next = comes-next start now r k.stage k.comes next

-- if memory is refused then, or else when the event was told
pub ready-ends : {E : Type 0} (start now after : Told) (r : Row) (own : Entry) (result : Result Reply E) → IsNext start r → IsReady start now r own
    → IfOk result (λ reply. Tells now after r reply own) → OnErr result (after ≡ now)
    → IfOk result (Executes start after r.thread) × OnErr result (Breaks start after r.thread)
ready-ends start now after r own (Ok reply) next ready tells same = (comes-executes start now r ready.stage ready.comes after reply own next ready.own_is tells, tt)
ready-ends start now after r own (Err e) next ready tells same =
    (tt, subst (λ (x : Told). Breaks start x r.thread) (sym same) (comes-breaks start now r ready.stage ready.comes next))

-- what began with a flush still did when one event more was told, or a collection
pub flushed-more : (start now : Told) (entries more : List Entry) (after : Told) (r : Row) → FlushedFirst start now r → entries ≡ now.entries → after.entries ≡ entries ++ more
    → FlushedFirst start after r
flushed-more start now entries more after r f same grows = record {
  middle = f.middle;
  flushes = f.flushes;
  clean = f.clean;
  rest = f.rest ++ more;
  grows = grows ∙ (ap (λ (es : List Entry). es ++ more) (same ∙ f.grows) ∙ append_assoc f.middle.entries f.rest more);
}

pub flushed-told : {E : Type 0} (start now after : Told) (r : Row) (own : Entry) (result : Result Reply E) → (LacksRoom start r → FlushedFirst start now r)
    → IfOk result (λ reply. Tells now after r reply own) → IfOk result (λ reply. LacksRoom start r → FlushedFirst start after r)
flushed-told start now after r own (Ok reply) first tells = λ lacks. flushed-more start now now.entries (own ∷ []) after r (first lacks) refl tells.grows
flushed-told start now after r own (Err e) first tells = tt

pub flushed-evacuated : (start middle now : Told) (r : Row) → Flushes start middle r → middle.objects.cards.list ≡ [] → Evacuates middle now → FlushedFirst start now r
flushed-evacuated start middle now r f clean g =
    record { middle = middle; flushes = f; clean = clean; rest = partial g.chosen g.scans g.kept g.aborts ∷ []; grows = g.grows }

pub flushed-collected : (start now after : Told) (r : Row) → FlushedFirst start now r → Collects now after → FlushedFirst start after r
flushed-collected start now after r f g = flushed-more start now now.entries (global g.dead g.packed ∷ []) after r f refl g.grows

-- A row may have a global collection if it is a `gc`, and if it lacks room after a partial one.

pub gc-may : (c : Config) (turn : Turn) (b : Board) → is_gc turn.row.op ≡ true → IsTrue (may_start_global today c turn b)
gc-may c turn b is = ap (λ x. x || false) is

pub may-asking : (told : Told) (p : Progress) (r : Row) → IsMet told p → IsNext told r → is_gc r.op ≡ true → MayCompact told r
may-asking told p r h next is = record {
  start = told;
  run = h.run;
  next = next;
  stage = opened [];
  comes = comes-none told r h.meets;
  legal = λ dead packed g. (gc-may told.config (turn_of told r) (board_now told) is, g);
}

pub may-lacking : (start now : Told) (p : Progress) (r : Row) → IsMet start p → IsNext start r → Comes start now r collected
    → lacks_room now.config (turn_of now r) (board_of now.config now.entries) ≡ true → MayCompact now r
may-lacking start now p r h next k lacks = record {
  start = start;
  run = h.run;
  next = next;
  stage = collected;
  comes = k;
  legal = λ dead packed g. (lacks, g);
}

-- the rows of a trace are in their limits
in-range : (s : Shape) (rows : List Row) → AllByRecursion (IsTraceRow s) rows → AllByRecursion (IsRow s) rows
in-range s [] each = tt
in-range s (r ∷ rows) each = (each.0.in_range, in-range s rows each.1)

-- a heap that a global collection leaves without room is really full
pub really-full : (told : Told) (p : Progress) (dead : List Name) (packed : List Packed) (w : Want) → IsMet told p → IsGlobal told.config (board_now told) dead packed
    → hard_room told.config (after_global told.config (board_now told) dead packed) w ≡ false → is_full_allowed told.config.geometry (board_now told).plain w ≡ true
really-full told p dead packed w h g none =
    full-after told.config (board_now told) dead packed w
    (run-occupied today told.config told.rows told.entries h.limits.geometry (in-range told.config.geometry told.rows h.each_row) h.run) g none

-- What a heap has told once a global collection was, and that it meets its journal then.

abbrev pub collecting : Told → Objects → List Name → List Packed → Told
collecting told o dead packed = record { config = told.config; rows = told.rows; entries = told.entries ++ global dead packed ∷ []; objects = o }

module _ (told : Told) (p : Progress) (o : Objects) (dead : List Name) (packed : List Packed) (h : IsMet told p)
    (event : (c : Config) (b : Board) → c.geometry ≡ told.objects.table.shape → AreOnBoard told.objects b → IsGlobal c b dead packed × AreOnBoard o (after_global c b dead packed))
    (shape : o.table.shape ≡ told.objects.table.shape) where
  board-after : board_of told.config (told.entries ++ global dead packed ∷ []) ≡ after_global told.config (board_of told.config told.entries) dead packed
  board-after = board_of-more told.config told.entries (global dead packed)

  done-so : IsGlobal told.config (board_now told) dead packed × AreOnBoard o (after_global told.config (board_now told) dead packed)
  done-so = event told.config (board_now told) (sym h.meets.shape) h.meets.objects_are

  pub collects : Collects told (collecting told o dead packed)
  collects = record {
    config = refl;
    rows = refl;
    dead = dead;
    packed = packed;
    grows = refl;
    legal = done-so.0;
    meets = record { shape = shape ∙ h.meets.shape; objects_are = subst (AreOnBoard o) (sym board-after) done-so.1 };
    full = λ w none. ap (λ (b : Board). is_full_allowed told.config.geometry b.plain w) board-after
        ∙ really-full told p dead packed w h done-so.0 (ap (λ (b : Board). hard_room told.config b w) (sym board-after) ∙ none);
  }

  pub collect-met : (r : Row) → MayCompact told r → IsMet (collecting told o dead packed) p
  unfolding collects
  collect-met r m =
      let k = comes-collected m.start told (collecting told o dead packed) r m.stage m.comes collects (m.legal dead packed done-so.0) in
      met-more told (collecting told o dead packed) p h (comes-run m.start (collecting told o dead packed) r compacted k m.run m.next) collects.meets refl refl
      (λ t. comes-done m.start (collecting told o dead packed) r compacted k t ∙ sym (comes-done m.start told r m.stage m.comes t))
      (ap (λ (b : Board). b.plain) board-after)

-- What it has told once a partial collection was.

abbrev pub evacuating : Told → Objects → List ℕ → ℕ → List Kept → List Abort → Told
evacuating told o chosen scans kept aborts =
    record { config = told.config; rows = told.rows; entries = told.entries ++ partial chosen scans kept aborts ∷ []; objects = o }

module _ (told : Told) (p : Progress) (o : Objects) (chosen : List ℕ) (scans : ℕ) (kept : List Kept) (aborts : List Abort) (h : IsMet told p)
    (event : IsEvacuated told.objects o told.config.older told.config.abort_after chosen scans kept aborts) (shape : o.table.shape ≡ told.objects.table.shape) where
  board-evacuated : board_of told.config (told.entries ++ partial chosen scans kept aborts ∷ []) ≡ after_partial told.config (board_now told) chosen kept
  board-evacuated = board_of-more told.config told.entries (partial chosen scans kept aborts)

  evacuated-so : IsEvacuation told.config (board_now told) chosen scans kept aborts × AreOnBoard o (after_partial told.config (board_now told) chosen kept)
  evacuated-so = event told.config (board_now told) (sym h.meets.shape) refl refl h.limits.workers.0 h.meets.objects_are

  pub evacuates : Evacuates told (evacuating told o chosen scans kept aborts)
  evacuates = record {
    config = refl;
    rows = refl;
    chosen = chosen;
    scans = scans;
    kept = kept;
    aborts = aborts;
    grows = refl;
    legal = evacuated-so.0;
    meets = record { shape = shape ∙ h.meets.shape; objects_are = subst (AreOnBoard o) (sym board-evacuated) evacuated-so.1 };
  }

  pub evacuate-met : (r : Row) → IsNext told r → LacksRoom told r → IsMet (evacuating told o chosen scans kept aborts) p
  evacuate-met r next lacks =
      comes-met told (evacuating told o chosen scans kept aborts) r collected
      (comes-evacuated told told (evacuating told o chosen scans kept aborts) r [] (comes-none told r h.meets) evacuates lacks) p h next
      (ap (λ (b : Board). b.plain) board-evacuated)
