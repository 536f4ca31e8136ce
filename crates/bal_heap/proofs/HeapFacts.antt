-- How a heap goes on to meet its journal when that grows by a row's own event.
use Rattle.std.proofs.Common.{◌≡◌, ◌<◌, ◌≤◌, ◌+◌, ◌-◌, ◌^◌, ℕ, zero, suc, List, [], ◌∷◌, ◌++◌, get_or, set, take, drop, Option, None, Some, Bool, true, false, cond, eqb, refl, ap, sym, subst, ◌∙◌, arith}
use Rattle.std.specs.Prelude.{length, map, option_map, slice_get, IfSome, IsSome, unwrap_or}
use Rattle.std.specs.List.{AllByRecursion}
use Rattle.std.proofs.lemmas.Option.{none-some, same_Some, slice_get_within}
use Rattle.std.proofs.lemmas.Bool.{eqb-true, eqb-false, false≢true}
use Rattle.std.proofs.lemmas.List.{get_or-set_same, get_or-set_other, length-set, get_or-replicate, map-append}
use Rattle.bal_model.specs.declared.config.Config.{Config}
use Rattle.bal_model.specs.declared.row.Row.{Row}
use Rattle.bal_model.specs.declared.row.Op.{Op}
use Rattle.bal_model.specs.declared.row.Reply.{Reply}
use Rattle.bal_model.specs.declared.row.Reply.TheVariants as replies
use Rattle.bal_layout.specs.Shape.{Shape}
use Rattle.bal_layout.specs.declared.geometry.Want.{Want}
use Rattle.bal_layout.specs.declared.name.Name.{Name}
use Rattle.bal_rules.specs.After.{after}
use Rattle.bal_layout.specs.Regions.{free_regions}
use Rattle.bal_layout.specs.declared.region_state.RegionState.{RegionState}
use Rattle.bal_rules.specs.Board.{Board, opening}
use Rattle.bal_model.specs.declared.event.Event.{Event}
use Rattle.bal_model.specs.declared.event.Event.TheVariants as event
use Rattle.bal_model.specs.declared.event.Answer.{Answer}
use Rattle.bal_model.specs.Built.{IsTraceRow}
use Rattle.bal_model.specs.Entries.{Entry, Spot, entry_of, reply_of, row, spot_of}
use Rattle.bal_rules.specs.Interim.{today}
use Rattle.bal_rules.specs.Path.{Turn, placed_event, full_event, hard_room}
use Rattle.bal_model.specs.Plain.{State, Step, allocating, made_by, next_name, step}
use Rattle.bal_rules.specs.Room.{fits_current, has_hard_room, spot_for}
use Rattle.bal_model.specs.Plain.{graph_after}
use Rattle.bal_rules.specs.RowEvents.{board_with_object, board_after_reply, want_of}
use Rattle.bal_rules.specs.Run.{IsRun, board_of, done_by, rows_of}
use Rattle.bal_rules.proofs.Lemmas.{IsRun-more, IsWholeRun-none, board_of-more, done_by-more}
use Rattle.bal_model.proofs.Lemmas.{graph_after-step, made_by-start, made_by-step, one_for}
use Rattle.bal_table.specs.Table.{Table}
use Rattle.bal_eden.specs.Room.{Finds, spot_in}
use Rattle.bal_meet.specs.Heap.{Account}
use Rattle.bal_eden.specs.declared.room.Room.{Room}
use Rattle.bal_eden.specs.declared.room.Room.TheVariants.{Here, Fresh, Nowhere}
use Rattle.bal_model.specs.Configs.{IsWithinLimits}
use Rattle.bal_heap.specs.Heap.{Tells, Begins, IsNext, MayEndBy, MeetsBoard, Told, allocation_event, own_entry, plain_event, turn_of}
use Rattle.bal_heap.specs.Meets.{IsMet}
use Rattle.bal_heap.specs.Objects.{Allocated, AreOnBoard, Objects, Performs, heap_of, made_in}
use Rattle.bal_heap.specs.Request.{request_of, requested}
use Rattle.bal_heap.specs.Turns.{Progress, done_of, next_of, advanced, untouched}
use Rattle.bal_heap.specs.declared.request.Request.{Request}
use Rattle.bal_meet.proofs.Lemmas.{next-met}
use Rattle.bal_heap.proofs.Comes.{comes-grows, comes-turn, comes-whole}
use Rattle.bal_heap.proofs.TurnFacts.{length-rows_of-le}
use Rattle.bal_heap.proofs.RequestFacts.{step-asked, want-asked}

-- what a heap has told once it has told one more event, and what its objects are then
abbrev pub telling : Told → Objects → Entry → Told
telling told objects e = record { config = told.config; rows = told.rows; entries = told.entries ++ e ∷ []; objects = objects }

-- the board that a heap's journal leaves, and the one after one more event
abbrev pub board_now : Told → Board
board_now told = board_of told.config told.entries

abbrev pub board_next : Told → Entry → Board
board_next told e = after told.config (board_now told) e

-- each thread then stands where its row events say
done-more : (told : Told) (p : Progress) (h : IsMet told p) (r : Row) (reply : Reply) (place : Option Spot) → r.thread < 32
    → (u : ℕ) → u < 32 → (b : Bool) → eqb r.thread u ≡ b
    → done_of (advanced p r.thread) u ≡ done_by u (told.entries ++ own_entry told r reply place ∷ [])
done-more told p h r reply place lt u less true e =
    let t = r.thread in
    let same : t ≡ u = eqb-true t u e in
    let more = done_by-more u told.entries t (done_by t told.entries + 1) r.op reply place in
    let at : done_of (advanced p t) u ≡ done_of p t + 1 = ap (λ v. get_or (set p.done t (done_of p t + 1)) v 0) (sym same) ∙ get_or-set_same p.done t (done_of p t + 1) 0 (omega (arith, h.threads)) in
    let one : one_for t u ≡ 1 = ap (λ b. cond b 1 0) e in
    omega (arith, at, h.done t lt, ap (λ v. done_by v told.entries) same, more, one)
done-more told p h r reply place lt u less false e =
    let t = r.thread in
    let other : u ≡ t → ⊥ = λ same. eqb-false t u e (sym same) in
    let more = done_by-more u told.entries t (done_by t told.entries + 1) r.op reply place in
    let none : one_for t u ≡ 0 = ap (λ b. cond b 1 0) e in
    omega (arith, get_or-set_other p.done t u (done_of p t + 1) 0 other, h.done u less, more, none)

-- the words of a heap that has told one more event
MeetsBoard-own : (told : Told) (objects : Objects) (e : Entry) → MeetsBoard told → AreOnBoard objects (board_next told e)
    → objects.table.shape ≡ told.objects.table.shape → MeetsBoard (telling told objects e)
MeetsBoard-own told objects e meets on shape = record {
  shape = shape ∙ meets.shape;
  objects_are = subst (AreOnBoard objects) (sym (board_of-more told.config told.entries e)) on;
}

-- the journal is a run with the row's own event too, if that may come
ends-run : (told : Told) (r : Row) (reply : Reply) (place : Option Spot) (own : Entry) → MayEndBy told r own → own_entry told r reply place ≡ own
    → IsRun today told.config told.rows (told.entries ++ own_entry told r reply place ∷ [])
ends-run told r reply place own m is =
    let s = m.start in
    let k = m.ready.comes in
    let e = own_entry told r reply place in
    let same : e ≡ own_entry s r reply place = ap (λ (t : Turn). row r.thread t.number r.op reply place) (comes-turn s told r m.ready.stage k) in
    let grows : told.entries ++ e ∷ [] ≡ s.entries ++ (k.events ++ own_entry s r reply place ∷ []) =
    comes-grows s told r m.ready.stage k e (told.entries ++ e ∷ []) refl ∙ ap (λ (x : Entry). s.entries ++ (k.events ++ x ∷ [])) same in
    subst (λ (c : Config). IsRun today c told.rows (told.entries ++ e ∷ [])) (sym k.config)
    (subst (λ (rows : List Row). IsRun today s.config rows (told.entries ++ e ∷ [])) (sym k.rows)
    (subst (IsRun today s.config s.rows) (sym grows)
    (IsRun-more today s.config s.rows s.entries (record { thread = r.thread; whole = true; events = k.events ++ own_entry s r reply place ∷ [] }) m.run
    (comes-whole s told r m.ready.stage k reply place own m.next m.ready.own_is (sym is ∙ same)))))

-- a row that has told its own event was executed, and the heap meets the longer journal
goes-on : (told told' : Told) (p p' : Progress) (objects : Objects) (r : Row) (reply : Reply) (place : Option Spot) (own : Entry)
    → IsMet told p → IsNext told r → MayEndBy told r own → own_entry told r reply place ≡ own
    → AreOnBoard objects (board_next told (own_entry told r reply place)) → objects.table.shape ≡ told.objects.table.shape
    → ((u : ℕ) → made_by (board_next told (own_entry told r reply place)).plain u ≤ made_by (board_now told).plain u + one_for r.thread u)
    → p' ≡ advanced p r.thread → told' ≡ telling told objects (own_entry told r reply place)
    → IsMet told' p' × Tells told told' r reply own
goes-on told told' p p' objects r reply place own h next m is on shape made turned told-is =
    let t = r.thread in
    let e = own_entry told r reply place in
    let meets = MeetsBoard-own told objects e h.meets on shape in
    let met : IsMet (telling told objects e) (advanced p t) = record {
      run = ends-run told r reply place own m is;
      meets = meets;
      rows = h.rows;
      threads = length-set p.done t (done_of p t + 1) ∙ h.threads;
      done = λ u less. done-more told p h r reply place next.traced.in_range.0 u less (eqb t u) refl;
      made = λ u. omega (arith, ap (λ (b : Board). made_by b.plain u) (board_of-more told.config told.entries e), made u, h.made u, done_by-more u told.entries t (done_by t told.entries + 1) r.op reply place);
      each_row = h.each_row;
      few = h.few;
      limits = h.limits;
    } in
    let done : Tells told (telling told objects e) r reply own = record {
      config = refl;
      rows = refl;
      place = place;
      is = is;
      grows = ap (λ (x : Entry). told.entries ++ x ∷ []) is;
      meets = meets;
    } in (
      subst (λ (x : Told). IsMet x p') (sym told-is) (subst (IsMet (telling told objects e)) (sym turned) met),
      subst (λ (x : Told). Tells told x r reply own) (sym told-is) done,
    )

-- a heap with an empty journal has begun, and its objects are those of the opening board
pub Begins-made : (c : Config) (rows : List Row) (told : Told) → told.rows ≡ rows → told.entries ≡ []
    → told.objects.table.shape ≡ c.geometry → AreOnBoard told.objects (opening c) → (config : told.config ≡ c) → Begins c rows told
Begins-made c rows told rows-are none shape on config = record {
  config_is = config;
  rows_are = rows-are;
  entries = none;
  meets = record {
    shape = shape ∙ ap (λ (x : Config). x.geometry) (sym config);
    objects_are = subst (AreOnBoard told.objects) (sym (ap (board_of told.config) none ∙ ap (λ (x : Config). opening x) config)) on;
  };
}

-- a heap with an empty journal meets it
pub IsMet-made : (c : Config) (rows : List Row) (told : Told) (p : Progress) → AllByRecursion (IsTraceRow c.geometry) rows → length rows ≤ 2 ^ 20 → IsWithinLimits c
    → Begins c rows told → p ≡ untouched rows → IsMet told p
IsMet-made c rows told p each few limits begins turned = subst (IsMet told) (sym turned) (record {
  run = subst (IsRun today told.config told.rows) (sym begins.entries) (IsWholeRun-none today told.config told.rows).run;
  meets = begins.meets;
  rows = sym begins.rows_are;
  threads = refl;
  done = λ t lt. get_or-replicate 32 t 0 0 lt ∙ ap (done_by t) (sym begins.entries);
  made = λ t. omega (arith, ap (λ (xs : List Entry). made_by (board_of told.config xs).plain t) begins.entries, made_by-start t);
  each_row = subst (λ (x : Config). AllByRecursion (IsTraceRow x.geometry) told.rows) (sym begins.config_is) (subst (AllByRecursion (IsTraceRow c.geometry)) (sym begins.rows_are) each);
  few = subst (λ (rs : List Row). length rs ≤ 2 ^ 20) (sym begins.rows_are) few;
  limits = subst IsWithinLimits (sym begins.config_is) limits;
})

-- a row that asks for no room was executed
pub performed : (told told' : Told) (p p' : Progress) (objects : Objects) (r : Row) (reply : Reply)
    → IsMet told p → IsNext told r → want_of told.config.geometry r.op ≡ None → MayEndBy told r (plain_event told r)
    → Performs told.objects objects r.thread r.op reply → p' ≡ advanced p r.thread
    → told' ≡ telling told objects (own_entry told r reply None)
    → IsMet told' p' × Tells told told' r reply (plain_event told r)
performed told told' p p' objects r reply h next asks may done turned told-is =
    let t = r.thread in
    let b = board_now told in
    let held = h.meets.objects_are in
    let reply-is : reply ≡ (step b.plain t r.op).0 = done.reply b held in
    let b' : Board = record b { plain = graph_after b.plain t r.op reply } in
    let settles : board_next told (own_entry told r reply None) ≡ b' = ap (λ w. board_after_reply w None reply b') asks in
    let plain-is : (step b.plain t r.op).1 ≡ graph_after b.plain t r.op reply =
    sym (graph_after-step b.plain t r.op) ∙ ap (graph_after b.plain t r.op) (sym reply-is) in
    let on : AreOnBoard objects b' = subst (λ (s : State). AreOnBoard objects (record b { plain = s })) plain-is (done.meets b held) in
    goes-on told told' p p' objects r reply None (plain_event told r) h next may (ap (λ (x : Reply). own_entry told r x None) reply-is)
    (subst (AreOnBoard objects) (sym settles) on) done.shape
    (λ u. subst (λ (x : State). made_by x u ≤ made_by b.plain u + one_for t u) (plain-is ∙ ap (λ (x : Board). x.plain) (sym settles)) (made_by-step b.plain t r.op u))
    turned told-is

-- the hard room of the words is that of the board, and so is the place of an allocation
pub hard-board : (told : Told) (w : Want) → MeetsBoard told
    → hard_room told.config (board_now told) w ≡ has_hard_room told.objects.table.shape told.objects.table.regions told.objects.table.current w
hard-board told w h =
    let t = told.objects.table in
    sym (ap (λ (s : Shape). has_hard_room s t.regions t.current w) h.shape
    ∙ ap (λ (rs : List RegionState). has_hard_room told.config.geometry rs t.current w) (ap (λ (a : Account). a.regions) h.objects_are.meets.account)
    ∙ ap (λ (o : Option ℕ). has_hard_room told.config.geometry (board_now told).regions o w) (ap (λ (a : Account). a.current) h.objects_are.meets.account))

spot-board : (told : Told) (w : Want) → MeetsBoard told
    → spot_for told.config.geometry (board_now told).regions (board_now told).current w ≡ spot_in told.objects.table w
spot-board told w h =
    let t = told.objects.table in
    sym (ap (λ (s : Shape). spot_for s t.regions t.current w) h.shape
    ∙ ap (λ (rs : List RegionState). spot_for told.config.geometry rs t.current w) (ap (λ (a : Account). a.regions) h.objects_are.meets.account)
    ∙ ap (λ (o : Option ℕ). spot_for told.config.geometry (board_now told).regions o w) (ap (λ (a : Account). a.current) h.objects_are.meets.account))

-- what lies in one piece has no leaves
spot-piece : (s : Shape) (rs : List RegionState) (current : Option ℕ) (w : Want) → w.leaves ≡ 0 → spot_for s rs current w ≡ record { region = (spot_for s rs current w).region; leaves = [] }
spot-piece s rs current w none = by (fits_current s rs current w.words)
  where
    none-taken : (qs : List ℕ) → take w.leaves qs ≡ []
    none-taken qs = ap (λ n. take n qs) none

    by : (b : Bool) → ◌≡◌ {A = Spot}
        (cond b (record { region = unwrap_or current 0; leaves = take w.leaves (free_regions rs) }) (record { region = get_or (free_regions rs) 0 0; leaves = take w.leaves (drop 1 (free_regions rs)) }))
        (record {
          region = (cond {A = Spot} b (record { region = unwrap_or current 0; leaves = take w.leaves (free_regions rs) }) (record { region = get_or (free_regions rs) 0 0; leaves = take w.leaves (drop 1 (free_regions rs)) })).region;
          leaves = [];
        })
    by true = ap (λ (qs : List ℕ). record { region = unwrap_or current 0; leaves = qs }) (none-taken (free_regions rs))
    by false = ap (λ (qs : List ℕ). record { region = get_or (free_regions rs) 0 0; leaves = qs }) (none-taken (drop 1 (free_regions rs)))

-- room that was found is hard room
pub found-room : (t : Table) (w : Want) (room : Room) → Finds t w None room → (room ≡ Nowhere → ⊥) → has_hard_room t.shape t.regions t.current w ≡ true
found-room t w Here found some = found.0
found-room t w (Fresh q) found some = found.0
found-room t w Nowhere found some = absurd (some refl)

-- a row that allocates was executed, in the region where there is hard room
pub allocated : (told told' : Told) (p p' : Progress) (objects : Objects) (r : Row) (q : Request) (room : Room) (name : Name) (region : ℕ)
    → IsMet told p → IsNext told r → request_of told.config.geometry r.op ≡ Some q → q.want.leaves ≡ 0
    → MayEndBy told r (allocation_event told r q.want) → has_hard_room told.objects.table.shape told.objects.table.regions told.objects.table.current q.want ≡ true
    → Allocated told.objects objects r.thread q room name region → p' ≡ advanced p r.thread
    → told' ≡ telling told objects (own_entry told r (replies.Name name) (Some (record { region = region; leaves = [] })))
    → IsMet told' p' × Tells told told' r (replies.Name name) (allocation_event told r q.want)
allocated told told' p p' objects r q room name region h next asks piece may hard done turned told-is =
    let t = r.thread in
    let b = board_now told in
    let held = h.meets.objects_are in
    let table = told.objects.table in
    let at : Spot = record { region = region; leaves = [] } in
    let reply = replies.Name name in
    let e = own_entry told r reply (Some at) in
    let w = q.want in
    let asked : want_of told.config.geometry r.op ≡ Some w = want-asked told.config.geometry r.op ∙ ap (option_map (λ (x : Request). x.want)) asks in
    let stepped : step b.plain t r.op ≡ allocating b.plain t q.register (requested q) = step-asked told.config.geometry b.plain t r.op q asks in
    let named : reply ≡ replies.Name (next_name b.plain t) = ap (λ (x : Name). replies.Name x) (done.name_is b held) in
    let reply-is : reply ≡ (step b.plain t r.op).0 = named ∙ sym (ap (λ (x : Step). x.0) stepped) in
    let spot-is : spot_for told.config.geometry b.regions b.current w ≡ at =
    spot-board told w h.meets ∙ spot-piece table.shape table.regions table.current w piece ∙ ap (λ (k : ℕ). record { region = k; leaves = [] }) (sym done.region) in
    let is : allocation_event told r w ≡ own_entry told r reply (Some at) =
    ap (λ x. cond x (placed_event told.config (turn_of told r) b w) (full_event (turn_of told r))) (hard-board told w h.meets ∙ hard)
    ∙ ap (λ (s : Spot). own_entry told r (step b.plain t r.op).0 (Some s)) spot-is
    ∙ ap (λ (x : Reply). own_entry told r x (Some at)) (sym reply-is) in
    let b' : Board = record b { plain = graph_after b.plain t r.op reply } in
    let settles : board_next told e ≡ board_with_object (next_name b.plain t) w at b' =
    ap (λ o. board_after_reply o (Some at) reply b') asked ∙ ap (λ (x : Reply). board_after_reply (Some w) (Some at) x b') named in
    let plain-is : (step b.plain t r.op).1 ≡ graph_after b.plain t r.op reply =
    sym (graph_after-step b.plain t r.op) ∙ ap (graph_after b.plain t r.op) (sym reply-is) in
    let on : AreOnBoard objects (board_with_object (next_name b.plain t) w at b') =
    subst (λ (s : State). AreOnBoard objects (board_with_object (next_name b.plain t) w at (record b { plain = s })))
    (sym (ap (λ (x : Step). x.1) stepped) ∙ plain-is) (done.meets b held) in
    goes-on told told' p p' objects r reply (Some at) (allocation_event told r w) h next may (sym is) (subst (AreOnBoard objects) (sym settles) on) done.shape
    (λ u. subst (λ (x : State). made_by x u ≤ made_by b.plain u + one_for t u) (plain-is ∙ ap (λ (x : Board). x.plain) (sym settles)) (made_by-step b.plain t r.op u))
    turned told-is

-- a row that allocates was told that the heap is full
refused : (told told' : Told) (p p' : Progress) (r : Row) (w : Want)
    → IsMet told p → IsNext told r → want_of told.config.geometry r.op ≡ Some w → MayEndBy told r (full_event (turn_of told r))
    → p' ≡ advanced p r.thread → told' ≡ telling told told.objects (own_entry told r replies.Full None)
    → IsMet told' p' × Tells told told' r replies.Full (full_event (turn_of told r))
refused told told' p p' r w h next asks may turned told-is =
    let b = board_now told in
    let settles : board_next told (own_entry told r replies.Full None) ≡ record b { plain = b.plain } = ap (λ o. board_after_reply o None replies.Full (record b { plain = b.plain })) asks in
    goes-on told told' p p' told.objects r replies.Full None (full_event (turn_of told r)) h next may refl (subst (AreOnBoard told.objects) (sym settles) h.meets.objects_are) refl
    (λ u. omega (arith, ap (λ (x : Board). made_by x.plain u) settles)) turned told-is

-- whatever room it asks for
pub refused-full : (told told' : Told) (p p' : Progress) (r : Row)
    → IsMet told p → IsNext told r → IsSome (want_of told.config.geometry r.op) → MayEndBy told r (full_event (turn_of told r))
    → p' ≡ advanced p r.thread → told' ≡ telling told told.objects (own_entry told r replies.Full None)
    → IsMet told' p' × Tells told told' r replies.Full (full_event (turn_of told r))
refused-full told told' p p' r h next asks may turned told-is = by (want_of told.config.geometry r.op) refl asks
  where
    by : (o : Option Want) → want_of told.config.geometry r.op ≡ o → IsSome o → IsMet told' p' × Tells told told' r replies.Full (full_event (turn_of told r))
    by None e asks = absurd (false≢true asks)
    by (Some w) e asks = refused told told' p p' r w h next e may turned told-is

-- what a heap has told when its journal got one more row event
pub told-more : (told : Told) (p p' : Progress) (objects : Objects) (events events' before : List Event) (t n : ℕ) (o : Op) (a : Answer)
    → told ≡ record { config = told.config; rows = p.rows; entries = map entry_of events; objects = told.objects } → p' ≡ advanced p t → before ≡ events
    → events' ≡ before ++ event.Row t n o a ∷ [] → n ≡ done_by t told.entries + 1
    → record { config = told.config; rows = p'.rows; entries = map entry_of events'; objects = objects } ≡ telling told objects (row t (done_by t told.entries + 1) o (reply_of a) (spot_of a))
told-more told p p' objects events events' before t n o a told-is turned same pushed number =
    let rows : p'.rows ≡ told.rows = ap (λ (x : Progress). x.rows) turned ∙ sym (ap (λ (x : Told). x.rows) told-is) in
    let entries : map entry_of events' ≡ told.entries ++ row t (done_by t told.entries + 1) o (reply_of a) (spot_of a) ∷ [] =
    ap (map entry_of) (pushed ∙ ap (λ (es : List Event). es ++ event.Row t n o a ∷ []) same) ∙ map-append entry_of events (event.Row t n o a ∷ [])
    ∙ ap (λ (es : List Entry). es ++ row t n o (reply_of a) (spot_of a) ∷ []) (sym (ap (λ (x : Told). x.entries) told-is))
    ∙ ap (λ (k : ℕ). told.entries ++ row t k o (reply_of a) (spot_of a) ∷ []) number in
    ap (λ (rs : List Row). record { config = told.config; rows = rs; entries = map entry_of events'; objects = objects }) rows
    ∙ ap (λ (es : List Entry). record { config = told.config; rows = told.rows; entries = es; objects = objects }) entries

-- a thread's rows are its own, and are rows of the trace
own-row : (s : Shape) (t : ℕ) (rows : List Row) (k : ℕ) (r : Row) → AllByRecursion (IsTraceRow s) rows → slice_get (rows_of t rows) k ≡ Some r → (r.thread ≡ t) × IsTraceRow s r
own-row s t [] k r each e = absurd (none-some r e)
own-row s t (q ∷ rs) k r each e = by (eqb q.thread t) refl k e (λ j. own-row s t rs j r each.1)
  where
    by : (b : Bool) → eqb q.thread t ≡ b → (k : ℕ) → slice_get (cond b (q ∷ rows_of t rs) (rows_of t rs)) k ≡ Some r
        → ((j : ℕ) → slice_get (rows_of t rs) j ≡ Some r → (r.thread ≡ t) × IsTraceRow s r) → (r.thread ≡ t) × IsTraceRow s r
    by true same zero e more = subst (λ (x : Row). (x.thread ≡ t) × IsTraceRow s x) (same_Some q r e) (eqb-true q.thread t same, each.0)
    by true same (suc k) e more = more k e
    by false other k e more = more k e

-- what a heap's next row of a thread is
pub next-row : (told : Told) (p : Progress) (t : ℕ) (r : Row) → IsMet told p → t < 32 → Some r ≡ next_of p t
    → (r.thread ≡ t) × IsNext told r
next-row told p t r h lt e =
    let next : slice_get (rows_of t told.rows) (done_by t told.entries) ≡ Some r =
    sym (e ∙ ap (λ (rows : List Row). slice_get (rows_of t rows) (done_of p t)) h.rows ∙ ap (λ n. slice_get (rows_of t told.rows) n) (h.done t lt)) in
    let own = own-row told.config.geometry t told.rows (done_by t told.entries) r h.each_row next in
    (own.0, record { traced = own.1; next = ap (λ u. slice_get (rows_of u told.rows) (done_by u told.entries)) own.0 ∙ next })

-- so whatever is answered for the next row is one
pub next-row-own : (told : Told) (p : Progress) (t : ℕ) (o : Option Row) → IsMet told p → t < 32 → o ≡ next_of p t → IfSome o (λ r. r.thread ≡ t)
next-row-own told p t None h lt e = tt
next-row-own told p t (Some r) h lt e = (next-row told p t r h lt e).0

pub next-row-next : (told : Told) (p : Progress) (t : ℕ) (o : Option Row) → IsMet told p → t < 32 → o ≡ next_of p t → IfSome o (IsNext told)
next-row-next told p t None h lt e = tt
next-row-next told p t (Some r) h lt e = (next-row told p t r h lt e).1

-- a thread that has a row left has made fewer objects than can be numbered
pub few-made : (told : Told) (p : Progress) (r : Row) → IsMet told p → IsNext told r → made_in told.objects r.thread < 2 ^ 32 - 1
few-made told p r h next =
    let t = r.thread in
    let left : done_by t told.entries < length (rows_of t told.rows) = slice_get_within (rows_of t told.rows) (done_by t told.entries) r next.next in
    let count : made_in told.objects t + 1 ≡ made_by (board_now told).plain t + 1 =
    ap (λ (n : Name). n.ordinal) (next-met (heap_of told.objects) (board_now told) t h.meets.objects_are.meets next.traced.in_range.0) in
    omega (arith, left, count, h.made t, length-rows_of-le t told.rows, h.few)
