-- What the events of a path are: the row's own event is of three kinds and executes the row, and no event before it executes
-- one.
use Rattle.std.proofs.Common.{◌≡◌, ℕ, List, [], ◌∷◌, ◌++◌, Bool, true, false, Option, Some, None, cond, if◌then◌else◌, inl, inr, refl, ap, sym, subst, ◌∙◌}
use Rattle.std.specs.Prelude.{◌&&◌}
use Rattle.std.proofs.lemmas.Bool.{false≢true, true≢false, and_parts, cond_both, or_cases, or_left, or_right}
use Rattle.std.proofs.lemmas.Option.{same_Some, none-some}
use Rattle.bal_layout.specs.declared.geometry.Want.{Want}
use Rattle.bal_model.specs.declared.config.Config.{Config}
use Rattle.bal_model.specs.declared.row.Op.{Op}
use Rattle.bal_model.specs.declared.row.Reply.{Reply}
use Rattle.bal_model.specs.declared.row.Row.{Row}
use Rattle.bal_rules.specs.After.{after}
use Rattle.bal_rules.specs.Board.{Board}
use Rattle.bal_model.specs.Entries.{Entry, Spot, row, note, partial, begin, mark, end, global, executed}
use Rattle.bal_rules.specs.Full.{is_full_allowed}
use Rattle.bal_rules.specs.Interim.{Rule}
use Rattle.bal_rules.specs.Path.{Turn, Stage, opened, marking, ending, collected, compacted, own_event, placed_event, full_event, is_gc, plain_at, soft_room, hard_room, allocation_at, own_for, own_at, IsLegal, next_stage, IsPathFrom}
use Rattle.bal_rules.specs.Room.{has_fresh_room, has_room_here, is_within_eden}
use Rattle.bal_rules.specs.RowEvents.{want_of}

-- where an allocation is told that the heap is full, there is no hard room; and where the rule has collections, so much is
-- reachable that no packing would surely make room
pub record IsReallyFull (rule : Rule) (c : Config) (b : Board) (w : Want) : Type 0 where
  pub no_room : hard_room c b w ≡ false
  pub allowed : rule.goes_by_hard_room ≡ false → is_full_allowed c.geometry b.plain w ≡ true

-- soft room is hard room
soft-hard : (c : Config) (b : Board) (w : Want) → soft_room c b w ≡ true → hard_room c b w ≡ true
soft-hard c b w h =
    let here = has_room_here c.geometry b.regions b.current w in
    let fresh = has_fresh_room b.regions w in
    let more = is_within_eden c.eden b.regions in
    elim (or_cases here (more && fresh) h) [ inl room ↦ or_left here fresh room | inr room ↦ or_right here fresh (and_parts more fresh room).1 ]

module _ (P : Entry → Type 0) where
  is-event : (x e : Entry) → P x → Some x ≡ Some e → P e
  is-event x e h same = subst P (same_Some x e same) h

  -- one of two events
  either-event : (b : Bool) (x y : Option Entry) (e : Entry) → (b ≡ true → x ≡ Some e → P e) → (b ≡ false → y ≡ Some e → P e) → cond b x y ≡ Some e → P e
  either-event true x y e one other h = one refl h
  either-event false x y e one other h = other refl h

  no-event : (e : Entry) → None ≡ Some e → P e
  no-event e h = absurd (none-some e h)

  plain-event : (turn : Turn) (stage : Stage) (b : Board) (e : Entry) → P (own_event turn b None) → plain_at turn stage b ≡ Some e → P e
  plain-event turn (opened noted) b e h at = either-event (is_gc turn.row.op) None (Some (own_event turn b None)) e (λ gc. no-event e) (λ other. is-event (own_event turn b None) e h) at
  plain-event turn marking b e h at = no-event e at
  plain-event turn ending b e h at = no-event e at
  plain-event turn collected b e h at = no-event e at
  plain-event turn compacted b e h at = either-event (is_gc turn.row.op) (Some (own_event turn b None)) None e (λ gc. is-event (own_event turn b None) e h) (λ other. no-event e) at

  allocation-event : (rule : Rule) (c : Config) (turn : Turn) (stage : Stage) (b : Board) (w : Want) (e : Entry) → (hard_room c b w ≡ true → P (placed_event c turn b w)) → (IsReallyFull rule c b w → P (full_event turn))
      → allocation_at rule c turn stage b w ≡ Some e → P e
  allocation-event rule c turn (opened noted) b w e placed full at =
      let put = placed_event c turn b w in
      let by_hard_room = if hard_room c b w then put else full_event turn in
      let both : rule.goes_by_hard_room ≡ true → P by_hard_room =
      λ goes. cond_both (hard_room c b w) put (full_event turn) P placed (λ none. full (record { no_room = none; allowed = λ no. absurd (false≢true (sym no ∙ goes)) })) in
      either-event (soft_room c b w) (Some put) (if rule.goes_by_hard_room then Some by_hard_room else None) e (λ room. is-event put e (placed (soft-hard c b w room)))
      (λ none. either-event rule.goes_by_hard_room (Some by_hard_room) None e (λ goes. is-event by_hard_room e (both goes)) (λ stops. no-event e)) at
  allocation-event rule c turn marking b w e placed full at = no-event e at
  allocation-event rule c turn ending b w e placed full at = no-event e at
  allocation-event rule c turn collected b w e placed full at =
      either-event (soft_room c b w) (Some (placed_event c turn b w)) None e (λ room. is-event (placed_event c turn b w) e (placed (soft-hard c b w room))) (λ none. no-event e) at
  allocation-event rule c turn compacted b w e placed full at =
      either-event (hard_room c b w) (Some (placed_event c turn b w)) (if is_full_allowed c.geometry b.plain w then Some (full_event turn) else None) e (λ room. is-event (placed_event c turn b w) e (placed room))
      (λ none. either-event (is_full_allowed c.geometry b.plain w) (Some (full_event turn)) None e
      (λ allowed. is-event (full_event turn) e (full (record { no_room = none; allowed = λ no. allowed }))) (λ never. no-event e)) at

  -- that of a row that asks for no room, an allocation that is placed in hard room, or one that is told that the heap is full
  pub own-event_in_room : (rule : Rule) (c : Config) (turn : Turn) (stage : Stage) (b : Board) (e : Entry)
      → (want_of c.geometry turn.row.op ≡ None → P (own_event turn b None))
      → ((w : Want) → want_of c.geometry turn.row.op ≡ Some w → hard_room c b w ≡ true → P (placed_event c turn b w))
      → ((w : Want) → want_of c.geometry turn.row.op ≡ Some w → IsReallyFull rule c b w → P (full_event turn))
      → own_at rule c turn stage b ≡ Some e → P e
  own-event_in_room rule c turn stage b e plain placed full at = by (want_of c.geometry turn.row.op) refl at
    where
      by : (want : Option Want) → want_of c.geometry turn.row.op ≡ want → own_for rule c turn stage b want ≡ Some e → P e
      by None is at = plain-event turn stage b e (plain is) at
      by (Some w) is at = allocation-event rule c turn stage b w e (placed w is) (full w is) at

  -- so it is one of these three
  pub own-event : (rule : Rule) (c : Config) (turn : Turn) (stage : Stage) (b : Board) (e : Entry)
      → (want_of c.geometry turn.row.op ≡ None → P (own_event turn b None))
      → ((w : Want) → want_of c.geometry turn.row.op ≡ Some w → P (placed_event c turn b w))
      → ((w : Want) → want_of c.geometry turn.row.op ≡ Some w → IsReallyFull rule c b w → P (full_event turn))
      → own_at rule c turn stage b ≡ Some e → P e
  own-event rule c turn stage b e plain placed full at = own-event_in_room rule c turn stage b e plain (λ w asks room. placed w asks) full at

-- it executes the row
pub own-executes : (rule : Rule) (c : Config) (turn : Turn) (stage : Stage) (b : Board) (e : Entry) → own_at rule c turn stage b ≡ Some e → executed (e ∷ []) ≡ turn.row ∷ []
own-executes rule c turn stage b e own = own-event (λ (e : Entry). executed (e ∷ []) ≡ turn.row ∷ []) rule c turn stage b e (λ none. refl) (λ w asks. refl) (λ w asks full. refl) own

-- rows are executed one after another
pub executed-append : (xs ys : List Entry) → executed (xs ++ ys) ≡ executed xs ++ executed ys
executed-append [] ys = refl
executed-append (row t k o r p ∷ xs) ys = ap (λ (rs : List Row). record { thread = t; op = o } ∷ rs) (executed-append xs ys)
executed-append (e ∷ xs) ys = executed-append xs ys

-- no event before a row's own one is a row's
pub legal-no-row : (rule : Rule) (c : Config) (turn : Turn) (stage : Stage) (b : Board) (t k : ℕ) (o : Op) (r : Reply) (p : Option Spot) → IsLegal rule c turn stage b (row t k o r p) → ⊥
legal-no-row rule c turn (opened noted) b t k o r p h = h
legal-no-row rule c turn marking b t k o r p h = h
legal-no-row rule c turn ending b t k o r p h = h
legal-no-row rule c turn collected b t k o r p h = h
legal-no-row rule c turn compacted b t k o r p h = h

-- so it executes no row
pub executed-legal : (rule : Rule) (c : Config) (turn : Turn) (stage : Stage) (b : Board) (e : Entry) → IsLegal rule c turn stage b e → executed (e ∷ []) ≡ []
executed-legal rule c turn stage b (row t k o r p) h = absurd (legal-no-row rule c turn stage b t k o r p h)
executed-legal rule c turn stage b e h = refl

-- a whole path executes its row alone
pub path-executes : (rule : Rule) (c : Config) (turn : Turn) (es : List Entry) (stage : Stage) (b : Board) → IsPathFrom rule c turn stage b true es → executed es ≡ turn.row ∷ []
path-executes rule c turn [] stage b h = absurd (true≢false h)
path-executes rule c turn (row t k o r p ∷ es) stage b h =
    let e = row t k o r p in
    ap (λ (es : List Entry). executed (e ∷ es)) h.2 ∙ own-executes rule c turn stage b e h.0
path-executes rule c turn (note q card x i ∷ es) stage b h = let e = note q card x i in path-executes rule c turn es (next_stage rule c (after c b e) stage e) (after c b e) h.1
path-executes rule c turn (partial chosen scans kept aborts ∷ es) stage b h =
    let e = partial chosen scans kept aborts in path-executes rule c turn es (next_stage rule c (after c b e) stage e) (after c b e) h.1
path-executes rule c turn (begin ∷ es) stage b h = path-executes rule c turn es (next_stage rule c (after c b begin) stage begin) (after c b begin) h.1
path-executes rule c turn (mark names ∷ es) stage b h = let e = mark names in path-executes rule c turn es (next_stage rule c (after c b e) stage e) (after c b e) h.1
path-executes rule c turn (end dead ∷ es) stage b h = let e = end dead in path-executes rule c turn es (next_stage rule c (after c b e) stage e) (after c b e) h.1
path-executes rule c turn (global dead packed ∷ es) stage b h = let e = global dead packed in path-executes rule c turn es (next_stage rule c (after c b e) stage e) (after c b e) h.1
