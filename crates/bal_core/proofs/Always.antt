-- The invariant after each event that is not refused, and so after every list of events.
use Rattle.std.proofs.Common.{◌≡◌, ◌<◌, ◌≤◌, ◌⊎◌, ℕ, inl, inr, Bool, true, false, IsTrue, List, [], ◌∷◌, ◌++◌, Option, Some, None, length, get_or, set, refl, ap, sym, subst, ◌∙◌, arith}
use Rattle.std.specs.Prelude.{◌||◌, slice_get, OnErr, OnOk, Result, Ok, Err}
use Rattle.std.specs.Option.{is_some}
use Rattle.std.proofs.lemmas.Bool.{cases_eq, cases_lt, eqb-true, false≢true, ltb-true, ltb-false, not-false, or_cases, or_parts}
use Rattle.std.proofs.lemmas.List.{get_or-set_same, get_or-set_other, length-set}
use Rattle.std.proofs.lemmas.Option.{none-some, same_Some, slice_get-get_or, slice_get_within}
use Rattle.bal_layout.specs.declared.name.Abort.{Abort}
use Rattle.bal_layout.specs.declared.name.Abort.TheVariants as abort
use Rattle.bal_core.specs.declared.event.Decision.{Decision}
use Rattle.bal_core.specs.declared.event.Decision.TheVariants as decision
use Rattle.bal_core.specs.declared.event.CoreEvent.{CoreEvent}
use Rattle.bal_core.specs.declared.event.CoreEvent.TheVariants as event
use Rattle.bal_core.specs.declared.event.CoreFault.{CoreFault}
use Rattle.bal_core.specs.declared.row.Drawn.{Drawn}
use Rattle.bal_core.specs.World.{At, Row, State, blank, row_of, word_of}
use Rattle.bal_core.specs.Steps.{after, after_claim, after_draw, after_look, after_raise, after_all, after_or_passed, fault_of, has_cause, is_reached, knowing, passing, raising, told, winning, with_row}
use Rattle.bal_core.specs.Core.{Fits, IsCore}
use Rattle.bal_core.proofs.Allowed.{Allowed, allowed, copied-marked, fits-place, same_Copied}
use Rattle.bal_core.proofs.Draws.{drawn-more, drawn-same}
use Rattle.bal_core.proofs.Dry.{drained-next, drained-same, dry-more, dry-past, dry-same}
use Rattle.bal_core.proofs.Knows.{known-more, known-same}
use Rattle.bal_core.proofs.Lists.{before-set, part-kept, part-pushed, row-other, row-own}
use Rattle.bal_core.proofs.Packed.{packed-more, packed-same}
use Rattle.bal_core.proofs.Raised.{Keeps, drained-is-cause, raised-kept, raised-same, wish-is-cause}
use Rattle.bal_core.proofs.Won.{Decides, decided-stays, wins-cases, won-once, won-same}

-- A worker learns of a decision.

module _ (s : State) (n : ℕ) (core : IsCore s) (within : n < length s.crew) where
  abbrev old : Row
  old = row_of s n

  abbrev of : Row → ℕ → Row
  of row m = get_or (set s.crew n row) m blank

  -- a part of all rows that stays as worker n's row changes
  stays : {X : Type 0} (f : Row → X) (row : Row) → f row ≡ f old → (m : ℕ) → f (of row m) ≡ f (row_of s m)
  stays f row same = part-kept s.crew n row within f same

  many : (row : Row) → length (set s.crew n row) ≡ length s.crew
  many row = length-set s.crew n row

  pub core-knows : (k : ℕ) (d : Decision) → IsTrue (is_reached s.world old.known k) → word_of s k ≡ Some d → IsCore (with_row s n (knowing k d old))
  core-knows k d reached word =
      let row : Row = knowing k d old in
      let t : State = with_row s n row in
      record {
        world = core.world;
        one = subst (λ l. 1 ≤ l) (sym (many row)) core.one;
        most = subst (λ l. l ≤ 32) (sym (many row)) core.most;
        wishes = core.wishes;
        words = core.words;
        won = won-same s t (stays (λ r. r.won) row refl) (λ j. refl) core.won;
        known = known-more s t n k d
            (record {
              world = refl;
              pushed = part-pushed s.crew n row within (λ r. r.known) (told k d) refl;
              is = word;
              stay = λ j e same. same;
              won = λ m i j e wins. inl (subst (λ l. At l i (told j e)) (stays (λ r. r.won) row refl m) wins);
              reached = reached;
            }) core.known;
        drawn = drawn-same s t (record { world = refl; rows = stays (λ r. r.drawn) row refl; rises = omega arith; past = λ o below pool. below }) core.drawn;
        packed = packed-same s t refl (stays (λ r. r.won) row refl)
            (λ m p x at. subst (λ l. At l p x) (sym (stays (λ r. r.drawn) row refl m)) at) core.packed;
        raised = raised-same s t (stays (λ r. r.saw) row refl) (stays (λ r. r.raised) row refl) refl refl (λ j same. inl same) core.raised;
        drained = drained-same s t refl refl (dry-same s.crew n row within refl) (λ here. inl here) core.drained;
      }

  -- It wins an object.

  pub core-wins : (k : ℕ) (d : Decision) → k < length s.words → IsTrue (is_reached s.world old.known k) → word_of s k ≡ None
      → ((a : ℕ) → d ≡ decision.Copied a → Fits s.world old.drawn old.won (length old.won) k a)
      → (d ≡ decision.Marked → IsTrue (has_cause s))
      → IsCore (record s { words = set s.words k (Some d); crew = set s.crew n (winning k d old) })
  core-wins k d there reached unset place cause =
      record {
        world = core.world;
        one = subst (λ l. 1 ≤ l) (sym (many row)) core.one;
        most = subst (λ l. l ≤ 32) (sym (many row)) core.most;
        wishes = core.wishes;
        words = length-set s.words k (Some d) ∙ core.words;
        won = won-once s t n k d decides core.won;
        known = known-more s t n k d
            (record {
              world = refl;
              pushed = part-pushed s.crew n row within (λ r. r.known) (told k d) refl;
              is = decides.is;
              stay = decided-stays s t n k d decides;
              won = λ m i j e wins. elim (wins-cases s t n k d decides m i j e wins) [ inl before ↦ inl before | inr here ↦ inr (here.0, here.2, here.3) ];
              reached = reached;
            }) core.known;
        drawn = drawn-same s t (record { world = refl; rows = stays (λ r. r.drawn) row refl; rises = omega arith; past = λ o below pool. below }) core.drawn;
        packed = packed-more s t n k d
            (record { world = refl; won = decides.pushed; drawn = stays (λ r. r.drawn) row refl; place = place }) core.packed;
        raised = raised-same s t (stays (λ r. r.saw) row refl) (stays (λ r. r.raised) row refl) refl refl marked core.raised;
        drained = drained-same s t refl refl (dry-same s.crew n row within refl) (λ here. inl here) core.drained;
      }
    where
      row : Row
      row = winning k d old

      t : State
      t = record s { words = set s.words k (Some d); crew = set s.crew n (winning k d old) }

      decides : Decides s t n k d
      decides = record {
        pushed = part-pushed s.crew n row within (λ r. r.won) (told k d) refl;
        was = unset;
        is = get_or-set_same s.words k (Some d) None there;
        others = λ j other. get_or-set_other s.words k j (Some d) None other;
      }

      marked : (j : ℕ) → word_of t j ≡ Some decision.Marked → (word_of s j ≡ Some decision.Marked) ⊎ IsTrue (has_cause s)
      marked j word = elim (cases_eq j k) [
        | inl same ↦ inr (cause (same_Some d decision.Marked (sym decides.is ∙ ap (word_of t) (sym same) ∙ word)))
        | inr other ↦ inl (sym (decides.others j other) ∙ word)
      ]

  -- It draws.

  pub core-draws : (age region : ℕ) → age ≤ 24 → slice_get s.world.pool s.counter ≡ Some region → IsCore (after_draw s n age (Some region))
  core-draws age region young at =
      let x : Drawn = record { ordinal = s.counter; region = region; age = age } in
      let row : Row = record old { drawn = old.drawn ++ x ∷ [] } in
      let t : State = after_draw s n age (Some region) in
      record {
        world = core.world;
        one = subst (λ l. 1 ≤ l) (sym (many row)) core.one;
        most = subst (λ l. l ≤ 32) (sym (many row)) core.most;
        wishes = core.wishes;
        words = core.words;
        won = won-same s t (stays (λ r. r.won) row refl) (λ j. refl) core.won;
        known = known-same s t refl (stays (λ r. r.known) row refl) (stays (λ r. r.won) row refl) (λ j. refl) core.known;
        drawn = drawn-more s t n x
            (record {
              world = refl;
              pushed = part-pushed s.crew n row within (λ r. r.drawn) x refl;
              counter = refl;
              ordinal = refl;
              region = at;
              age = young;
            }) core.drawn;
        packed = packed-same s t refl (stays (λ r. r.won) row refl) (part-pushed s.crew n row within (λ r. r.drawn) x refl).kept core.packed;
        raised = raised-same s t (stays (λ r. r.saw) row refl) (stays (λ r. r.raised) row refl) refl refl (λ j same. inl same) core.raised;
        drained = drained-next s t refl refl (inl (slice_get_within s.world.pool s.counter region at, dry-same s.crew n row within refl)) refl core.drained;
      }

  pub core-draws-none : (age : ℕ) → old.dry ≡ false → length s.world.pool ≤ s.counter → IsCore (after_draw s n age None)
  core-draws-none age wet past =
      let row : Row = record old { dry = true } in
      let t : State = after_draw s n age None in
      record {
        world = core.world;
        one = subst (λ l. 1 ≤ l) (sym (many row)) core.one;
        most = subst (λ l. l ≤ 32) (sym (many row)) core.most;
        wishes = core.wishes;
        words = core.words;
        won = won-same s t (stays (λ r. r.won) row refl) (λ j. refl) core.won;
        known = known-same s t refl (stays (λ r. r.known) row refl) (stays (λ r. r.won) row refl) (λ j. refl) core.known;
        drawn = drawn-same s t
            (record { world = refl; rows = stays (λ r. r.drawn) row refl; rises = omega arith; past = λ o below pool. omega (arith, past, pool) }) core.drawn;
        packed = packed-same s t refl (stays (λ r. r.won) row refl)
            (λ m p x at. subst (λ l. At l p x) (sym (stays (λ r. r.drawn) row refl m)) at) core.packed;
        raised = raised-same s t (stays (λ r. r.saw) row refl) (stays (λ r. r.raised) row refl) refl refl (λ j same. inl same) core.raised;
        drained = drained-next s t refl refl (inr (past, dry-more s.crew n row within refl wet)) refl core.drained;
      }

  -- It sees the abort, or raises it: only the causes and what it knows of them change.

  module _ (wished : List Bool) (drained saw raised : Bool) where
    abbrev changed : Row
    changed = record old { saw = saw; raised = raised }

    abbrev seen : State
    seen = record s { wished = wished; drained = drained; crew = set s.crew n changed }

    pub core-sees : length wished ≡ 32 → (IsTrue drained → IsTrue s.drained ⊎ (length s.world.pool < s.counter))
        → Keeps s seen → IsCore seen
    core-sees wishes dry keeps = record {
      world = core.world;
      one = subst (λ l. 1 ≤ l) (sym (many changed)) core.one;
      most = subst (λ l. l ≤ 32) (sym (many changed)) core.most;
      wishes = wishes;
      words = core.words;
      won = won-same s seen (stays (λ r. r.won) changed refl) (λ j. refl) core.won;
      known = known-same s seen refl (stays (λ r. r.known) changed refl) (stays (λ r. r.won) changed refl) (λ j. refl) core.known;
      drawn = drawn-same s seen
          (record { world = refl; rows = stays (λ r. r.drawn) changed refl; rises = omega arith; past = λ o below pool. below }) core.drawn;
      packed = packed-same s seen refl (stays (λ r. r.won) changed refl)
          (λ m p x at. subst (λ l. At l p x) (sym (stays (λ r. r.drawn) changed refl m)) at) core.packed;
      raised = raised-kept s seen keeps core.raised;
      drained = drained-same s seen refl refl (dry-same s.crew n changed within refl) dry core.drained;
    }

-- By event.

-- a worker that finds object k decided, or not
core-claims : (s : State) (n k : ℕ) (d : Decision) (o : Option Decision) → IsCore s → n < length s.crew → k < length s.words
    → IsTrue (is_reached s.world (row_of s n).known k)
    → ((a : ℕ) → d ≡ decision.Copied a → Fits s.world (row_of s n).drawn (row_of s n).won (length (row_of s n).won) k a)
    → (d ≡ decision.Marked → IsTrue (has_cause s)) → word_of s k ≡ o → IsCore (after_claim s n k d o)
core-claims s n k d None core within there reached place cause word = core-wins s n core within k d there reached word place cause
core-claims s n k d (Some found) core within there reached place cause word = core-knows s n core within k found reached word

core-looks : (s : State) (n k : ℕ) (o : Option Decision) → IsCore s → n < length s.crew → IsTrue (is_reached s.world (row_of s n).known k)
    → word_of s k ≡ o → IsCore (after_look s n k o)
core-looks s n k None core within reached word = core
core-looks s n k (Some found) core within reached word = core-knows s n core within k found reached word

core-tries : (s : State) (n age : ℕ) (o : Option ℕ) → IsCore s → n < length s.crew → age ≤ 24 → (row_of s n).dry ≡ false
    → slice_get s.world.pool s.counter ≡ o → IsCore (after_draw s n age o)
core-tries s n age None core within young wet at = core-draws-none s n core within age wet past
  where
    past : length s.world.pool ≤ s.counter
    past = elim (cases_lt s.counter (length s.world.pool)) [
      | inl less ↦ absurd (none-some (get_or s.world.pool s.counter 0) (sym at ∙ slice_get-get_or s.world.pool s.counter 0 less))
      | inr most ↦ most
    ]
core-tries s n age (Some region) core within young wet at = core-draws s n core within age region young at

-- a worker raises the abort: there is a cause now, and a new wish is its own
core-raised : (s : State) (n : ℕ) (wished : List Bool) (drained : Bool) → IsCore s → n < length s.crew → length wished ≡ 32
    → (IsTrue drained → IsTrue s.drained ⊎ (length s.world.pool < s.counter))
    → IsTrue (has_cause (record s { wished = wished; drained = drained }))
    → ((m : ℕ) → At wished m true → (m ≡ n → ⊥) → At s.wished m true)
    → IsCore (record s { wished = wished; drained = drained; crew = set s.crew n (raising (row_of s n)) })
core-raised s n wished drained core within wishes dry caused own =
    core-sees s n core within wished drained true true wishes dry
    (record {
      causes = λ before. caused;
      marked = λ k word. inr caused;
      saw = λ m here. inr caused;
      sees = λ m here. by-row m (λ r. r.saw) refl here;
      raised = raised;
      raises = λ m here. by-row m (λ r. r.raised) refl here;
      wished = wishing;
    })
  where
    t : State
    t = record s { wished = wished; drained = drained; crew = set s.crew n (raising (row_of s n)) }

    here : (m : ℕ) → m ≡ n → row_of t m ≡ raising (row_of s n)
    here m same = ap (row_of t) same ∙ row-own s.crew n (raising (row_of s n)) within

    there : (m : ℕ) → (m ≡ n → ⊥) → row_of t m ≡ row_of s m
    there m other = row-other s.crew n (raising (row_of s n)) within m other

    -- what worker n has now, and the others had before
    by-row : (m : ℕ) (f : Row → Bool) → f (raising (row_of s n)) ≡ true → f (row_of s m) ≡ true → f (row_of t m) ≡ true
    by-row m f now before = elim (cases_eq m n) [ inl same ↦ ap f (here m same) ∙ now | inr other ↦ ap f (there m other) ∙ before ]

    raised : (m : ℕ) → IsTrue (row_of t m).raised → IsTrue (row_of s m).raised ⊎ IsTrue (row_of t m).saw
    raised m now = elim (cases_eq m n) [
      | inl same ↦ inr (ap (λ (r : Row). r.saw) (here m same))
      | inr other ↦ inl (sym (ap (λ (r : Row). r.raised) (there m other)) ∙ now)
    ]

    wishing : (m : ℕ) → At wished m true → At s.wished m true ⊎ IsTrue (row_of t m).raised
    wishing m at = elim (cases_eq m n) [
      | inl same ↦ inr (ap (λ (r : Row). r.raised) (here m same))
      | inr other ↦ inl (own m at other)
    ]

-- the wish of a worker is raised by it
core-wishes : (s : State) (n : ℕ) → IsCore s → n < length s.crew → IsCore (after_raise s n (abort.Wished n))
core-wishes s n core within =
    core-raised s n (set s.wished n true) s.drained core within (length-set s.wished n true ∙ core.wishes) (λ here. inl here) caused
    (λ m at other. before-set s.wished n m true true other at)
  where
    room : n < length s.wished
    room = let few : length s.crew ≤ 32 = core.most in let many : length s.wished ≡ 32 = core.wishes in omega (arith, within, few, many)

    caused : IsTrue (has_cause (record s { wished = set s.wished n true }))
    caused =
        wish-is-cause (record s { wished = set s.wished n true }) n
        (slice_get-get_or (set s.wished n true) n false (subst (λ l. n < l) (sym (length-set s.wished n true)) room)
        ∙ ap Some (get_or-set_same s.wished n true false room))

-- who calls the pool drained was given none by its last draw
core-drains : (s : State) (n : ℕ) → IsCore s → n < length s.crew → IsTrue (row_of s n).dry → IsCore (after_raise s n abort.Drained)
core-drains s n core within dry =
    core-raised s n s.wished true core within core.wishes (λ here. inr (dry-past s n within dry core.drained))
    (drained-is-cause (record s { drained = true }) refl) (λ m at other. at)

-- who looks sees the abort only if it is raised
core-looks-up : (s : State) (n : ℕ) → IsCore s → n < length s.crew → IsCore (after (event.Raised n) s)
core-looks-up s n core within =
    core-sees s n core within s.wished s.drained ((row_of s n).saw || has_cause s) (row_of s n).raised core.wishes (λ here. inl here)
    (record {
      causes = λ before. before;
      marked = λ k word. inl word;
      saw = saw;
      sees = sees;
      raised = λ m here. inl (sym (part-kept s.crew n row within (λ r. r.raised) refl m) ∙ here);
      raises = λ m here. part-kept s.crew n row within (λ r. r.raised) refl m ∙ here;
      wished = λ m at. inl at;
    })
  where
    row : Row
    row = record (row_of s n) { saw = (row_of s n).saw || has_cause s }

    t : State
    t = after (event.Raised n) s

    saw : (m : ℕ) → IsTrue (row_of t m).saw → IsTrue (row_of s m).saw ⊎ IsTrue (has_cause t)
    saw m here = elim (cases_eq m n) [
      | inl same ↦
          elim (or_cases (row_of s n).saw (has_cause s)
          (sym (ap (λ o. (row_of t o).saw) same ∙ ap (λ (r : Row). r.saw) (row-own s.crew n row within)) ∙ here)) [
            | inl before ↦ inl (ap (λ o. (row_of s o).saw) same ∙ before)
            | inr now ↦ inr now
          ]
      | inr other ↦ inl (sym (ap (λ (r : Row). r.saw) (row-other s.crew n row within m other)) ∙ here)
    ]

    sees : (m : ℕ) → IsTrue (row_of s m).saw → IsTrue (row_of t m).saw
    sees m here = elim (cases_eq m n) [
      | inl same ↦
          ap (λ o. (row_of t o).saw) same ∙ ap (λ (r : Row). r.saw) (row-own s.crew n row within)
          ∙ ap (λ b. b || has_cause s) (ap (λ o. (row_of s o).saw) (sym same) ∙ here)
      | inr other ↦ ap (λ (r : Row). r.saw) (row-other s.crew n row within m other) ∙ here
    ]

-- The invariant after every event.

core-raises : (s : State) (n : ℕ) (cause : Abort) → IsCore s → Allowed s (event.Raise n cause) → IsCore (after_raise s n cause)
core-raises s n (abort.Wished w) core may =
    subst (λ o. IsCore (after_raise s n (abort.Wished o))) (sym (eqb-true w n (not-false _ may.wish))) (core-wishes s n core may.worker)
core-raises s n abort.Drained core may = core-drains s n core may.worker (not-false (row_of s n).dry may.drained)

core-draws-at : (s : State) (n age : ℕ) → IsCore s → Allowed s (event.Draw n age) → IsCore (after (event.Draw n age) s)
core-draws-at s n age core may =
    let clear = or_parts _ _ may.place in
    core-tries s n age (slice_get s.world.pool s.counter) core may.worker (ltb-false 24 age clear.0) clear.1 refl

core-after : (s : State) (e : CoreEvent) → IsCore s → Allowed s e → IsCore (after e s)
core-after s (event.Look n k) core may = core-looks s n k (word_of s k) core may.worker (not-false _ may.reached) refl
core-after s (event.Copy n k a) core may =
    core-claims s n k (decision.Copied a) (word_of s k) core may.worker (ltb-true _ _ (not-false _ may.object)) (not-false _ may.reached)
    (λ b same. subst (λ o. Fits s.world (row_of s n).drawn (row_of s n).won (length (row_of s n).won) k o) (same_Copied a b same)
    (fits-place s.world (row_of s n).drawn (row_of s n).won k a (not-false _ may.place)))
    (λ same. absurd (copied-marked a same)) refl
core-after s (event.Mark n k) core may =
    core-claims s n k decision.Marked (word_of s k) core may.worker (ltb-true _ _ (not-false _ may.object)) (not-false _ may.reached)
    (λ b same. absurd (copied-marked b (sym same))) (λ same. core.raised.saw n (not-false _ may.raised)) refl
core-after s (event.Draw n age) core may = core-draws-at s n age core may
core-after s (event.Raise n cause) core may = core-raises s n cause core may
core-after s (event.Raised n) core may = core-looks-up s n core may.worker

pub core-applies : (s : State) (e : CoreEvent) → IsCore s → fault_of s e ≡ None → IsCore (after e s)
core-applies s e core none = core-after s e core (allowed s e none)

pub core-passing : (s : State) (e : CoreEvent) → IsCore s → IsCore (passing e s)
unfolding passing
core-passing s e core = by (fault_of s e) refl
  where
    by : (o : Option CoreFault) → fault_of s e ≡ o → IsCore (after_or_passed o e s)
    by None none = core-applies s e core none
    by (Some f) refused = core

pub core-all : (events : List CoreEvent) (s : State) → IsCore s → IsCore (after_all events s)
unfolding after_all
core-all [] s core = core
core-all (e ∷ events) s core = core-all events (passing e s) (core-passing s e core)

-- a step that is not refused may be without memory, and changes nothing then
pub core-changed : {T E : Type 0} (s t : State) (e : CoreEvent) (r : Result T E) → IsCore s → fault_of s e ≡ None → OnOk r (t ≡ after e s)
    → OnErr r (t ≡ s) → IsCore t
core-changed s t e (Ok x) core none ok err = subst IsCore (sym ok) (core-applies s e core none)
core-changed s t e (Err x) core none ok err = subst IsCore (sym err) core

pub none-is : {X : Type 0} (o : Option X) → is_some o ≡ false → o ≡ None
none-is None test = refl
none-is (Some x) test = absurd (false≢true (sym test))
