-- The board that a partial collection leaves is met by the words that it leaves.
use Rattle.std.proofs.Common.{◌≡◌, ◌<◌, ℕ, zero, suc, Bool, true, false, cond, List, [], map, length, Option, Some, None, refl, ap, sym, subst, ◌∙◌, arith}
use Rattle.std.specs.Prelude.{◌↔◌, All, IsSome, IsTrue, is_some, option_and_then, unwrap_or}
use Rattle.std.proofs.lemmas.Bool.{and_parts, false≢true}
use Rattle.std.proofs.lemmas.Option.{none-some}
use Rattle.bal_cards.specs.Cards.{Cards}
use Rattle.bal_copyfwd.specs.Moving.{Decisions, IsLeft, IsQuiet, decided_at, goes_to, is_mark, is_marked_at, survives}
use Rattle.bal_copyfwd.specs.Places.{AreTaken}
use Rattle.bal_copyfwd.specs.Returned.{refilled}
use Rattle.bal_core.specs.Finished.{Survives}
use Rattle.bal_core.specs.Steps.{told}
use Rattle.bal_core.specs.World.{At}
use Rattle.bal_core.specs.declared.event.Decision.{Decision}
use Rattle.bal_evacuate.specs.Plan.{numbers_of}
use Rattle.bal_fixup.specs.Mending.{MendedWhere}
use Rattle.bal_fixup.specs.Placed.{lies_among}
use Rattle.bal_gather.specs.Lent.{Lent, MayBeChosen, is_chosen}
use Rattle.bal_gather.specs.Numbers.{is_start, number_of, starts_below, starts_of}
use Rattle.bal_global.specs.Global.{IsOnBoard, heap_by}
use Rattle.bal_layout.specs.Addresses.{region_of}
use Rattle.bal_layout.specs.Regions.{is_in}
use Rattle.bal_layout.specs.Shape.{Shape}
use Rattle.bal_layout.specs.declared.region_state.RegionState.{RegionState}
use Rattle.bal_meet.specs.Decode.{placed_at}
use Rattle.bal_meet.specs.Heap.{Heap, Meets, Moves, made_counts, spot_at}
use Rattle.bal_model.specs.declared.config.Config.{Config}
use Rattle.bal_model.specs.declared.event.Kept.{Kept}
use Rattle.bal_partial.proofs.CountedAsMarked.{filtered, stays-in}
use Rattle.bal_partial.proofs.MendedSteps.{mended-current, mended-regions, mended-shape, refilled-shape}
use Rattle.bal_partial.specs.Collection.{Collection, IsCollection, decisions_of, lent_by, marked_of, plan_of, seen_of}
use Rattle.bal_partial.specs.Mended.{IsMended, places_mended, settled_of}
use Rattle.bal_partial.specs.Outcome.{AreMoves}
use Rattle.bal_rules.specs.Board.{Board, placed_except}
use Rattle.bal_rules.specs.PartialEvents.{after_partial, names_lost, placed_after_partial}
use Rattle.bal_table.proofs.Lemmas.{objects-vacated}
use Rattle.bal_table.specs.Moves.{Forwarding, moved_to}
use Rattle.bal_table.specs.Table.{IsTable, Table, thing_in, things_of}
use Rattle.bal_words.specs.Moved.{Carried, Closed, Fixed, LeadsToKept, word_to}
use Rattle.bal_words.specs.Things.{Thing}

marked-decided : (o : Option Decision) → is_mark o ≡ true → is_some o ≡ true
marked-decided None mark = absurd (false≢true mark)
marked-decided (Some d) mark = refl

decided-number : (decisions : Decisions) (o : Option ℕ) → is_some (option_and_then decisions o) ≡ true → is_some o ≡ true
decided-number decisions None some = absurd (false≢true some)
decided-number decisions (Some k) some = refl

started : (b : Bool) (n : ℕ) → is_some (cond b (Some n) None) ≡ true → b ≡ true
started true n some = refl
started false n some = absurd (false≢true some)

-- What is decided.
module _ (x : Collection)
    (listed : (a : ℕ) → IsTrue (is_in a (starts_of (lent_by x))) ↔ (IsSome (things_of (lent_by x).table a) × IsTrue (is_chosen (lent_by x) a))) where
  abbrev l : Lent
  l = lent_by x

  -- the marked objects are those that were marked
  marked-is : (a : ℕ) → is_in a (marked_of x) ≡ is_marked_at (lent_by x) (decisions_of x) a
  marked-is a = by (is_in a (marked_of x)) (is_marked_at l (decisions_of x) a) refl refl
    where
      in-it : is_marked_at (lent_by x) (decisions_of x) a ≡ true → is_in a (marked_of x) ≡ true
      in-it mark =
          let number = decided-number (decisions_of x) (number_of l a) (marked-decided (decided_at l (decisions_of x) a) mark) in
          let start = and_parts (is_chosen l a) (is_some (things_of l.table a)) (started (is_start l a) (length (starts_below l a)) number) in
          stays-in (is_marked_at l (decisions_of x)) (starts_of l) a ((listed a).1 (start.1, start.0)) mark

      by : (p q : Bool) → is_in a (marked_of x) ≡ p → is_marked_at (lent_by x) (decisions_of x) a ≡ q → p ≡ q
      by true true one two = refl
      by false false one two = refl
      by true false one two = absurd (false≢true (sym two ∙ (filtered (is_marked_at l (decisions_of x)) (starts_of l) a one).1))
      by false true one two = absurd (false≢true (sym one ∙ in-it two))

  -- just the marked objects are left in the chosen regions
  pub left-marked : ((a : ℕ) → things_of (settled_of x) a ≡ cond (is_in (region_of (refilled x.table x.course).shape a) x.chosen)
      (cond (is_in a (marked_of x)) (things_of (refilled x.table x.course) a) None) (things_of (refilled x.table x.course) a))
      → IsLeft (lent_by x) (decisions_of x) (refilled x.table x.course) (settled_of x)
  left-marked objects = record {
    objects = λ a.
        objects a
        ∙ (ap (λ (h : Shape). cond (is_in (region_of h a) x.chosen) (cond (is_in a (marked_of x)) (things_of (refilled x.table x.course) a) None) (things_of (refilled x.table x.course) a)) (refilled-shape x)
        ∙ ap (λ b. cond (is_chosen l a) (cond b (things_of (refilled x.table x.course) a) None) (things_of (refilled x.table x.course) a)) (marked-is a));
  }

module _ (roots : List ℕ) (x : Collection) (is : IsCollection roots x) where
  table : IsTable x.table
  table = is.evacuation.table

  pub things-out : (a : ℕ) → things_of (lent_by x).table a ≡ things_of x.table a
  things-out a = ap (option_and_then thing_in) (objects-vacated x.table table a)

  pub may-choose : MayBeChosen (lent_by x).table x.chosen
  may-choose = record {
    ascending = is.begins.may.ascending;
    within = λ q among. let less : q < length x.table.regions = is.begins.may.within q among in omega (arith, less, table.regions);
    objects = is.begins.may.objects;
  }

  -- nothing was left to decide
  pub is-quiet : IsQuiet (lent_by x) x.held (numbers_of (plan_of x).pool) (decisions_of x)
  is-quiet = record {
    roots = λ k root. let d = is.rest.roots k root in ap is_some d.1;
    targets = λ j k decided points.
        let d = there-decided (decisions_of x j) decided in
        let e = is.rest.targets j k d points in
        ap is_some e.1;
  }
    where
      there-decided : (o : Option Decision) → is_some o ≡ true → (d : Decision) × (o ≡ Some d)
      there-decided None some = absurd (false≢true some)
      there-decided (Some d) some = (d, refl)

  -- the decisions are those of the one worker
  pub are-taken : ((k : ℕ) (d : Decision) → decisions_of x k ≡ Some d → (i : ℕ) × At x.course.won i (told k d))
      → ((i k : ℕ) (d : Decision) → At x.course.won i (told k d) → decisions_of x k ≡ Some d) → AreTaken (seen_of x) (decisions_of x)
  are-taken won decided = record { each = λ k d. (λ e. let i = won k d e in (0, i.0, i.1), λ s. back k d s.0 s.1 s.2) }
    where
      back : (k : ℕ) (d : Decision) (n i : ℕ) → Survives (seen_of x) n i k d → decisions_of x k ≡ Some d
      back k d zero i at = decided i k d at
      back k d (suc n) i at = absurd (none-some (told k d) at)

  -- Where objects went.
  module _ (m : Forwarding) (moves : AreMoves x m) where
    to-is : (a : ℕ) → moved_to m a ≡ goes_to (lent_by x) (decisions_of x) a
    to-is a = ap (λ o. unwrap_or o a) (moves.each a)

    pub carried-so : Carried (things_of (lent_by x).table) (things_of (settled_of x)) (survives (lent_by x) (decisions_of x)) (goes_to (lent_by x) (decisions_of x))
        → Carried (things_of x.table) (things_of (settled_of x)) (survives (lent_by x) (decisions_of x)) (moved_to m)
    carried-so c = record {
      carried = λ a y at keeps. ap (things_of (settled_of x)) (to-is a) ∙ c.carried a y (things-out a ∙ at) keeps;
      only = λ b y at. let r = c.only b y at in (r.0, sym (things-out r.0) ∙ r.1, r.2, to-is r.0 ∙ r.3);
    }

    module _ (c : Config) (b : Board) (made : List ℕ) (kept : List Kept) (regions : List ℕ) (d e : Cards) (v : Table)
        (on : IsOnBoard c x.table roots made b) (mended : IsMended x m regions d e v) where
      abbrev before : Heap
      before = heap_by x.table roots made

      abbrev after : Heap
      after = heap_by v (map (word_to (moved_to m)) roots) made

      abbrev keeps : ℕ → Bool
      keeps = survives (lent_by x) (decisions_of x)

      shape-after : v.shape ≡ x.table.shape
      shape-after = ap (λ (y : Table). y.shape) mended.same.table ∙ (mended-shape (moved_to m) x.places (settled_of x) ∙ refilled-shape x)

      regions-after : v.regions ≡ (settled_of x).regions
      regions-after = ap (λ (y : Table). y.regions) mended.same.table ∙ mended-regions (moved_to m) x.places (settled_of x)

      current-after : v.current ≡ None
      current-after = ap (λ (y : Table). y.current) mended.same.table ∙ mended-current (moved_to m) x.places (settled_of x)

      -- what was mended lies among the regions of survivors of the settled table
      pub mended-among : MendedWhere (things_of (places_mended x m)) (things_of v) (lies_among (settled_of x).shape regions) (moved_to m)
      mended-among = subst (λ (h : Shape). MendedWhere (things_of (places_mended x m)) (things_of v) (lies_among h regions) (moved_to m)) (sym (refilled-shape x)) mended.mended

      pub moves-so : Carried (things_of (lent_by x).table) (things_of (settled_of x)) (survives (lent_by x) (decisions_of x)) (goes_to (lent_by x) (decisions_of x))
          → Fixed (things_of (settled_of x)) (things_of v) (moved_to m) → Closed (things_of (lent_by x).table) (survives (lent_by x) (decisions_of x))
          → All (LeadsToKept (survives (lent_by x) (decisions_of x))) roots → Moves before after (things_of (settled_of x)) keeps (moved_to m)
      moves-so carried fixed closed held = record {
        shape = shape-after;
        carried = carried-so carried;
        mended = fixed;
        closed = record { each = λ a y at keeps. closed.each a y (things-out a ∙ at) keeps };
        held = held;
        roots = refl;
        made = refl;
      }

      -- each survivor lies where the event says
      pub spot-so : (a : ℕ) (y : Thing) → placed_after_partial kept (placed_at y.name (spot_at before a))
          ≡ placed_at y.name (record { region = region_of x.table.shape (goes_to (lent_by x) (decisions_of x) a); leaves = [] })
          → placed_after_partial kept (placed_at y.name (spot_at before a)) ≡ placed_at y.name (spot_at after (moved_to m a))
      spot-so a y is =
          is
          ∙ (ap (λ n. placed_at y.name (record { region = region_of x.table.shape n; leaves = [] })) (sym (to-is a))
          ∙ ap (λ (h : Shape). placed_at y.name (record { region = region_of h (moved_to m a); leaves = [] })) (sym shape-after))

      pub on-board : Meets after (record b { present = map (placed_after_partial kept) (placed_except (names_lost b x.chosen kept) b.present); regions = v.regions; current = v.current })
          → (settled_of x).regions ≡ (after_partial c b x.chosen kept).regions
          → IsOnBoard c v (map (word_to (moved_to m)) roots) made (after_partial c b x.chosen kept)
      on-board meets states = record {
        shape = on.shape ∙ sym shape-after;
        meets = record {
          decodes = meets.decodes;
          account = meets.account
              ∙ (ap (λ (rs : List RegionState). record { made = made_counts b.plain; regions = rs; current = v.current }) (regions-after ∙ states)
              ∙ ap (λ (o : Option ℕ). record { made = made_counts b.plain; regions = (after_partial c b x.chosen kept).regions; current = o }) current-after);
        };
      }
