-- References between regions are covered again after a partial collection.
use Rattle.std.proofs.Common.{◌≡◌, ◌<◌, ℕ, inl, inr, Bool, true, false, cond, List, [], ◌∷◌, length, map, Some, None, refl, ap, sym, subst, ◌∙◌, arith}
use Rattle.std.specs.Prelude.{◌↔◌, ◌&&◌, IsTrue, is_some, slice_get}
use Rattle.std.specs.Option.{option_map}
use Rattle.std.proofs.lemmas.Bool.{cases_lt, false≢true}
use Rattle.std.proofs.lemmas.List.{get_or_past}
use Rattle.std.proofs.lemmas.List.FromFn.{get_or-map-range_with_len, length-map-range_with_len}
use Rattle.std.proofs.lemmas.Option.{same_Some, slice_get-map}
use Rattle.bal_barrier.proofs.Lemmas.{has}
use Rattle.bal_base.proofs.Lemmas.{among-cases, member-with}
use Rattle.bal_base.specs.Bits.{is_member}
use Rattle.bal_cards.specs.Cards.{Cards, with_dirty}
use Rattle.bal_copyfwd.specs.Covered.{IsCollected}
use Rattle.bal_copyfwd.specs.Returned.{refilled}
use Rattle.bal_fixup.proofs.Lemmas.{all-mended}
use Rattle.bal_fixup.specs.Dirtied.{with_dirty_places}
use Rattle.bal_fixup.specs.Mended.{HasSameStarts, mended_thing}
use Rattle.bal_gather.specs.Lent.{is_chosen}
use Rattle.bal_layout.proofs.Lemmas.{freed-is}
use Rattle.bal_layout.specs.Addresses.{card_of, region_of}
use Rattle.bal_layout.specs.References.{word_of}
use Rattle.bal_layout.specs.Regions.{all_regions, free_region, freed, is_eden, is_in, is_object, region_at, without_cards_of}
use Rattle.bal_layout.specs.Shape.{Shape}
use Rattle.bal_layout.specs.declared.region_state.RegionState.{RegionState}
use Rattle.bal_layout.specs.declared.region_state.Role.TheVariants.{Object}
use Rattle.bal_partial.proofs.CountedAsMarked.{filtered}
use Rattle.bal_partial.proofs.Mendable.{Known, contains-in, places-slots, same-things, slot-apart, slot-moves, slot-thing-of, state-kept}
use Rattle.bal_partial.proofs.MendedSteps.{mended-regions, mended-shape, refilled-shape}
use Rattle.bal_partial.specs.Collection.{AreSurvivorRegions, Collection, lent_by, marked_of}
use Rattle.bal_partial.specs.Mended.{IsMended, places_mended, settled_of}
use Rattle.bal_settle.specs.Settled.{is_lost, lost_regions, state_settled}
use Rattle.bal_table.proofs.Lemmas.{IsTable-vacated}
use Rattle.bal_table.specs.Moves.{Forwarding, moved_to}
use Rattle.bal_table.specs.Slots.{IsSlot}
use Rattle.bal_table.specs.Table.{IsTable, Table, remembered_at, role_at, things_of, word_at}
use Rattle.bal_words.specs.Moved.{word_to}
use Rattle.bal_words.specs.Shown.{Finds}
use Rattle.bal_words.specs.Things.{Thing, with_refs}

-- a card stays dirty while places become dirty, and that of each place does become it
stays-dirty : (ps : List ℕ) (c : Cards) (card : ℕ) → IsTrue (is_member c.list card) → IsTrue (is_member (with_dirty_places ps c).list card)
stays-dirty [] c card dirty = dirty
stays-dirty (p ∷ ps) c card dirty = stays-dirty ps (with_dirty (card_of p) c) card ((member-with (card_of p) card c.list).1 (inr dirty))

place-dirty : (ps : List ℕ) (c : Cards) (p : ℕ) → is_in p ps ≡ true → IsTrue (is_member (with_dirty_places ps c).list (card_of p))
place-dirty [] c p among = absurd (false≢true among)
place-dirty (q ∷ ps) c p among = elim (among-cases q p ps among) [
  | inl here ↦ stays-dirty ps (with_dirty (card_of q) c) (card_of p) ((member-with (card_of q) (card_of p) c.list).1 (inl (ap card_of here)))
  | inr later ↦ place-dirty ps (with_dirty (card_of q) c) p later
]

both-true : (a b : Bool) → a ≡ true → b ≡ true → (a && b) ≡ true
both-true true b one two = two
both-true false b one two = absurd (false≢true one)

none-false : (b : Bool) → (b ≡ true → ⊥) → b ≡ false
none-false false other = refl
none-false true other = absurd (other refl)

-- the list of a region that was not chosen, once the chosen ones are settled
settled-list : (chosen marked : List ℕ) (u : Table) (q : ℕ) → is_in q chosen ≡ false → (state_settled chosen marked u q).remembered ≡ remembered_at u q
settled-list chosen marked u q out = rw out (by (is_eden (region_at u.regions q).role))
  where
    by : (b : Bool) → (cond b (record (region_at u.regions q) { role = Object 1 }) (region_at u.regions q)).remembered ≡ remembered_at u q
    by true = refl
    by false = refl

module _ (roots : List ℕ) (x : Collection) (k : Known roots x)
    (objects : (a : ℕ) → things_of (settled_of x) a ≡ cond (is_in (region_of (refilled x.table x.course).shape a) x.chosen)
    (cond (is_in a (marked_of x)) (things_of (refilled x.table x.course) a) None) (things_of (refilled x.table x.course) a))
    (slots : (a i p : ℕ) → region_of (refilled x.table x.course).shape a < (refilled x.table x.course).shape.regions
    → (IsTrue (is_in (region_of (refilled x.table x.course).shape a) x.chosen) → IsTrue (is_in a (marked_of x)))
    → IsSlot (settled_of x) a i p ↔ IsSlot (refilled x.table x.course) a i p)
    (words : (a i p : ℕ) → IsSlot (refilled x.table x.course) a i p → (IsTrue (is_in (region_of (refilled x.table x.course).shape a) x.chosen) → IsTrue (is_in a (marked_of x)))
    → word_at (settled_of x) p ≡ word_at (refilled x.table x.course) p)
    (states : (settled_of x).regions ≡ freed (refilled x.table x.course).shape (lost_regions (refilled x.table x.course).shape x.chosen (marked_of x))
    (map (state_settled x.chosen (marked_of x) (refilled x.table x.course)) (all_regions (refilled x.table x.course).regions)))
    (count : length (refilled x.table x.course).regions ≡ length x.table.regions)
    (regions : List ℕ) (are : AreSurvivorRegions x regions) (m : Forwarding) (before after : Cards) (v : Table) (d : IsMended x m regions before after v) where
  abbrev t : Table
  t = x.table

  abbrev u : Table
  u = refilled x.table x.course

  abbrev w : Table
  w = places_mended x m

  table : IsTable x.table
  table = k.is.evacuation.table

  mended-so : IsTable (places_mended x m) × HasSameStarts (settled_of x) (places_mended x m)
      × ((q : ℕ) → is_in q x.places ≡ false → word_at (places_mended x m) q ≡ word_at (settled_of x) q)
  mended-so = all-mended (moved_to m) (settled_of x) x.places d.before_is (places-slots roots x k objects slots words)

  w-shape : (places_mended x m).shape ≡ x.table.shape
  w-shape = mended-shape (moved_to m) x.places (settled_of x) ∙ refilled-shape x

  v-shape : v.shape ≡ x.table.shape
  v-shape = ap (λ (y : Table). y.shape) d.same.table ∙ w-shape

  v-regions : v.regions ≡ (settled_of x).regions
  v-regions = ap (λ (y : Table). y.regions) d.same.table ∙ mended-regions (moved_to m) x.places (settled_of x)

  thing-apart : (a : ℕ) → is_in (region_of x.table.shape a) regions ≡ false → things_of v a ≡ things_of (places_mended x m) a
  thing-apart a apart = d.mended.each a ∙ ap (λ b. cond b (mended_thing (moved_to m) (things_of (places_mended x m) a)) (things_of (places_mended x m) a)) apart

  -- a slot outside of the regions of survivors
  apart-so : (a i p : ℕ) → IsSlot v a i p → is_in (region_of x.table.shape a) regions ≡ false
      → IsSlot x.table a i p × (is_in (region_of x.table.shape a) x.chosen ≡ false) × (word_at (settled_of x) p ≡ word_at x.table p)
  apart-so a i p slot apart =
      let old = (mended-so.1.slots a i p).0 ((d.same.slots a i p).0 slot) in
      let y = slot-thing-of (settled_of x) a i p old in
      slot-apart roots x k objects slots words regions are a i p old y.0 y.1 apart

  words-same : (a i p : ℕ) → IsSlot v a i p → is_in (region_of x.table.shape a) regions ≡ false → is_in p x.places ≡ false → word_at v p ≡ word_at x.table p
  words-same a i p slot apart out =
      let here = (d.same.slots a i p).0 slot in
      (slot-moves (places_mended x m) v a i p mended-so.0 d.after_is (thing-apart a apart) here).1 ∙ (mended-so.2 p out ∙ (apart-so a i p slot apart).2)

  -- what leads into the chosen regions was gathered
  gathered-so : (a i p target : ℕ) → IsSlot x.table a i p → is_in (region_of x.table.shape a) x.chosen ≡ false → word_at x.table p ≡ word_of target
      → is_in (region_of x.table.shape target) x.chosen ≡ true → is_in p x.places ≡ true
  gathered-so a i p target slot out leads chosen =
      let l = lent_by x in
      let there-is : is_some (things_of x.table target) ≡ true = subst (Finds (things_of x.table)) leads (k.is.begins.finds.each a i p slot) in
      let start : is_some (things_of l.table target) ≡ true = subst (λ o. is_some o ≡ true) (sym (same-things roots x k target)) there-is in
      let lent = slot-moves x.table l.table a i p table (IsTable-vacated x.table table) (same-things roots x k a) slot in
      contains-in x.places p ((k.gathered p).1 (
        target,
        record { holder = a; number = i; slot = lent.0; leads = lent.1 ∙ leads; outside = out },
        both-true (is_chosen l target) (is_some (things_of l.table target)) chosen start,
      ))

  -- a reference of a survivor that is not null was none before it was mended
  filled-before : (a i p : ℕ) → IsSlot v a i p → is_in (region_of x.table.shape a) regions ≡ true → (word_at v p ≡ 0 → ⊥) → word_at (places_mended x m) p ≡ 0 → ⊥
  filled-before a i p slot lies filled null =
      let here = (d.same.slots a i p).0 slot in
      let y = has (places_mended x m) a i p mended-so.0 here in
      let z = has v a i p d.after_is slot in
      let mended-is : things_of v a ≡ Some (with_refs (map (word_to (moved_to m))) y.thing)
      = d.mended.each a
      ∙ (ap (λ b. cond b (mended_thing (moved_to m) (things_of (places_mended x m) a)) (things_of (places_mended x m) a)) lies ∙ ap (mended_thing (moved_to m)) y.is) in
      let same : z.thing ≡ with_refs (map (word_to (moved_to m))) y.thing = same_Some z.thing (with_refs (map (word_to (moved_to m))) y.thing) (sym z.is ∙ mended-is) in
      let word : word_at v p ≡ word_to (moved_to m) (word_at (places_mended x m) p)
      = same_Some (word_at v p) (word_to (moved_to m) (word_at (places_mended x m) p)) (sym z.reads ∙ (ap (λ (e : Thing). slice_get e.refs i) same
      ∙ (slice_get-map (word_to (moved_to m)) y.thing.refs i ∙ ap (option_map (word_to (moved_to m))) y.reads))) in
      filled (word ∙ ap (word_to (moved_to m)) null)

  survived-so : (a i p : ℕ) → IsSlot v a i p → IsTrue (is_in (region_of x.table.shape a) regions) → (word_at v p ≡ 0 → ⊥) → IsTrue (is_member after.list (card_of p))
  survived-so a i p slot lies filled =
      (d.dirty.list (card_of p)).1 (inr (record {
        holder = a;
        number = i;
        place = p;
        slot = (d.same.slots a i p).0 slot;
        filled = filled-before a i p slot lies filled;
        on = refl;
        one = subst (λ (h : Shape). IsTrue (is_in (region_of h a) regions)) (sym w-shape) lies;
      }))

  -- the other regions remember what they did, but for the cards of freed ones
  lists-so : (q : ℕ) → is_object (role_at x.table q) ≡ true → is_in q x.chosen ≡ false
      → remembered_at v q ≡ without_cards_of x.table.shape (lost_regions x.table.shape x.chosen (marked_of x)) (remembered_at x.table q)
  lists-so q object out =
      ap (λ (rs : List RegionState). (region_at rs q).remembered) (v-regions ∙ states)
      ∙ (ap (λ (r : RegionState). r.remembered) (freed-is u.shape (lost_regions u.shape x.chosen (marked_of x)) (map (state_settled x.chosen (marked_of x) u) (all_regions u.regions)) q free_region within)
      ∙ (ap (λ b. (cond b free_region (record (region_at states-of q) { remembered = without_cards_of u.shape (lost_regions u.shape x.chosen (marked_of x)) (region_at states-of q).remembered })).remembered)
      (none-false (is_in q (lost_regions u.shape x.chosen (marked_of x))) (λ among. false≢true (sym out ∙ (filtered (is_lost u.shape (marked_of x)) x.chosen q among).0)))
      ∙ (ap (λ (r : RegionState). without_cards_of u.shape (lost_regions u.shape x.chosen (marked_of x)) r.remembered)
      (get_or-map-range_with_len (state_settled x.chosen (marked_of x) u) 0 (length u.regions) q q free_region inside (omega arith))
      ∙ (ap (without_cards_of u.shape (lost_regions u.shape x.chosen (marked_of x)))
      (settled-list x.chosen (marked_of x) u q out ∙ ap (λ (r : RegionState). r.remembered) (state-kept roots x k q object))
      ∙ ap (λ (h : Shape). without_cards_of h (lost_regions h x.chosen (marked_of x)) (remembered_at x.table q)) (refilled-shape x)))))
    where
      states-of : List RegionState
      states-of = map (state_settled x.chosen (marked_of x) (refilled x.table x.course)) (all_regions (refilled x.table x.course).regions)

      below : q < length x.table.regions
      below = elim (cases_lt q (length x.table.regions)) [
        | inl less ↦ less
        | inr past ↦ absurd (false≢true (sym (ap (λ (r : RegionState). is_object r.role) (get_or_past x.table.regions q free_region past)) ∙ object))
      ]

      inside : q < length (refilled x.table x.course).regions
      inside = omega (arith, below, count)

      within : q < length (map (state_settled x.chosen (marked_of x) (refilled x.table x.course)) (all_regions (refilled x.table x.course).regions))
      within = omega (arith, inside, length-map-range_with_len (state_settled x.chosen (marked_of x) (refilled x.table x.course)) 0 (length (refilled x.table x.course).regions))

  pub collected : IsCollected x.table v after (record {
    chosen = x.chosen;
    freed = lost_regions x.table.shape x.chosen (marked_of x);
    survivors = regions;
    places = x.places;
  })
  collected = record {
    shape = v-shape;
    outside = λ a i p slot apart. let o = apart-so a i p slot apart in (o.0, o.1);
    words = words-same;
    gathered = gathered-so;
    survived = survived-so;
    placed = λ p among. (d.dirty.list (card_of p)).1 (inl (place-dirty x.places _ p among));
    lists = lists-so;
    freed = λ q among. (filtered (is_lost x.table.shape (marked_of x)) x.chosen q among).0;
  }
