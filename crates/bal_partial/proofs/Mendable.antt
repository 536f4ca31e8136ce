-- What is mended after an evacuation, and where it lies.
use Rattle.std.proofs.Common.{◌≡◌, ◌<◌, ℕ, zero, suc, inl, inr, Bool, true, false, cond, List, [], ◌∷◌, get_or, length, Option, Some, None, refl, ap, sym, subst, ◌∙◌, arith}
use Rattle.std.specs.Prelude.{◌↔◌, All, Contains, IsSome, IsTrue, option_and_then, option_map, slice_get, unwrap_or}
use Rattle.std.proofs.lemmas.Bool.{false≢true}
use Rattle.std.proofs.lemmas.Option.{get_or_from_slice_get, none-some, same_Some, slice_get_within}
use Rattle.bal_barrier.proofs.Lemmas.{has, has-same, is-slot}
use Rattle.bal_barrier.specs.Coverage.{AreRemembered}
use Rattle.bal_base.proofs.Lemmas.{among-cases, among-first, among-later}
use Rattle.bal_base.specs.Bits.{IsAscending}
use Rattle.bal_copyfwd.specs.Filled.{IsOther, MayFill, numbers_of}
use Rattle.bal_copyfwd.specs.Moving.{IsPutBack, address_of_copy, copy_of, is_marked_at}
use Rattle.bal_copyfwd.specs.Returned.{backs_of, filled_numbers, refilled, split_of}
use Rattle.bal_fixup.proofs.Lemmas.{all-mended}
use Rattle.bal_fixup.specs.Mended.{HasSameStarts, IsReference}
use Rattle.bal_fixup.specs.Placed.{ArePlacesOutside, AreSlots}
use Rattle.bal_gather.specs.Gathered.{IsGathered, LeadsFromOutside, NoneOverflowed}
use Rattle.bal_gather.specs.Lent.{Lent, is_chosen}
use Rattle.bal_gather.specs.Numbers.{is_start, number_of, starts_below, starts_of}
use Rattle.bal_layout.specs.Addresses.{address_in, offset_of, region_of}
use Rattle.bal_layout.specs.References.{word_of}
use Rattle.bal_layout.specs.Regions.{is_in, is_object, region_at}
use Rattle.bal_layout.specs.Shape.{Shape}
use Rattle.bal_layout.specs.declared.header.Header.{Header}
use Rattle.bal_layout.specs.declared.region_state.RegionState.{RegionState}
use Rattle.bal_partial.proofs.BackAsDrawn.{as_filled, filled-at, filled-place, number-there, object-stays}
use Rattle.bal_partial.proofs.CountedAsMarked.{filtered, rising}
use Rattle.bal_partial.proofs.MendedSteps.{mended-shape, refilled-shape}
use Rattle.bal_partial.specs.Collection.{AreSurvivorRegions, Collection, IsCollection, decisions_of, lent_by, marked_of, plan_of}
use Rattle.bal_partial.specs.Mended.{places_mended, settled_of}
use Rattle.bal_partial.specs.Outcome.{AreMoves}
use Rattle.bal_settle.specs.Settled.{MaySettle}
use Rattle.bal_table.proofs.Lemmas.{IsTable-vacated, address-is, free-numbered, object-region, object-within, objects-vacated, seen, slot-region, slot-thing, thing-slot}
use Rattle.bal_table.specs.Moves.{Forwarding, moved, moved_to}
use Rattle.bal_table.specs.Occupied.{vacated}
use Rattle.bal_table.specs.Slots.{IsSlot}
use Rattle.bal_table.specs.Table.{IsTable, Table, land_at, role_at, slot_place, thing_in, things_of, word_at}
use Rattle.bal_words.proofs.Lemmas.{there}
use Rattle.bal_words.specs.Moved.{word_to}
use Rattle.bal_words.specs.Paths.{words_in}
use Rattle.bal_words.specs.Pieces.{thing_of}
use Rattle.bal_words.specs.Shown.{Finds}
use Rattle.bal_words.specs.Things.{Thing}

-- Tables in general.

-- an object lies in a region of objects
role-of-object : (t : Table) (a : ℕ) (y : Thing) → IsTable t → things_of t a ≡ Some y → is_object (role_at t (region_of t.shape a)) ≡ true
role-of-object t a y table is = by (is_object (role_at t (region_of t.shape a))) refl
  where
    by : (b : Bool) → is_object (role_at t (region_of t.shape a)) ≡ b → b ≡ true
    by true object = refl
    by false none =
        let z = seen t a y table is in
        let within = (object-within t a z.object table z.is).1 in
        let used : (land_at t (region_of t.shape a)).used ≡ 0 =
        sym (table.each (region_of t.shape a) (object-region t a z.object table z.is)).used ∙ (table.each (region_of t.shape a) (object-region t a z.object table z.is)).empty none in
        let at : address_in t.shape (region_of t.shape a) (offset_of t.shape a) ≡ a = address-is t.shape a in
        absurd (omega (arith, within, used, at, z.size))

pub region-of-object : (t : Table) (a : ℕ) (y : Thing) → IsTable t → things_of t a ≡ Some y → region_of t.shape a < t.shape.regions
region-of-object t a y table is = let z = seen t a y table is in object-region t a z.object table z.is

-- a slot of an object is one wherever that object starts at the same address, and has the same word there
pub slot-moves : (t u : Table) (a i p : ℕ) → IsTable t → IsTable u → things_of u a ≡ things_of t a → IsSlot t a i p → IsSlot u a i p × (word_at u p ≡ word_at t p)
slot-moves t u a i p one two same slot =
    let h = has t a i p one slot in
    is-slot u a i p (word_at t p) two (has-same u t a i p (word_at t p) (sym same) h)

slot-some : (t : Table) (a i p : ℕ) → IsTable t → IsSlot t a i p → (y : Thing) × (things_of t a ≡ Some y)
slot-some t a i p table slot = let y = slot-thing t a i p table slot in (y.0, y.1.0)

-- the object whose slot it is
pub slot-thing-of : (t : Table) (a i p : ℕ) → IsSlot t a i p → (y : Thing) × (things_of t a ≡ Some y)
slot-thing-of t a i p slot =
    (thing_of slot.header slot.object [], ap (option_and_then thing_in) slot.is ∙ ap (option_map (λ (h : Header). thing_of h slot.object [])) slot.read)

chosen-some : (b : Bool) (n k : ℕ) → cond b (Some n) None ≡ Some k → b ≡ true
chosen-some true n k is = refl
chosen-some false n k is = absurd (none-some k is)

decide-false : (b : Bool) → (b ≡ true → ⊥) → b ≡ false
decide-false false other = refl
decide-false true other = absurd (other refl)

pub contains-in : (ps : List ℕ) (p : ℕ) → Contains ps p → is_in p ps ≡ true
contains-in [] p c = absurd (omega (arith, c.1))
contains-in (q ∷ ps) p (zero, less, is) = subst (λ n. is_in n (q ∷ ps) ≡ true) is (among-first q ps)
contains-in (q ∷ ps) p (suc k, less, is) = among-later q p ps (contains-in ps p (k, omega (arith, less), is))

in-contains : (ps : List ℕ) (p : ℕ) → is_in p ps ≡ true → Contains ps p
in-contains [] p among = absurd (false≢true among)
in-contains (q ∷ ps) p among = elim (among-cases q p ps among) [
  | inl here ↦ (zero, omega arith, here)
  | inr later ↦ let r = in-contains ps p later in (suc r.0, omega (arith, r.1), r.2)
]

-- what is known of the laws below this crate
pub record Known (roots : List ℕ) (x : Collection) : Type 0 where
  pub is : IsCollection roots x
  pub fill : MayFill (split_of x.table) (backs_of x.course)
  pub refilled_is : IsTable (refilled x.table x.course)
  pub put : IsPutBack (lent_by x) (decisions_of x) (filled_numbers x.course) (refilled x.table x.course)
  pub listed : (a : ℕ) → IsTrue (is_in a (starts_of (lent_by x))) ↔ (IsSome (things_of (lent_by x).table a) × IsTrue (is_chosen (lent_by x) a))
  pub ascend : IsAscending (starts_of (lent_by x))
  pub states : (q : ℕ) → IsOther q (backs_of x.course) → region_at (refilled x.table x.course).regions q ≡ region_at x.table.regions q
  pub stays : (q : ℕ) → is_object (role_at x.table q) ≡ true → IsOther q (backs_of x.course)
  pub gathered : (p : ℕ) → Contains x.places p ↔ ((a : ℕ) × LeadsFromOutside (lent_by x) p a × IsTrue (is_start (lent_by x) a))
  pub references : (words : List ℕ) → All (Finds (things_of x.table)) words → All IsReference words

-- the regions know of each reference while the free ones are out
pub remembered-out : (t : Table) → IsTable t → AreRemembered t → AreRemembered (vacated t)
remembered-out t table all = record {
  each = λ holder number place target crosses.
      let same : things_of (vacated t) holder ≡ things_of t holder = ap (option_and_then thing_in) (objects-vacated t table holder) in
      let slot = slot-moves (vacated t) t holder number place (IsTable-vacated t table) table (sym same) crosses.slot in
      all.each holder number place target (record { slot = slot.0; leads = slot.1 ∙ crosses.leads; apart = crosses.apart });
}

-- so much is known of a collection
pub known : (roots : List ℕ) (x : Collection) (is : IsCollection roots x) → MayFill (split_of x.table) (backs_of x.course) → IsTable (refilled x.table x.course)
    → IsPutBack (lent_by x) (decisions_of x) (filled_numbers x.course) (refilled x.table x.course)
    → ((a : ℕ) → IsTrue (is_in a (starts_of (lent_by x))) ↔ (IsSome (things_of (lent_by x).table a) × IsTrue (is_chosen (lent_by x) a)))
    → IsAscending (starts_of (lent_by x))
    → ((q : ℕ) → IsOther q (backs_of x.course) → region_at (refilled x.table x.course).regions q ≡ region_at x.table.regions q)
    → ((p : ℕ) → IsTable (lent_by x).table → AreRemembered (lent_by x).table → NoneOverflowed (lent_by x) → IsGathered (lent_by x) roots x.held x.places
    → Contains x.places p ↔ ((a : ℕ) × LeadsFromOutside (lent_by x) p a × IsTrue (is_start (lent_by x) a)))
    → ((words : List ℕ) → All (Finds (things_of x.table)) words → All IsReference words) → Known roots x
known roots x is fill refilled_is put listed ascend states gathered references = record {
  is = is;
  fill = fill;
  refilled_is = refilled_is;
  put = put;
  listed = listed;
  ascend = ascend;
  states = states;
  stays = λ q object. object-stays x.table x.chosen (plan_of x) x.course is.evacuation fill q object;
  gathered = λ p. gathered p (IsTable-vacated x.table is.evacuation.table) (remembered-out x.table is.evacuation.table is.begins.remembered) is.begins.may.known is.gathered;
  references = references;
}

module _ (roots : List ℕ) (x : Collection) (k : Known roots x) where
  abbrev l : Lent
  l = lent_by x

  abbrev t : Table
  t = x.table

  abbrev u : Table
  u = refilled x.table x.course

  abbrev s : Shape
  s = x.table.shape

  table : IsTable x.table
  table = k.is.evacuation.table

  pub same-things : (a : ℕ) → things_of l.table a ≡ things_of x.table a
  same-things a = ap (option_and_then thing_in) (objects-vacated x.table table a)

  u-shape : (refilled x.table x.course).shape ≡ x.table.shape
  u-shape = refilled-shape x

  chosen-object : (q : ℕ) → is_in q x.chosen ≡ true → is_object (role_at x.table q) ≡ true
  chosen-object q among = k.is.begins.may.objects q among

  object-not-filled : (q : ℕ) → is_object (role_at x.table q) ≡ true → is_in q (filled_numbers x.course) ≡ false
  object-not-filled q object = decide-false (is_in q (filled_numbers x.course)) (λ lies. false≢true (sym (k.put.free q lies) ∙ object))

  -- what was there stays there, as no region of objects was filled
  stays-there : (a : ℕ) (y : Thing) → things_of x.table a ≡ Some y → things_of u a ≡ Some y
  stays-there a y is = k.put.others a (object-not-filled (region_of s a) (role-of-object x.table a y table is)) ∙ (same-things a ∙ is)

  -- each object is one that was there
  was-there : (b : ℕ) (y : Thing) → things_of u b ≡ Some y → (a : ℕ) × (things_of x.table a ≡ Some y)
  was-there b y is = by (is_in (region_of s b) (filled_numbers x.course)) refl
    where
      by : (f : Bool) → is_in (region_of s b) (filled_numbers x.course) ≡ f → (a : ℕ) × (things_of x.table a ≡ Some y)
      by true lies =
          let a = k.put.only b y lies is in
          (a.0, sym (same-things a.0) ∙ (sym (k.put.copies a.0 b a.1).1 ∙ is))
      by false out = (b, sym (same-things b) ∙ (sym (k.put.others b out) ∙ is))

  -- Marked objects.

  marked-there : (a : ℕ) → is_in a (marked_of x) ≡ true → (y : Thing) × (things_of x.table a ≡ Some y) × (is_in (region_of s a) x.chosen ≡ true)
  marked-there a among =
      let start = (filtered (is_marked_at l (decisions_of x)) (starts_of l) a among).0 in
      let both = (k.listed a).0 start in
      let y = there (things_of l.table a) both.0 in
      (y.0, sym (same-things a) ∙ y.1, both.1)

  pub state-kept : (q : ℕ) → is_object (role_at x.table q) ≡ true → region_at u.regions q ≡ region_at x.table.regions q
  state-kept q object = k.states q (k.stays q object)

  pub settle-may : MaySettle u x.chosen (marked_of x)
  settle-may = record {
    ascending = k.is.begins.may.ascending;
    regions = λ q among. (
      (let within : q < length x.table.regions = k.is.begins.may.within q among in
          subst (λ (h : Shape). q < h.regions) (sym u-shape) (omega (arith, within, table.regions))),
      ap (λ (r : RegionState). is_object r.role) (state-kept q (chosen-object q among)) ∙ chosen-object q among,
    );
    in_order = rising (is_marked_at l (decisions_of x)) (starts_of l) k.ascend;
    objects = λ a among. let y = marked-there a among in subst IsSome (sym (stays-there a y.0 y.1)) refl;
    inside = λ a among. subst (λ (h : Shape). IsTrue (is_in (region_of h a) x.chosen)) (sym u-shape) (marked-there a among).2;
  }

  -- The settled table.
  module _ (objects : (a : ℕ) → things_of (settled_of x) a ≡ cond (is_in (region_of u.shape a) x.chosen) (cond (is_in a (marked_of x)) (things_of u a) None) (things_of u a))
      (slots : (a i p : ℕ) → region_of u.shape a < u.shape.regions → (IsTrue (is_in (region_of u.shape a) x.chosen) → IsTrue (is_in a (marked_of x)))
      → IsSlot (settled_of x) a i p ↔ IsSlot u a i p)
      (words : (a i p : ℕ) → IsSlot u a i p → (IsTrue (is_in (region_of u.shape a) x.chosen) → IsTrue (is_in a (marked_of x))) → word_at (settled_of x) p ≡ word_at u p) where
    -- an object of it is one of the table before, and if its region was chosen, it was marked
    settled-there : (a : ℕ) (y : Thing) → things_of (settled_of x) a ≡ Some y → (things_of u a ≡ Some y) × (is_in (region_of s a) x.chosen ≡ true → is_in a (marked_of x) ≡ true)
    settled-there a y is = by (is_in (region_of s a) x.chosen) (is_in a (marked_of x)) refl refl
      where
        whole : cond (is_in (region_of s a) x.chosen) (cond (is_in a (marked_of x)) (things_of u a) None) (things_of u a) ≡ Some y
        whole = ap (λ (h : Shape). cond (is_in (region_of h a) x.chosen) (cond (is_in a (marked_of x)) (things_of u a) None) (things_of u a)) (sym u-shape) ∙ (sym (objects a) ∙ is)

        by : (c m : Bool) → is_in (region_of s a) x.chosen ≡ c → is_in a (marked_of x) ≡ m
            → (things_of u a ≡ Some y) × (is_in (region_of s a) x.chosen ≡ true → is_in a (marked_of x) ≡ true)
        by false m out mark = (
          sym (ap (λ b. cond b (cond (is_in a (marked_of x)) (things_of u a) None) (things_of u a)) out) ∙ whole,
          λ in-it. absurd (false≢true (sym out ∙ in-it)),
        )
        by true true in-it mark = (
          sym (ap (λ b. cond b (cond (is_in a (marked_of x)) (things_of u a) None) (things_of u a)) in-it ∙ ap (λ b. cond b (things_of u a) None) mark) ∙ whole,
          λ in-there. mark,
        )
        by true false in-it mark =
            absurd (none-some y (sym (ap (λ b. cond b (cond (is_in a (marked_of x)) (things_of u a) None) (things_of u a)) in-it ∙ ap (λ b. cond b (things_of u a) None) mark) ∙ whole))

    -- an object outside of the chosen regions has its slots there
    slot-outside : (a i p : ℕ) → IsSlot x.table a i p → is_in (region_of s a) x.chosen ≡ false → IsSlot (settled_of x) a i p × (word_at (settled_of x) p ≡ word_at x.table p)
    slot-outside a i p slot out =
        let y = slot-some x.table a i p table slot in
        let moved-so = slot-moves x.table u a i p table k.refilled_is (stays-there a y.0 y.1 ∙ sym y.1) slot in
        let none : IsTrue (is_in (region_of u.shape a) x.chosen) → IsTrue (is_in a (marked_of x)) =
        λ among. absurd (false≢true (sym out ∙ subst (λ (h : Shape). is_in (region_of h a) x.chosen ≡ true) u-shape among)) in
        let within : region_of u.shape a < u.shape.regions = subst (λ (h : Shape). region_of h a < h.regions) (sym u-shape) (region-of-object x.table a y.0 table y.1) in
        ((slots a i p within none).1 moved-so.0, words a i p moved-so.0 none ∙ moved-so.1)

    -- a slot of the settled table is one of the table before
    slot-before : (a i p : ℕ) → IsSlot (settled_of x) a i p → (y : Thing) → things_of (settled_of x) a ≡ Some y → region_of u.shape a < u.shape.regions
        → IsSlot u a i p × (word_at (settled_of x) p ≡ word_at u p)
    slot-before a i p slot y is within =
        let both = settled-there a y is in
        let kept : IsTrue (is_in (region_of u.shape a) x.chosen) → IsTrue (is_in a (marked_of x)) = λ among. both.1 (subst (λ (h : Shape). is_in (region_of h a) x.chosen ≡ true) u-shape among) in
        let old = (slots a i p within kept).0 slot in
        (old, words a i p old kept)

    -- Gathered places.

    -- where a gathered place lies: in an object outside, and its word leads to an object
    gathered-at : (p : ℕ) → is_in p x.places ≡ true
        → (a : ℕ) × (i : ℕ) × IsSlot x.table a i p × (is_in (region_of s a) x.chosen ≡ false)
    gathered-at p among =
        let g = (k.gathered p).0 (in-contains x.places p among) in
        let y = slot-some l.table g.1.holder g.1.number p (IsTable-vacated x.table table) g.1.slot in
        let slot = slot-moves l.table x.table g.1.holder g.1.number p (IsTable-vacated x.table table) table (sym (same-things g.1.holder)) g.1.slot in
        (g.1.holder, g.1.number, slot.0, g.1.outside)

    pub places-slots : AreSlots (settled_of x) x.places
    places-slots p among = let g = gathered-at p among in (g.0, g.1, (slot-outside g.0 g.1 p g.2 g.3).0)

    reference-found : (word : ℕ) → Finds (things_of x.table) word → IsReference word
    reference-found word finds =
        k.references (word ∷ []) (λ i d less. first i d less) 0 0 (omega arith)
      where
        first : (i d : ℕ) → i < 1 → Finds (things_of x.table) (get_or (word ∷ []) i d)
        first zero d less = finds
        first (suc i) d less = absurd (omega (arith, less))

    pub places-references : (p : ℕ) → is_in p x.places ≡ true → IsReference (word_at (settled_of x) p)
    places-references p among =
        let g = gathered-at p among in
        subst IsReference (sym (slot-outside g.0 g.1 p g.2 g.3).1) (reference-found (word_at x.table p) (k.is.begins.finds.each g.0 g.1 p g.2))

    -- Regions of survivors.
    module _ (regions : List ℕ) (are : AreSurvivorRegions x regions) where
      pub region-within : (q : ℕ) → is_in q regions ≡ true → q < s.regions
      region-within q among = elim ((are.just q).0 among) [
        | inl filled ↦
            let d = filled-at x.course.buffers.regions q filled in
            let out : is_in q (numbers_of (backs_of x.course)) ≡ true
            = subst (λ n. is_in n (numbers_of (backs_of x.course)) ≡ true) d.3 (number-there (backs_of x.course) d.0 (as_filled d.1) (filled-place x.course.buffers.regions x.course.spares d.0 d.1 d.2)) in
            (free-numbered x.table table q (subst (λ ns. is_in q ns ≡ true) k.fill.out out)).0
        | inr marked ↦
            let y = marked-there marked.0 marked.1 in
            subst (λ n. n < s.regions) marked.2 (region-of-object x.table marked.0 y.0 table y.1)
      ]

      -- an object outside of the chosen regions lies in none of them
      outside-none : (a : ℕ) (y : Thing) → things_of x.table a ≡ Some y → is_in (region_of s a) x.chosen ≡ false → is_in (region_of s a) regions ≡ false
      outside-none a y is out = decide-false (is_in (region_of s a) regions) (λ among. elim ((are.just (region_of s a)).0 among) [
        | inl filled ↦ false≢true (sym (object-not-filled (region_of s a) (role-of-object x.table a y table is)) ∙ filled)
        | inr marked ↦ false≢true (sym out ∙ subst (λ n. is_in n x.chosen ≡ true) marked.2 (marked-there marked.0 marked.1).2)
      ])

      -- a slot outside of the regions of survivors is one of an object outside of the chosen regions, and has its word
      pub slot-apart : (a i p : ℕ) → IsSlot (settled_of x) a i p → (y : Thing) → things_of (settled_of x) a ≡ Some y → is_in (region_of s a) regions ≡ false
          → IsSlot x.table a i p × (is_in (region_of s a) x.chosen ≡ false) × (word_at (settled_of x) p ≡ word_at x.table p)
      slot-apart a i p slot y is apart =
          let both = settled-there a y is in
          let out : is_in (region_of s a) x.chosen ≡ false = decide-false (is_in (region_of s a) x.chosen)
          (λ among. false≢true (sym apart ∙ (are.just (region_of s a)).1 (inr (a, both.1 among, refl)))) in
          let unfilled : is_in (region_of s a) (filled_numbers x.course) ≡ false = decide-false (is_in (region_of s a) (filled_numbers x.course))
          (λ among. false≢true (sym apart ∙ (are.just (region_of s a)).1 (inl among))) in
          let same : things_of x.table a ≡ things_of u a = sym (same-things a) ∙ sym (k.put.others a unfilled) in
          let within : region_of u.shape a < u.shape.regions = region-of-object u a y k.refilled_is both.0 in
          let old = slot-before a i p slot y is within in
          let here = slot-moves u x.table a i p k.refilled_is table same old.0 in
          (here.0, out, old.1 ∙ sym here.1)

      -- what is mended in a region of survivors led to an object before
      pub survivors-references : (m : Forwarding) → IsTable (settled_of x) → (a : ℕ) → is_in (region_of s a) regions ≡ true → All IsReference (words_in (things_of (places_mended x m) a))
      survivors-references m is-table a lies = λ i d less. by i d (things_of w a) refl less
        where
          w : Table
          w = places_mended x m

          after : IsTable (places_mended x m) × HasSameStarts (settled_of x) (places_mended x m)
              × ((q : ℕ) → is_in q x.places ≡ false → word_at (places_mended x m) q ≡ word_at (settled_of x) q)
          after = all-mended (moved_to m) (settled_of x) x.places is-table places-slots

          shape-after : (places_mended x m).shape ≡ s
          shape-after = mended-shape (moved_to m) x.places (settled_of x) ∙ u-shape

          place-apart : (i p : ℕ) → IsSlot (places_mended x m) a i p → is_in p x.places ≡ false
          place-apart i p slot = decide-false (is_in p x.places) (λ among.
              let g = gathered-at p among in
              let y = slot-some x.table g.0 g.1 p table g.2 in
              let here : region_of s p ≡ region_of s a = subst (λ (h : Shape). region_of h p ≡ region_of h a) shape-after (slot-region (places_mended x m) a i p after.0 slot) in
              false≢true (sym (outside-none g.0 y.0 y.1 g.3) ∙ (ap (λ q. is_in q regions) (sym (slot-region x.table g.0 g.1 p table g.2) ∙ here) ∙ lies)))

          word-found : (i p : ℕ) → IsSlot (places_mended x m) a i p → Finds (things_of x.table) (word_at (places_mended x m) p)
          word-found i p slot =
              let old = (after.1.slots a i p).0 slot in
              let y = slot-thing-of (settled_of x) a i p old in
              let both = settled-there a y.0 y.1 in
              let before = slot-before a i p old y.0 y.1 (region-of-object u a y.0 k.refilled_is both.0) in
              let h = has u a i p k.refilled_is before.0 in
              let from = was-there a h.thing h.is in
              let own = thing-slot x.table from.0 i h.thing table from.1 (slice_get_within h.thing.refs i (word_at u p) h.reads) in
              let z = has x.table from.0 i (slot_place x.table from.0 i) table own in
              let same_thing : z.thing ≡ h.thing = same_Some z.thing h.thing (sym z.is ∙ from.1) in
              let same_word : word_at x.table (slot_place x.table from.0 i) ≡ word_at u p
              = same_Some (word_at x.table (slot_place x.table from.0 i)) (word_at u p) (sym z.reads ∙ (ap (λ (v : Thing). slice_get v.refs i) same_thing ∙ h.reads)) in
              subst (Finds (things_of x.table)) (same_word ∙ (sym before.1 ∙ sym (after.2 p (place-apart i p slot)))) (k.is.begins.finds.each from.0 i (slot_place x.table from.0 i) own)

          by : (i d : ℕ) → (o : Option Thing) → things_of (places_mended x m) a ≡ o → i < length (words_in (things_of (places_mended x m) a))
              → IsReference (get_or (words_in (things_of (places_mended x m) a)) i d)
          by i d None none less = absurd (omega (arith, less, ap (λ o. length (words_in o)) none))
          by i d (Some y) some less =
              let inside : i < length y.refs = subst (λ o. i < length (words_in o)) some less in
              let slot = thing-slot (places_mended x m) a i y after.0 some inside in
              let h = has (places_mended x m) a i (slot_place (places_mended x m) a i) after.0 slot in
              let same_thing : h.thing ≡ y = same_Some h.thing y (sym h.is ∙ some) in
              subst (λ o. IsReference (get_or (words_in o) i d)) (sym some)
              (subst IsReference (sym (get_or_from_slice_get y.refs i (word_at (places_mended x m) (slot_place (places_mended x m) a i)) d
              (ap (λ (v : Thing). slice_get v.refs i) (sym same_thing) ∙ h.reads)))
              (reference-found (word_at (places_mended x m) (slot_place (places_mended x m) a i)) (word-found i (slot_place (places_mended x m) a i) slot)))

      module _ (m : Forwarding) (moves : AreMoves x m) where
        -- a word stays if its target has no copy
        word-stays : (word : ℕ) → ((b : ℕ) → word ≡ word_of b → moved m b ≡ None) → word_to (moved_to m) word ≡ word
        word-stays zero none = refl
        word-stays (suc b) none = ap (λ (o : Option ℕ). word_of (unwrap_or o b)) (none b refl)

        -- outside of the regions of survivors just the gathered places lead to what was copied
        outside-stays : (a i p : ℕ) → IsSlot (settled_of x) a i p → is_in (region_of s a) regions ≡ false → is_in p x.places ≡ false
            → word_to (moved_to m) (word_at (settled_of x) p) ≡ word_at (settled_of x) p
        outside-stays a i p slot apart out = word-stays (word_at (settled_of x) p) (λ b leads. moves.each b ∙ by b leads (number_of l b) refl)
          where
            y : (y : Thing) × (things_of (settled_of x) a ≡ Some y)
            y = slot-thing-of (settled_of x) a i p slot

            old : IsSlot x.table a i p × (is_in (region_of s a) x.chosen ≡ false) × (word_at (settled_of x) p ≡ word_at x.table p)
            old = slot-apart a i p slot y.0 y.1 apart

            lent : IsSlot l.table a i p × (word_at l.table p ≡ word_at x.table p)
            lent = slot-moves x.table l.table a i p table (IsTable-vacated x.table table) (same-things a) old.0

            by : (b : ℕ) → word_at (settled_of x) p ≡ word_of b → (o : Option ℕ) → number_of l b ≡ o → copy_of l (decisions_of x) b ≡ None
            by b leads None none = ap (λ o. option_and_then address_of_copy (option_and_then (decisions_of x) o)) none
            by b leads (Some n) has-number =
                let start = chosen-some (is_start l b) (length (starts_below l b)) n has-number in
                let from : LeadsFromOutside l p b = record { holder = a; number = i; slot = lent.0; leads = lent.1 ∙ (sym old.2 ∙ leads); outside = old.1 } in
                absurd (false≢true (sym out ∙ contains-in x.places p ((k.gathered p).1 (b, from, start))))

        pub places-outside : IsAscending x.places → ArePlacesOutside (settled_of x) regions x.places (moved_to m)
        places-outside ascending = record {
          slots = places-slots;
          ascending = ascending;
          outside = λ p among.
              let g = gathered-at p among in
              let y = slot-some x.table g.0 g.1 p table g.2 in
              subst (λ (h : Shape). is_in (region_of h p) regions ≡ false) (sym u-shape)
              (ap (λ q. is_in q regions) (slot-region x.table g.0 g.1 p table g.2) ∙ outside-none g.0 y.0 y.1 g.3);
          others = λ a i p slot apart out. outside-stays a i p slot (subst (λ (h : Shape). is_in (region_of h a) regions ≡ false) u-shape apart) out;
        }
