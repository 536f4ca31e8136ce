-- A table after all its regions were swept and the vacant ones freed.
use Rattle.std.proofs.Common.{◌≡◌, ℕ, ◌<◌, ◌≤◌, inl, inr, Bool, true, false, cond, not, List, [], ◌∷◌, length, map, Option, Some, None, refl, ap, sym, ◌∙◌, arith}
use Rattle.std.specs.Prelude.{◌&&◌, nat_eq, option_and_then}
use Rattle.std.specs.List.{filter, range_with_len}
use Rattle.std.proofs.lemmas.Bool.{and_parts, cases_lt, eqb-true, false≢true}
use Rattle.std.proofs.lemmas.List.{get_or_past}
use Rattle.std.proofs.lemmas.List.Elements.{filter_agree}
use Rattle.std.proofs.lemmas.List.FromFn.{fill_by_all}
use Rattle.bal_base.proofs.Lemmas.{member-passes, member-there}
use Rattle.bal_cards.specs.Cards.{Cards}
use Rattle.bal_layout.specs.Addresses.{address_in, offset_of, region_of}
use Rattle.bal_layout.specs.Regions.{all_regions, free_region, freed, is_in, is_object, region_at}
use Rattle.bal_layout.specs.Shape.{Shape}
use Rattle.bal_layout.specs.declared.region_state.RegionState.{RegionState}
use Rattle.bal_region.specs.Changes.{empty_land}
use Rattle.bal_region.specs.Land.{Land, object_at, object_in, starts_at}
use Rattle.bal_region.proofs.Lemmas.{object-starts}
use Rattle.bal_rules.specs.MarkEvents.{is_current}
use Rattle.bal_table.specs.Table.{IsTable, Table, land_at, role_at, thing_in, things_of}
use Rattle.bal_table.proofs.Lemmas.{address-is, seen}
use Rattle.bal_words.specs.Things.{Thing}
use Rattle.bal_sweep.specs.Freeing.{IsFreedTo, IsSweptTo, vacant_to}
use Rattle.bal_sweep.specs.Sweep.{IsSwept, deserted, is_bare, is_deserted, is_vacant, land_after, left_at, state_after, without_regions}
use Rattle.bal_sweep.specs.Sweeping.{is_marked}
use Rattle.bal_sweep.proofs.Starts.{in-filter}

-- a number of a range that passes a test, or does not
pub in-passed : (p : ℕ → Bool) (n k : ℕ) → k < n → is_in k (filter p (range_with_len 0 n)) ≡ p k
in-passed p n k within = by (p k) refl (is_in k (filter p (range_with_len 0 n))) refl
  where
    by : (b : Bool) → p k ≡ b → (c : Bool) → is_in k (filter p (range_with_len 0 n)) ≡ c → c ≡ b
    by true passes true among = refl
    by true passes false apart = absurd (false≢true (sym apart ∙ member-there p 0 n k (omega arith) (omega (arith, within)) passes))
    by false fails true among = absurd (false≢true (sym fails ∙ (member-passes p 0 n k among).0))
    by false fails false apart = refl

-- where none starts, none is seen
bare-none : (l : Land) (at : ℕ) → is_bare l ≡ true → starts_at l at ≡ false
bare-none l at bare = by l.starts bare
  where
    by : (ss : List ℕ) → nat_eq (length ss) 0 ≡ true → is_in at ss ≡ false
    by [] none = refl
    by (s ∷ ss) none = absurd (omega (arith, eqb-true (length (s ∷ ss)) 0 none))

bare-object : (l : Land) (at : ℕ) → is_bare l ≡ true → object_at l at ≡ None
bare-object l at bare = ap (λ b. cond b (Some (object_in l.words at)) None) (bare-none l at bare)

module _ (marked : List ℕ) (t : Table) (table : IsTable t) where
  -- of the objects of a region the marked ones are left
  pub left-object : (q at : ℕ) → object_at (left_at marked t q) at ≡ cond (is_in (address_in t.shape q at) marked) (object_at (land_at t q) at) None
  left-object q at =
      ap (λ b. cond b (Some (object_in (land_at t q).words at)) None) (in-filter (is_marked marked t q) (land_at t q).starts at)
      ∙ by (is_marked marked t q at) (starts_at (land_at t q) at)
    where
      by : (b c : Bool) → cond (b && c) (Some (object_in (land_at t q).words at)) None ≡ cond b (cond c (Some (object_in (land_at t q).words at)) None) None
      by true c = refl
      by false c = refl

  -- so the region of a marked object is not deserted
  pub kept-region : (a : ℕ) (x : Thing) → things_of t a ≡ Some x → is_in a marked ≡ true → is_deserted marked t (region_of t.shape a) ≡ false
  kept-region a x is here = by (is_deserted marked t q) refl
    where
      q : ℕ
      q = region_of t.shape a

      at : ℕ
      at = offset_of t.shape a

      starts : starts_at (land_at t q) at ≡ true
      starts = let s = seen t a x table is in (object-starts (land_at t q) at s.object s.is).0

      left : starts_at (left_at marked t q) at ≡ true
      left = in-filter (is_marked marked t q) (land_at t q).starts at
          ∙ (ap (λ b. is_marked marked t q at && b) starts ∙ ap (λ b. b && true) (ap (λ b. is_in b marked) (address-is t.shape a) ∙ here))

      by : (b : Bool) → is_deserted marked t q ≡ b → b ≡ false
      by true gone =
          let outer = and_parts (is_object (role_at t q) && is_bare (left_at marked t q)) (not (is_current t.current q)) gone in
          let inner = and_parts (is_object (role_at t q)) (is_bare (left_at marked t q)) outer.0 in
          absurd (false≢true (sym (bare-none (left_at marked t q) at inner.1) ∙ left))
      by false kept = refl

  module _ (m u : Table) (c d : Cards) (s : IsSweptTo marked t m t.shape.regions) (f : IsFreedTo m u c d t.shape.regions) where
    abbrev n : ℕ
    n = t.shape.regions

    -- a region is vacant after the sweep if it is deserted
    vacant-deserted : (q : ℕ) → is_vacant m q ≡ is_deserted marked t q
    vacant-deserted q = elim (cases_lt q n) [ inl within ↦ inside within | inr past ↦ outside past ]
      where
        inside : q < n → is_vacant m q ≡ is_deserted marked t q
        inside within =
            ap (λ (r : RegionState). is_object r.role && is_bare (land_at m q) && not (is_current m.current q)) (s.below q within).1
            ∙ (ap (λ (l : Land). is_object (role_at t q) && is_bare l && not (is_current m.current q)) (s.below q within).0
            ∙ ap (λ (o : Option ℕ). is_object (role_at t q) && is_bare (left_at marked t q) && not (is_current o q)) s.current)

        outside : n ≤ q → is_vacant m q ≡ is_deserted marked t q
        outside past =
            let free : region_at t.regions q ≡ free_region = get_or_past t.regions q free_region (omega (arith, past, table.regions)) in
            ap (λ (r : RegionState). is_object r.role && is_bare (land_at m q) && not (is_current m.current q)) ((s.behind q past).1 ∙ free)
            ∙ sym (ap (λ (r : RegionState). is_object r.role && is_bare (left_at marked t q) && not (is_current t.current q)) free)

    vacant-all : vacant_to m n ≡ deserted marked t
    vacant-all = filter_agree (is_vacant m) (is_deserted marked t) vacant-deserted (range_with_len 0 n) ∙ ap (λ k. filter (is_deserted marked t) (range_with_len 0 k)) (sym table.regions)

    is-deserted : (q : ℕ) → q < n → is_in q (vacant_to m n) ≡ is_deserted marked t q
    is-deserted q within = in-passed (is_vacant m) n q within ∙ vacant-deserted q

    pub each-land : (q : ℕ) → q < n → land_at u q ≡ land_after marked t q
    each-land q within =
        f.lands q
        ∙ (ap (λ b. cond b (empty_land q m.shape.words) (land_at m q)) (is-deserted q within)
        ∙ (ap (λ (h : Shape). cond (is_deserted marked t q) (empty_land q h.words) (land_at m q)) s.shape
        ∙ ap (λ (l : Land). cond (is_deserted marked t q) (empty_land q t.shape.words) l) (s.below q within).0))

    lands : u.lands ≡ map (land_after marked t) (all_regions t.regions)
    lands = fill_by_all (land_after marked t) u.lands (length t.regions) (empty_land 0 0) (f.count ∙ (s.lands ∙ (table.lands ∙ sym table.regions)))
        (λ k less. each-land k (omega (arith, less, table.regions)))

    states : m.regions ≡ map (state_after marked t) (all_regions t.regions)
    states = fill_by_all (state_after marked t) m.regions (length t.regions) free_region s.regions (λ k less. (s.below k (omega (arith, less, table.regions))).1)

    regions : u.regions ≡ freed t.shape (deserted marked t) (map (state_after marked t) (all_regions t.regions))
    regions = f.regions ∙ (ap (λ (h : Shape). freed h (vacant_to m n) m.regions) s.shape
        ∙ (ap (λ (qs : List ℕ). freed t.shape qs m.regions) vacant-all ∙ ap (freed t.shape (deserted marked t)) states))

    shape : u.shape ≡ t.shape
    shape = f.shape ∙ s.shape

    -- in a deserted region no marked object started
    after-object : (q at : ℕ) → object_at (land_after marked t q) at ≡ object_at (left_at marked t q) at
    after-object q at = by (is_deserted marked t q) refl
      where
        by : (b : Bool) → is_deserted marked t q ≡ b → object_at (cond b (empty_land q t.shape.words) (left_at marked t q)) at ≡ object_at (left_at marked t q) at
        by true gone =
            let outer = and_parts (is_object (role_at t q) && is_bare (left_at marked t q)) (not (is_current t.current q)) gone in
            let inner = and_parts (is_object (role_at t q)) (is_bare (left_at marked t q)) outer.0 in
            sym (bare-object (left_at marked t q) at inner.1)
        by false kept = refl

    objects : (a : ℕ) → things_of u a ≡ cond (is_in a marked) (things_of t a) None
    objects a =
        ap (λ (h : Shape). option_and_then thing_in (object_at (land_at u (region_of h a)) (offset_of h a))) shape
        ∙ (ap (option_and_then thing_in) same ∙ out (is_in a marked))
      where
        q : ℕ
        q = region_of t.shape a

        at : ℕ
        at = offset_of t.shape a

        nothing : (b : Bool) → ◌≡◌ {A = Option (List ℕ)} None (cond b None None)
        nothing true = refl
        nothing false = refl

        past-land : n ≤ q → object_at (land_at u q) at ≡ cond (is_in a marked) (object_at (land_at t q) at) None
        past-land past =
            ap (λ (l : Land). object_at l at) (get_or_past u.lands q (empty_land 0 0) (omega (arith, past, f.count, s.lands, table.lands)))
            ∙ (nothing (is_in a marked)
            ∙ ap (λ (l : Land). cond (is_in a marked) (object_at l at) None) (sym (get_or_past t.lands q (empty_land 0 0) (omega (arith, past, table.lands)))))

        same : object_at (land_at u q) at ≡ cond (is_in a marked) (object_at (land_at t q) at) None
        same = elim (cases_lt q n) [
          | inl within ↦
              ap (λ (l : Land). object_at l at) (each-land q within)
              ∙ (after-object q at
              ∙ (left-object q at ∙ ap (λ b. cond (is_in b marked) (object_at (land_at t q) at) None) (address-is t.shape a)))
          | inr past ↦ past-land past
        ]

        out : (b : Bool) → option_and_then thing_in (cond b (object_at (land_at t q) at) None) ≡ cond b (things_of t a) None
        out true = refl
        out false = refl

    pub swept : IsSwept marked t u
    swept = record { shape = shape; current = f.current ∙ s.current; lands = lands; regions = regions; objects = objects }

    pub swept-cards : d ≡ without_regions (deserted marked t) c
    swept-cards = f.cards ∙ ap (λ (qs : List ℕ). without_regions qs c) vacant-all
