-- One object is moved while those below it have moved.
use Rattle.std.proofs.Common.{◌≡◌, ℕ, ◌+◌, ◌*◌, ◌<◌, ◌≤◌, inl, inr, true, false, max, List, [], ◌∷◌, ◌++◌, length, Some, None, ap, sym, subst, ◌∙◌, arith, get_or-set_other, get_or-set_same, length-set}
use Rattle.std.specs.Prelude.{is_some}
use Rattle.std.proofs.lemmas.Bool.{cases_lt, cases_order, false≢true, true≢false}
use Rattle.std.proofs.lemmas.Option.{none-some}
use Rattle.std.proofs.Math.Nat.{mul-le-mul_right}
use Rattle.bal_compact.specs.Compacted.{age_at, region_of_objects}
use Rattle.bal_compact.specs.Packing.{IsMovedTo, to_below, with_joined}
use Rattle.bal_compact.proofs.Below.{below-left, below-moved, object-before, object-there, redirected, same-region, size-now, unmoved}
use Rattle.bal_compact.proofs.Joined.{age-least, region-joined, region-taken, region-used}
use Rattle.bal_layout.specs.Addresses.{address_in, offset_of, region_of}
use Rattle.bal_layout.specs.Regions.{age_of, free_region, is_free, is_object, region_at, region_with_object}
use Rattle.bal_layout.specs.Shape.{Shape}
use Rattle.bal_layout.specs.declared.region_state.RegionState.{RegionState}
use Rattle.bal_layout.specs.declared.region_state.Role.TheVariants.{Object}
use Rattle.bal_plan.specs.Plan.{IsObject, objects_into, words_at, words_into}
use Rattle.bal_plan.proofs.Lemmas.{IsSized, into-are, into-next, into-other, sized, words-next, words-other}
use Rattle.bal_region.specs.Land.{object_at, starts_at}
use Rattle.bal_table.specs.Changes.{MayCarry, MayMoveDown, object_words, with_carried, with_slid_object}
use Rattle.bal_table.specs.Table.{IsTable, Table, land_at, objects_of, role_at, things_of}
use Rattle.bal_table.proofs.Lemmas.{IsTable-carried, IsTable-role, IsTable-slid, address-is, address-region, may-move, objects-at, start-address, start-inside, words-found}
use Rattle.bal_words.specs.Moved.{Carried}
use Rattle.bal_words.proofs.Lemmas.{same-or, there}

module _ (before now : Table) (to : ℕ → ℕ) (q offset : ℕ) (m : IsMovedTo before now to q (address_in now.shape q offset)) (within : q < now.shape.regions)
    (start : starts_at (land_at now q) offset ≡ true) where
  abbrev from : ℕ
  from = address_in now.shape q offset

  -- it lies in the region
  here : region_of now.shape from ≡ q
  here = address-region now.shape q offset (start-inside now q offset m.table within start)

  -- and is one that has not moved
  pub object : IsObject before from
  object = object-before before now to q from m from (omega arith) (start-address now q offset m.table within start)

  -- it is there still
  still : things_of now from ≡ things_of before from
  still = unmoved before now to q from m from (omega arith) object

  what : IsSized now from
  what = sized now from m.table (ap is_some still ∙ object)

  -- as many as are read there
  pub length-read : (words : List ℕ) → object_at (land_at now q) offset ≡ Some words → length words ≡ words_at before from
  length-read words is = size-now before now to q from m from from words object still (objects-at now q offset (start-inside now q offset m.table within start) ∙ is)

  length-words : length (object_words now from) ≡ words_at before from
  length-words = ap (λ (l : List ℕ). length l) (words-found now from what.object what.is) ∙ size-now before now to q from m from from what.object object still what.is

  -- It stays in its region.

  -- which has so many words more then
  pub words-stays : region_of now.shape (to from) ≡ q → words_into before to (from + 1) q ≡ words_into before to from q + words_at before from
  words-stays stays = subst (λ r. words_into before to (from + 1) r ≡ words_into before to from r + words_at before from)
      (sym (same-region before now to q from m (to from)) ∙ stays) (words-next before to from object)

  module _ (stays : region_of now.shape (to from) ≡ q) where
    abbrev slid : Table
    slid = with_slid_object now from (to from)

    -- those that have moved end before its new place, and none is between
    pub may-slide : MayMoveDown now from (to from)
    may-slide = may-move now from (to from) what.object m.table what.is (stays ∙ sym here) (m.may.plan.down from object) clear
      where
        clear : (b : ℕ) (other : List ℕ) → objects_of now b ≡ Some other → region_of now.shape b ≡ region_of now.shape from → b < from → b + length other ≤ to from
        clear b other is same less =
            let y = there (things_of now b) (object-there now b other m.table is) in
            let a = m.carried.only b y.0 y.1 in
            elim (cases_lt a.0 from) [
              | inl moved ↦ omega (
                arith,
                m.may.plan.apart a.0 from (ap is_some a.1) object moved,
                sym (below-moved to from a.0 moved) ∙ a.3,
                size-now before now to q from m a.0 b other (ap is_some a.1) (y.1 ∙ sym a.1) is,
              )
              | inr left ↦ absurd (omega (arith, left, less, sym (below-left to from a.0 left) ∙ a.3))
            ]

    -- no region below has other objects
    others : (p : ℕ) → p < q → region_at now.regions p ≡ region_of_objects before None p (objects_into before to (from + 1) p)
    others p less = m.below p less
        ∙ ap (region_of_objects before None p) (sym (into-other before to from p object (λ e. omega (arith, less, e, stays, same-region before now to q from m (to from)))))

    pub moved-slid : Carried (things_of before) (things_of slid) (λ a. true) (to_below to (from + 1)) → IsMovedTo before slid to q (from + 1)
    moved-slid carried = record {
      may = m.may;
      table = IsTable-slid now from (to from) m.table may-slide;
      shape = m.shape;
      count = m.count;
      current = m.current;
      carried = carried;
      below = others;
      from = m.from;
    }

    -- one that goes where it is needs no move
    pub moved-stays : to from ≡ from → IsMovedTo before now to q (from + 1)
    moved-stays same = record {
      may = m.may;
      table = m.table;
      shape = m.shape;
      count = m.count;
      current = m.current;
      carried = subst (Carried (things_of before) (things_of now) (λ a. true)) (λ i a. each a i) m.carried;
      below = others;
      from = m.from;
    }
      where
        each : (a : ℕ) → to_below to from a ≡ to_below to (from + 1) a
        each a = elim (same-or a from) [
          | inl own ↦ below-left to from a (omega (arith, own)) ∙ (own ∙ (sym same ∙ (sym (redirected to from).here ∙ ap (to_below to (from + 1)) (sym own))))
          | inr other ↦ sym ((redirected to from).elsewhere a other)
        ]

  -- It goes to a lower region.

  -- its own has as many words as before
  pub words-leaves : (region_of now.shape (to from) ≡ q → ⊥) → words_into before to (from + 1) q ≡ words_into before to from q
  words-leaves leaves = words-other before to from q object (λ e. leaves (same-region before now to q from m (to from) ∙ e))

  -- the other is lower, as none goes up
  pub goes-lower : (region_of now.shape (to from) ≡ q → ⊥) → region_of now.shape (to from) < q
  goes-lower other = elim (cases_order (region_of now.shape (to from)) q) [
    | inl same ↦ absurd (other same)
    | inr apart ↦ elim apart [
      | inl less ↦ less
      | inr more ↦ absurd (omega (
        arith,
        m.may.plan.down from object,
        address-is now.shape from,
        address-is now.shape (to from),
        ap (λ r. r * now.shape.words) here,
        mul-le-mul_right {m = q + 1} {n = region_of now.shape (to from)} now.shape.words (omega (arith, more)),
        inside,
      ))
    ]
  ]
    where
      inside : offset_of now.shape from < now.shape.words
      inside = omega (arith, m.table.shape.fewest_words)

  module _ (p age : ℕ) (goes : region_of now.shape (to from) ≡ p) (less : p < q) (old : age ≡ age_of (role_at now q)) where
    abbrev joined : Table
    joined = with_joined now p age

    abbrev carried : Table
    carried = with_carried joined from p

    target : region_of before.shape (to from) ≡ p
    target = sym (same-region before now to q from m (to from)) ∙ goes

    -- those that are there
    abbrev those : List ℕ
    those = objects_into before to from p

    -- the regions below it have objects
    pub taken : (r : ℕ) → r < p → is_free (role_at now r) ≡ false
    taken r lower =
        let b = m.may.plan.begun from r object (omega (arith, lower, target)) in
        ap (λ (s : RegionState). is_free s.role) (m.below r (omega (arith, lower, less)))
        ∙ region-taken before r (objects_into before to from r) b.0 ((into-are before to from r b.0).1 (b.1, b.2, b.3))

    into-there : objects_into before to (from + 1) p ≡ those ++ from ∷ []
    into-there = subst (λ r. objects_into before to (from + 1) r ≡ objects_into before to from r ++ from ∷ []) target (into-next before to from object)

    known : p < now.shape.regions
    known = omega (arith, less, within)

    listed : p < length now.regions
    listed = omega (arith, known, m.table.regions)

    age-known : age ≤ 24
    age-known = omega (arith, old, age-least (role_at now q) (m.table.each q within).role)

    abbrev state : RegionState
    state = record (region_at now.regions p) { role = Object (max (age_of (role_at now p)) age) }

    state-joined : region_at joined.regions p ≡ state
    state-joined = get_or-set_same now.regions p state free_region listed

    pub IsTable-joined : IsTable joined
    IsTable-joined = IsTable-role now p (Object (max (age_of (role_at now p)) age)) m.table known
        (omega (arith, age-known, age-least (role_at now p) (m.table.each p known).role))
        (λ is. absurd (none-some p (sym m.current ∙ is)))
        (λ none. absurd (true≢false none))
        (λ free. absurd (false≢true free))

    -- so many words have been given out there as it goes behind
    used : (land_at now p).used ≡ offset_of before.shape (to from)
    used =
        sym (m.table.each p known).used
        ∙ (ap (λ (s : RegionState). s.used) (m.below p less)
        ∙ (region-used before p those ∙ (ap (words_into before to from) (sym target) ∙ sym (m.may.plan.packed from object))))

    -- so that is its new place
    pub place : address_in joined.shape p (land_at joined p).used ≡ to from
    place =
        ap (λ (s : Shape). address_in s p (land_at now p).used) m.shape
        ∙ (ap (λ r. address_in before.shape r (land_at now p).used) (sym target)
        ∙ (ap (address_in before.shape (region_of before.shape (to from))) used ∙ address-is before.shape (to from)))

    pub may-carry : MayCarry joined from p
    may-carry = record {
      object = ap is_some still ∙ object;
      within = known;
      other = λ e. omega (arith, e, here, less);
      objects = ap (λ (s : RegionState). is_object s.role) state-joined;
      fits = omega (arith, used, length-words, m.may.plan.within from object, ap (λ (s : Shape). s.words) m.shape);
    }

    -- its words
    abbrev words : ℕ
    words = length (object_words now from)

    long : length joined.regions ≡ length now.regions
    long = length-set now.regions p state

    -- one object more in its region
    region-there : region_at carried.regions p ≡ region_of_objects before None p (objects_into before to (from + 1) p)
    region-there =
        get_or-set_same joined.regions p (region_with_object words (region_at joined.regions p)) free_region (omega (arith, listed, long))
        ∙ (ap (region_with_object words) state-joined
        ∙ (ap (λ (s : RegionState). region_with_object words (record s { role = Object (max (age_of s.role) age) })) (m.below p less)
        ∙ (region-joined before p those from words age length-words same-age
        ∙ ap (region_of_objects before None p) (sym into-there))))
      where
        same-age : age ≡ age_at before from
        same-age = old ∙ (ap (λ (s : RegionState). age_of s.role) (m.from q (omega arith)) ∙ ap (λ r. age_of (role_at before r)) (sym here ∙ same-region before now to q from m from))

    region-other : (r : ℕ) → (r ≡ p → ⊥) → region_at carried.regions r ≡ region_at now.regions r
    region-other r other =
        get_or-set_other joined.regions p r (region_with_object words (region_at joined.regions p)) free_region other
        ∙ get_or-set_other now.regions p r state free_region other

    pub moved-carried : Carried (things_of before) (things_of carried) (λ a. true) (to_below to (from + 1)) → IsMovedTo before carried to q (from + 1)
    moved-carried moved = record {
      may = m.may;
      table = IsTable-carried joined from p IsTable-joined may-carry;
      shape = m.shape;
      count = length-set joined.regions p (region_with_object words (region_at joined.regions p)) ∙ (long ∙ m.count);
      current = m.current;
      carried = moved;
      below = below;
      from = λ r above. region-other r (λ e. omega (arith, e, above, less)) ∙ m.from r above;
    }
      where
        below : (r : ℕ) → r < q → region_at carried.regions r ≡ region_of_objects before None r (objects_into before to (from + 1) r)
        below r lower = elim (same-or r p) [
          | inl same ↦ subst (λ n. region_at carried.regions n ≡ region_of_objects before None n (objects_into before to (from + 1) n)) (sym same) region-there
          | inr other ↦ region-other r other
              ∙ (m.below r lower ∙ ap (region_of_objects before None r) (sym (into-other before to from r object (λ e. other (sym e ∙ target)))))
        ]
