-- The table once all objects have moved, and the last region takes new ones.
use Rattle.std.proofs.Common.{◌≡◌, ℕ, ◌*◌, ◌<◌, ◌⊎◌, inl, inr, true, cond, List, [], ◌∷◌, length, map, Option, Some, None, refl, ap, sym, subst, ◌∙◌, arith, get_or-set_other, get_or-set_same, length-set}
use Rattle.std.specs.Prelude.{is_some}
use Rattle.std.specs.List.{sum_by}
use Rattle.std.proofs.lemmas.Bool.{eq-eqb, false≢true, ne_eqb}
use Rattle.std.proofs.lemmas.List.{get_or_default, same_lists}
use Rattle.std.proofs.lemmas.List.FromFn.{get_or-map-range_with_len, length-map-range_with_len}
use Rattle.std.proofs.lemmas.Option.{none-some, same_Some}
use Rattle.bal_base.proofs.Lemmas.{among-first, among-later}
use Rattle.bal_compact.specs.Compacted.{IsPacked, age_at, greatest, last_target, packed_region, region_of_objects}
use Rattle.bal_compact.specs.Packing.{IsMovedTo}
use Rattle.bal_compact.proofs.Below.{below-moved, moved-there}
use Rattle.bal_layout.specs.Addresses.{region_of}
use Rattle.bal_layout.specs.Regions.{all_regions, free_region, is_in, is_object, region_at}
use Rattle.bal_layout.specs.Shape.{Shape}
use Rattle.bal_layout.specs.declared.region_state.RegionState.{RegionState}
use Rattle.bal_layout.specs.declared.region_state.Role.TheVariants.{Object}
use Rattle.bal_model.specs.declared.event.Packed.{Packed}
use Rattle.bal_plan.specs.Plan.{IsObject, objects_into, packed_as, starts_of, words_at}
use Rattle.bal_plan.proofs.Lemmas.{into-are, listed-object, sized}
use Rattle.bal_remember.specs.Remembered.{cards}
use Rattle.bal_rules.specs.GlobalEvents.{last_packed}
use Rattle.bal_table.specs.Changes.{MayBeCurrent, with_current, with_role}
use Rattle.bal_table.specs.Table.{Table, role_at, things_of}
use Rattle.bal_words.specs.Moved.{Carried}
use Rattle.bal_words.proofs.Lemmas.{same-or}

-- One region.

-- with objects it is a region of objects
region-objects : (t : Table) (q a : ℕ) (xs : List ℕ) → is_in a xs ≡ true → is_object (region_of_objects t None q xs).role ≡ true
region-objects t q a [] among = absurd (false≢true among)
region-objects t q a (x ∷ xs) among = refl

-- as the current one it is eden
region-current : (t : Table) (q a : ℕ) (xs : List ℕ) → is_in a xs ≡ true → record (region_of_objects t None q xs) { role = Object 0 } ≡ region_of_objects t (Some q) q xs
region-current t q a [] among = absurd (false≢true among)
region-current t q a (x ∷ xs) among =
    let words = sum_by (words_at t) (x ∷ xs) in
    ap (λ b. record { role = Object (cond b 0 (greatest (map (age_at t) (x ∷ xs)))); used = words; estimate = words; remembered = cards [] }) (sym (eq-eqb q q refl))

-- beside the current one it is what it was
region-beside : (t : Table) (q p : ℕ) (xs : List ℕ) → (q ≡ p → ⊥) → region_of_objects t None p xs ≡ region_of_objects t (Some q) p xs
region-beside t q p [] other = refl
region-beside t q p (x ∷ xs) other =
    let words = sum_by (words_at t) (x ∷ xs) in
    ap (λ b. record { role = Object (cond b 0 (greatest (map (age_at t) (x ∷ xs)))); used = words; estimate = words; remembered = cards [] }) (sym (ne_eqb q p other))

-- the region that was packed last is one to which an object goes
last-some : (f : ℕ → Packed) (q : ℕ) (xs : List ℕ) → last_packed (map f xs) ≡ Some q → (a : ℕ) × (is_in a xs ≡ true) × ((f a).region ≡ q)
last-some f q [] is = absurd (none-some q is)
last-some f q (x ∷ []) is = (x, among-first x [], same_Some (f x).region q is)
last-some f q (x ∷ y ∷ ys) is = let last = last-some f q (y ∷ ys) is in (last.0, among-later x last.0 (y ∷ ys) last.1, last.2)

-- All regions.

module _ (before now : Table) (to : ℕ → ℕ) (m : IsMovedTo before now to now.shape.regions (now.shape.regions * now.shape.words)) where
  abbrev end : ℕ
  end = now.shape.regions * now.shape.words

  -- all objects have moved
  all-below : (a : ℕ) → IsObject before a → a < end
  all-below a object = subst (λ (s : Shape). a < s.regions * s.words) (sym m.shape) (sized before a m.may.table object).address

  all-carried : Carried (things_of before) (things_of now) (λ a. true) to
  all-carried = record {
    carried = λ a x is keeps. moved-there before now to now.shape.regions end m a (ap is_some is) (all-below a (ap is_some is)) ∙ is;
    only = λ b x is.
        let found = m.carried.only b x is in
        (found.0, found.1, found.2, sym (below-moved to end found.0 (all-below found.0 (ap is_some found.1))) ∙ found.3);
  }

  -- each region is what its objects make it
  each : (p : ℕ) → p < now.shape.regions → region_at now.regions p ≡ region_of_objects before None p (objects_into before to (before.shape.regions * before.shape.words) p)
  each p less = m.below p less ∙ ap (λ (s : Shape). region_of_objects before None p (objects_into before to (s.regions * s.words) p)) m.shape

  all-regions : (rs : List RegionState) → length rs ≡ length now.regions → ((p : ℕ) → p < now.shape.regions → region_at rs p ≡ packed_region before to p)
      → rs ≡ map (packed_region before to) (all_regions before.regions)
  all-regions rs count same =
      let n = length before.regions in
      let f = packed_region before to in
      same_lists rs (map f (all_regions before.regions)) (count ∙ (m.count ∙ sym (length-map-range_with_len f 0 n)))
      (λ p d less. sym (get_or_default rs p free_region d less)
      ∙ (same p (omega (arith, less, count, m.table.regions)) ∙ sym (get_or-map-range_with_len f 0 n p p d (omega (arith, less, count, m.count)) (omega arith))))

  -- no object is there: so no region is current
  pub opened-none : last_target before to ≡ None → IsPacked before now to
  opened-none none = record {
    shape = m.shape;
    carried = all-carried;
    regions = all-regions now.regions refl (λ p less. each p less ∙ ap (λ (o : Option ℕ). region_of_objects before o p (objects_into before to (before.shape.regions * before.shape.words) p)) (sym none));
    current = m.current ∙ sym none;
  }

  module _ (q : ℕ) (last : last_target before to ≡ Some q) where
    -- the last object goes there
    record IsLast : Type 0 where
      address : ℕ
      object : IsObject before address
      below : address < end
      goes : region_of before.shape (to address) ≡ q

    the-last : IsLast
    the-last =
        let found = last-some (packed_as before to) q (starts_of before) last in
        let object = (listed-object before (before.shape.regions * before.shape.words) found.0 found.1).0 in
        record { address = found.0; object = object; below = all-below found.0 object; goes = found.2 }

    pub last-within : q < now.shape.regions
    last-within =
        let l = the-last in
        let there : IsObject now (to l.address) = ap is_some (moved-there before now to now.shape.regions end m l.address l.object l.below) ∙ l.object in
        subst (λ r. r < now.shape.regions) (ap (λ (s : Shape). region_of s (to l.address)) m.shape ∙ l.goes) (sized now (to l.address) m.table there).region

    among : is_in the-last.address (objects_into before to end q) ≡ true
    among = let l = the-last in (into-are before to end q l.address).1 (l.object, l.below, l.goes)

    pub last-objects : is_object (role_at now q) ≡ true
    last-objects =
        ap (λ (r : RegionState). is_object r.role) (m.below q last-within) ∙ region-objects before q the-last.address (objects_into before to end q) among

    here : (middle : Table) → middle ≡ with_role now q (Object 0) → region_at middle.regions q ≡ record (region_at now.regions q) { role = Object 0 }
    here middle is = ap (λ (t : Table). region_at t.regions q) is
        ∙ get_or-set_same now.regions q (record (region_at now.regions q) { role = Object 0 }) free_region (omega (arith, last-within, m.table.regions))

    pub last-current : (middle : Table) → middle ≡ with_role now q (Object 0) → MayBeCurrent middle q
    last-current middle is = (subst (λ (t : Table). q < t.shape.regions) (sym is) last-within, ap (λ (r : RegionState). r.role) (here middle is))

    pub opened-last : (middle : Table) → middle ≡ with_role now q (Object 0) → IsPacked before (with_current middle (Some q)) to
    opened-last middle is = record {
      shape = ap (λ (t : Table). t.shape) is ∙ m.shape;
      carried = subst (λ (t : Table). Carried (things_of before) (things_of t) (λ a. true) to) (sym is) all-carried;
      regions = all-regions middle.regions
          (ap (λ (t : Table). length t.regions) is ∙ length-set now.regions q (record (region_at now.regions q) { role = Object 0 })) (λ p less. by p less (same-or p q));
      current = sym last;
    }
      where
        with-last : (p : ℕ) → region_of_objects before (Some q) p (objects_into before to (before.shape.regions * before.shape.words) p) ≡ packed_region before to p
        with-last p = ap (λ (o : Option ℕ). region_of_objects before o p (objects_into before to (before.shape.regions * before.shape.words) p)) (sym last)

        by : (p : ℕ) → p < now.shape.regions → (p ≡ q) ⊎ (p ≡ q → ⊥) → region_at middle.regions p ≡ packed_region before to p
        by p less (inl same) = subst (λ r. region_at middle.regions r ≡ packed_region before to r) (sym same)
            (here middle is
            ∙ (ap (λ (r : RegionState). record r { role = Object 0 }) (m.below q last-within)
            ∙ (region-current before q the-last.address (objects_into before to end q) among
            ∙ (ap (λ (s : Shape). region_of_objects before (Some q) q (objects_into before to (s.regions * s.words) q)) m.shape ∙ with-last q))))
        by p less (inr other) =
            ap (λ (t : Table). region_at t.regions p) is
            ∙ (get_or-set_other now.regions q p (record (region_at now.regions q) { role = Object 0 }) free_region other
            ∙ (each p less
            ∙ (region-beside before q p (objects_into before to (before.shape.regions * before.shape.words) p) (λ e. other (sym e)) ∙ with-last p)))
