-- A table is kept while its free regions are out.
use Rattle.std.proofs.Common.{◌≡◌, ℕ, ◌+◌, ◌<◌, ◌⊎◌, inl, inr, Bool, true, false, cond, eqb, not, List, [], length, map, get_or, set, refl, ap, sym, subst, ◌∙◌, arith, length-set, get_or-set_other, get_or-set_same}
use Rattle.std.specs.List.{filter}
use Rattle.std.proofs.lemmas.Bool.{ne_eqb, false≢true}
use Rattle.std.proofs.lemmas.List.{get_or-map, get_or_default, get_or_read, length-map, map-set, same_lists}
use Rattle.bal_base.specs.Numbering.{numbers_from}
use Rattle.bal_layout.specs.Regions.{free_region, free_regions, is_eden, is_free, is_in, region_at}
use Rattle.bal_layout.specs.Shape.{Shape}
use Rattle.bal_layout.specs.declared.region_state.RegionState.{RegionState}
use Rattle.bal_layout.specs.declared.region_state.Role.{Role}
use Rattle.bal_region.specs.Changes.{empty_land}
use Rattle.bal_region.specs.Land.{IsLand, Land}
use Rattle.bal_words.proofs.Lemmas.{same-or}
use Rattle.bal_table.specs.KeptOccupied.{AreHollow, IsKept, is_hollow, occupied_of, seen_land, seen_table}
use Rattle.bal_table.specs.Occupied.{IsOccupied, MayPutBack, Occupied, is_free_at, vacated, with_filled, with_put_back}
use Rattle.bal_table.specs.Table.{IsTable, Table, land_at}
use Rattle.bal_table.specs.Taken.{AreTaken, kept_at}
use Rattle.bal_table.specs.declared.occupied.Occupied.TheInside.{Inside}
use Rattle.bal_table.proofs.Numbered.{numbered, numbers-alike, numbers-empty, numbers-without}
use Rattle.bal_table.proofs.Filled.{IsTable-filled, state-was}
use Rattle.bal_table.proofs.Vacant.{land-vacated, lands-vacated}

-- a region with words is none without
pub not-hollow : (l : Land) → 0 < length l.words → is_hollow l ≡ false
not-hollow l some = ne_eqb (length l.words) 0 (λ e. omega (arith, some, e))

-- and is seen as itself
pub seen-whole : (s : Shape) (l : Land) → is_hollow l ≡ false → seen_land s l ≡ l
seen-whole s l whole = ap (λ b. cond b (empty_land l.number s.words) l) whole

-- where the regions of a table were taken out
module _ (t : Table) (table : IsTable t) (after : List Land) (taken : AreTaken t.lands t.regions after) where
  -- what stands in a place
  module _ (q : ℕ) (within : q < t.shape.regions) where
    there : kept_at after q ≡ cond (is_free_at t q) (empty_land q 0) (land_at t q)
    there = taken.each q (omega (arith, within, table.lands))

    some : 0 < length (land_at t q).words
    some = omega (arith, (table.each q within).words, table.shape.fewest_words)

    hollow-taken : is_hollow (kept_at after q) ≡ is_free_at t q
    hollow-taken = ap is_hollow there ∙ by (is_free_at t q)
      where
        by : (b : Bool) → is_hollow (cond b (empty_land q 0) (land_at t q)) ≡ b
        by true = refl
        by false = not-hollow (land_at t q) some

    seen-taken : seen_land t.shape (kept_at after q) ≡ cond (is_free_at t q) (empty_land q t.shape.words) (land_at t q)
    seen-taken = ap (seen_land t.shape) there ∙ by (is_free_at t q)
      where
        by : (b : Bool) → seen_land t.shape (cond b (empty_land q 0) (land_at t q)) ≡ cond b (empty_land q t.shape.words) (land_at t q)
        by true = refl
        by false = seen-whole t.shape (land_at t q) (not-hollow (land_at t q) some)

    empty-taken : is_hollow (kept_at after q) ≡ true → (kept_at after q ≡ empty_land q 0) × (is_free_at t q ≡ true)
    empty-taken hollow =
        let free : is_free_at t q ≡ true = sym hollow-taken ∙ hollow in
        (there ∙ ap (λ b. cond b (empty_land q 0) (land_at t q)) free, free)

  long : length after ≡ t.shape.regions
  long = taken.long ∙ table.lands

  -- the table is seen as it was
  pub lands-taken : map (seen_land t.shape) after ≡ (vacated t).lands
  lands-taken =
      same_lists (map (seen_land t.shape) after) (vacated t).lands (length-map after (seen_land t.shape) ∙ (long ∙ sym (lands-vacated t table)))
      (λ q d less.
      let inside : q < length after = omega (arith, less, length-map after (seen_land t.shape)) in
      let within : q < t.shape.regions = omega (arith, inside, long) in
      get_or-map (seen_land t.shape) after q (empty_land 0 0) d inside ∙ (seen-taken q within ∙ sym (land-vacated t table q d within)))

  -- the free regions are out
  pub out-taken : numbers_from 0 is_hollow after ≡ free_regions t.regions
  out-taken =
      numbers-alike 0 is_hollow (λ (r : RegionState). is_free r.role) after t.regions (empty_land 0 0) free_region (omega (arith, long, table.regions))
      (λ q less. hollow-taken q (omega (arith, less, long)))

  pub are-hollow : AreHollow after t.regions
  are-hollow = λ q less hollow. empty-taken q (omega (arith, less, long)) hollow

-- What is seen of a table whose regions are out.
module _ (a : Inside) (kept : IsKept a) where
  abbrev t : Table
  t = seen_table a

  pub regions-long : length a.regions.items ≡ a.geometry.regions
  regions-long = sym (length-map a.regions.items (seen_land a.geometry)) ∙ kept.table.lands

  -- each region that is out is free
  pub out-free : (q : ℕ) → is_in q (numbers_from 0 is_hollow a.regions.items) ≡ true → (q < a.geometry.regions) × (is_free_at t q ≡ true) × (is_hollow (kept_at a.regions.items q) ≡ true)
  out-free q among =
      let n = numbered 0 is_hollow a.regions.items (empty_land 0 0) q among in
      let same : n.place ≡ q = omega (arith, n.number) in
      let within : q < length a.regions.items = omega (arith, n.within, same) in
      let hollow : is_hollow (kept_at a.regions.items q) ≡ true = subst (λ k. is_hollow (kept_at a.regions.items k) ≡ true) same n.passes in
      (omega (arith, within, regions-long), (kept.hollow q within hollow).1, hollow)

  pub IsOccupied-kept : IsOccupied (occupied_of a)
  IsOccupied-kept = record { table = kept.table; out = λ q among. let is = out-free q among in (is.0, is.1) }

  -- if none is out, all are seen as they are
  pub lands-whole : numbers_from 0 is_hollow a.regions.items ≡ [] → map (seen_land a.geometry) a.regions.items ≡ a.regions.items
  lands-whole none =
      same_lists (map (seen_land a.geometry) a.regions.items) a.regions.items (length-map a.regions.items (seen_land a.geometry))
      (λ q d less.
      let inside : q < length a.regions.items = omega (arith, less, length-map a.regions.items (seen_land a.geometry)) in
      get_or-map (seen_land a.geometry) a.regions.items q d d inside
      ∙ seen-whole a.geometry (get_or a.regions.items q d)
      (ap is_hollow (get_or_default a.regions.items q d (empty_land 0 0) inside) ∙ numbers-empty 0 is_hollow a.regions.items (empty_land 0 0) none q inside))

  -- A region is put back.
  module _ (l : Land) (role : Role) (may : MayPutBack (occupied_of a) l role) where
    was : (l.number < a.geometry.regions) × (is_free_at t l.number ≡ true) × (is_hollow (kept_at a.regions.items l.number) ≡ true)
    was = out-free l.number may.out

    -- it has words
    whole : is_hollow l ≡ false
    whole = not-hollow l (omega (arith, may.words, kept.table.shape.fewest_words))

    abbrev filled : RegionState
    filled = record (region_at a.states.items l.number) { role = role; used = l.used; estimate = l.used }

    lands-filled : map (seen_land a.geometry) (set a.regions.items l.number l) ≡ (with_filled t l role).lands
    lands-filled = map-set (seen_land a.geometry) a.regions.items l.number l ∙ ap (set (map (seen_land a.geometry) a.regions.items) l.number) (seen-whole a.geometry l whole)

    out-filled : numbers_from 0 is_hollow (set a.regions.items l.number l) ≡ filter (λ q. not (eqb q l.number)) (numbers_from 0 is_hollow a.regions.items)
    out-filled = numbers-without 0 is_hollow a.regions.items l.number l whole
        ∙ ap (λ n. filter (λ q. not (eqb q n)) (numbers_from 0 is_hollow a.regions.items)) zero-more
      where
        zero-more : 0 + l.number ≡ l.number
        zero-more = omega arith

    hollow-filled : AreHollow (set a.regions.items l.number l) (set a.states.items l.number filled)
    hollow-filled = λ q less hollow. by q less hollow (same-or q l.number)
      where
        by : (q : ℕ) → q < length (set a.regions.items l.number l) → is_hollow (kept_at (set a.regions.items l.number l) q) ≡ true → (q ≡ l.number) ⊎ (q ≡ l.number → ⊥)
            → (kept_at (set a.regions.items l.number l) q ≡ empty_land q 0) × (is_free (region_at (set a.states.items l.number filled) q).role ≡ true)
        by q less hollow (inl here) =
            let inside : l.number < length a.regions.items = omega (arith, was.0, regions-long) in
            let stands : kept_at (set a.regions.items l.number l) q ≡ l =
            ap (kept_at (set a.regions.items l.number l)) here ∙ get_or-set_same a.regions.items l.number l (empty_land 0 0) inside in
            absurd (false≢true (sym whole ∙ (ap is_hollow (sym stands) ∙ hollow)))
        by q less hollow (inr other) =
            let stands = get_or-set_other a.regions.items l.number q l (empty_land 0 0) other in
            let state = get_or-set_other a.states.items l.number q filled free_region other in
            let old = kept.hollow q (omega (arith, less, length-set a.regions.items l.number l)) (ap is_hollow (sym stands) ∙ hollow) in
            (stands ∙ old.0, ap (λ (r : RegionState). is_free r.role) state ∙ old.1)

    pub number-within : (q : ℕ) → q ≡ l.number → (q < length a.states.items) × (q < length a.regions.items)
    number-within q at = (omega (arith, at, was.0, kept.table.regions), omega (arith, at, was.0, regions-long))

    -- Its number, how many words it has given out, and the state that is read in its place.
    module _ (q used : ℕ) (r : RegionState) (at : q ≡ l.number) (given : used ≡ l.used) (read : r ≡ get_or a.states.items q r) where
      state-read : r ≡ region_at a.states.items l.number
      state-read = get_or_read a.states.items q r (number-within q at).0 read free_region ∙ ap (region_at a.states.items) at

      pub was-free : true ≡ is_free r.role
      was-free = sym (ap (λ (s : RegionState). is_free s.role) state-read ∙ was.1)

      pub was-eden : false ≡ is_eden r.role
      was-eden = sym (ap (λ (s : RegionState). is_eden s.role) (state-read ∙ state-was (occupied_of a) IsOccupied-kept l role may))

      state-is : record r { role = role; used = used; estimate = used } ≡ filled
      state-is = ap (λ (s : RegionState). record s { role = role; used = used; estimate = used }) state-read
          ∙ ap (λ n. record (region_at a.states.items l.number) { role = role; used = n; estimate = n }) given

      so : (P : ℕ → RegionState → Type 0) → P l.number filled → P q (record r { role = role; used = used; estimate = used })
      so P holds = subst (λ n. P n (record r { role = role; used = used; estimate = used })) (sym at) (subst (P l.number) (sym state-is) holds)

      pub view-back : record {
        table = record {
          shape = a.geometry;
          lands = map (seen_land a.geometry) (set a.regions.items q l);
          regions = set a.states.items q (record r { role = role; used = used; estimate = used });
          current = a.current;
        };
        out = numbers_from 0 is_hollow (set a.regions.items q l);
      } ≡ with_put_back (occupied_of a) l role
      view-back =
          let o : List Land → List RegionState → List ℕ → Occupied =
          λ ls rs out. record { table = record { shape = a.geometry; lands = ls; regions = rs; current = a.current }; out = out } in
          so (λ n s. o (map (seen_land a.geometry) (set a.regions.items n l)) (set a.states.items n s) (numbers_from 0 is_hollow (set a.regions.items n l))
          ≡ with_put_back (occupied_of a) l role)
          (ap (λ ls. o ls (set a.states.items l.number filled) (numbers_from 0 is_hollow (set a.regions.items l.number l))) lands-filled
          ∙ ap (λ out. record { table = with_filled t l role; out = out }) out-filled)

      pub table-back : IsLand l → IsTable (record {
        shape = a.geometry;
        lands = map (seen_land a.geometry) (set a.regions.items q l);
        regions = set a.states.items q (record r { role = role; used = used; estimate = used });
        current = a.current;
      })
      table-back land = subst (λ (o : Occupied). IsTable o.table) (sym view-back) (IsTable-filled (occupied_of a) IsOccupied-kept l role may land)

      pub hollow-back : AreHollow (set a.regions.items q l) (set a.states.items q (record r { role = role; used = used; estimate = used }))
      hollow-back = so (λ n s. AreHollow (set a.regions.items n l) (set a.states.items n s)) hollow-filled
