-- What a table's vectors say where one of their items is read or written, and where they are new.
use Rattle.std.proofs.Common.{◌≡◌, ℕ, ◌<◌, true, List, length, replicate, set, get_or, Option, None, Some, ap, sym, subst, ◌∙◌, arith, length-set, get_or-set_same}
use Rattle.std.specs.Prelude.{IfSome, IsSome}
use Rattle.std.proofs.lemmas.List.{get_or_read, set-set}
use Rattle.bal_layout.specs.Addresses.{address_in, offset_of, region_of}
use Rattle.bal_layout.specs.Shape.{IsShape}
use Rattle.bal_layout.specs.declared.region_state.Role.TheVariants.{Free}
use Rattle.bal_region.specs.Changes.{empty_land, with_object, without}
use Rattle.bal_region.specs.Land.{Land, object_at, object_in, starts_at}
use Rattle.bal_region.proofs.Lemmas.{object-starts}
use Rattle.bal_table.specs.Changes.{MayCarry, empty_table, object_words, with_carried, with_land}
use Rattle.bal_table.specs.Kept.{AreCounted, IsKept, table_of}
use Rattle.bal_layout.specs.Regions.{emptied, free_region, region_at, region_with_object}
use Rattle.bal_layout.specs.declared.region_state.RegionState.{RegionState}
use Rattle.bal_table.specs.Table.{IsRegion, IsTable, Table, land_at, things_of}
use Rattle.bal_table.specs.declared.table.Table.TheInside.{Inside}
use Rattle.bal_table.proofs.Copied.{with_copy}
use Rattle.bal_table.proofs.Roles.{AreCounted-free, AreCounted-same}
use Rattle.bal_table.proofs.Seen.{start-address, start-inside}
use Rattle.bal_table.proofs.Tables.{IsTable-empty}

-- A region by its number.
module _ (a : Inside) (kept : IsKept a) (q : ℕ) (l : Land) (within : q < a.geometry.regions) (read : l ≡ get_or a.regions.items q l) where
  -- a region that is read from the vector is the one with that number
  pub land-read : l ≡ land_at (table_of a) q
  land-read = get_or_read a.regions.items q l (omega (arith, within, kept.table.lands)) read (empty_land 0 0)

  -- where an object starts in it, that is a word of it, and an object of the table
  pub start-read : (at : ℕ) → starts_at l at ≡ true → (at < a.geometry.words) × IsSome (things_of (table_of a) (address_in a.geometry q at))
  start-read at there =
      let starts = subst (λ (m : Land). starts_at m at ≡ true) land-read there in
      (start-inside (table_of a) q at kept.table within starts, start-address (table_of a) q at kept.table within starts)

  -- so it is as a region of a table is
  pub IsRegion-read : IsRegion a.geometry q (region_at a.states.items q) l
  IsRegion-read = subst (IsRegion a.geometry q (region_at a.states.items q)) (sym land-read) (kept.table.each q within)

  -- what it is once nothing is left in it
  pub empty-read : empty_land l.number (length l.words) ≡ empty_land q a.geometry.words
  empty-read = ap (λ n. empty_land n (length l.words)) IsRegion-read.number ∙ ap (empty_land q) IsRegion-read.words

-- A region's state by its number.
module _ (a : Inside) (kept : IsKept a) (q : ℕ) (within : q < a.geometry.regions) where
  -- a state that is read from the vector is that of the region with this number
  pub state-read : (r : RegionState) → r ≡ get_or a.states.items q r → r ≡ region_at a.states.items q
  state-read r read = get_or_read a.states.items q r (omega (arith, within, kept.table.regions)) read free_region

  -- another state with the same role is counted as before
  pub counts-kept : (r : RegionState) → r.role ≡ (region_at a.states.items q).role → AreCounted (set a.states.items q r) a.lowest a.free a.eden
  counts-kept r same = AreCounted-same a.states.items q r (omega (arith, within, kept.table.regions)) same a.lowest a.free a.eden kept.counts

-- a region that is emptied and then free
pub state-freed : (rs : List RegionState) (q : ℕ) (r : RegionState) → q < length rs → r ≡ emptied (region_at rs q)
    → set (set rs q r) q (record (region_at (set rs q r) q) { role = Free }) ≡ set rs q free_region
state-freed rs q r within is =
    ap (λ (u : RegionState). set (set rs q r) q (record u { role = Free })) (get_or-set_same rs q r free_region within ∙ is) ∙ set-set rs q r free_region

-- the current region is one of the regions
pub current-within : (t : Table) (o : Option ℕ) → IsTable t → t.current ≡ o → IfSome o (λ q. q < t.shape.regions)
current-within t None table is = tt
current-within t (Some q) table is = (table.current q is).0

-- The region in which an address lies.
module _ (a : Inside) (kept : IsKept a) (address q : ℕ) (l : Land) (is : q ≡ region_of a.geometry address) (within : q < a.geometry.regions)
    (read : l ≡ get_or a.regions.items q l) where
  -- a region that is read from the vector is the one of the address
  pub land-found : l ≡ land_at (table_of a) (region_of a.geometry address)
  land-found = land-read a kept q l within read ∙ ap (land_at (table_of a)) is

  -- it is another at the address's offset
  pub IsTable-changed : (change : Land → ℕ → Land) (offset : ℕ) (new : Land) → offset ≡ offset_of a.geometry address → new ≡ change l offset
      → IsTable (with_land (table_of a) (region_of a.geometry address) (change (land_at (table_of a) (region_of a.geometry address)) (offset_of a.geometry address)))
      → IsTable (with_land (table_of a) q new)
  IsTable-changed change offset new at changed table =
      let here = ap (λ (m : Land). change m offset) land-found ∙ ap (change (land_at (table_of a) (region_of a.geometry address))) at in
      subst (λ p. IsTable (with_land (table_of a) p new)) (sym is)
      (subst (λ (m : Land). IsTable (with_land (table_of a) (region_of a.geometry address) m)) (sym (changed ∙ here)) table)

-- a table is kept where it is new, and all its regions are counted as free
pub IsKept-made : (a : Inside) → IsShape a.geometry → table_of a ≡ empty_table a.geometry → a.lowest ≡ 0 → a.free ≡ a.geometry.regions → a.eden ≡ 0 → IsKept a
IsKept-made a shape is lowest free eden =
    let states : a.states.items ≡ replicate a.geometry.regions free_region = ap (λ (t : Table). t.regions) is in
    record {
      table = subst IsTable (sym is) (IsTable-empty a.geometry shape);
      counts = subst (λ (rs : List RegionState). AreCounted rs a.lowest a.free a.eden) (sym states)
          (subst (λ n. AreCounted (replicate a.geometry.regions free_region) n a.free a.eden) (sym lowest)
          (subst (λ n. AreCounted (replicate a.geometry.regions free_region) 0 n a.eden) (sym free)
          (subst (AreCounted (replicate a.geometry.regions free_region) 0 a.geometry.regions) (sym eden) (AreCounted-free a.geometry.regions))));
    }

-- An object that is copied to another region and taken away where it was.
module _ (a : Inside) (kept : IsKept a) (from q number offset : ℕ) (may : MayCarry (table_of a) from q) (is : number ≡ region_of a.geometry from) (at : offset ≡ offset_of a.geometry from) where
  -- the words that are read in the vector are the object's
  pub words-read : (l : Land) (object : List ℕ) → number < a.geometry.regions → l ≡ get_or a.regions.items number l → object_at l offset ≡ Some object
      → object ≡ object_words (table_of a) from
  words-read l object within read object-is =
      sym (object-starts l offset object object-is).1
      ∙ (ap (λ (m : Land). object_in m.words offset) (land-found a kept from number l is within read)
      ∙ ap (object_in (land_at (table_of a) (region_of a.geometry from)).words) at)

  placed : List Land
  placed = set a.regions.items q (with_object (land_at (table_of a) q) (object_words (table_of a) from))

  -- the regions with the copy
  lands-copied : with_copy a.regions.items number offset q ≡ placed
  unfolding placed
  lands-copied = ap (λ n. with_copy a.regions.items n offset q) is ∙ ap (λ o. with_copy a.regions.items (region_of a.geometry from) o q) at

  -- and without the object at its old place
  lands-carried : (regions : List Land) (taken left : Land) → number < a.geometry.regions → regions ≡ placed → taken ≡ get_or regions number taken → left ≡ without taken offset
      → set regions number left ≡ set placed (region_of a.geometry from) (without (get_or placed (region_of a.geometry from) (empty_land 0 0)) (offset_of a.geometry from))
  unfolding placed
  lands-carried regions taken left within copied read removed =
      let long = length-set a.regions.items q (with_object (land_at (table_of a) q) (object_words (table_of a) from)) in
      let inside : number < length regions = omega (arith, within, kept.table.lands, long, ap (λ (ls : List Land). length ls) copied) in
      let stood = get_or_read regions number taken inside read (empty_land 0 0) ∙ ap (λ ls. get_or ls number (empty_land 0 0)) copied in
      ap (λ ls. set ls number left) copied
      ∙ (ap (set placed number) (removed ∙ (ap (λ l. without l offset) stood ∙ ap (without (get_or placed number (empty_land 0 0))) at))
      ∙ ap (λ n. set placed n (without (get_or placed n (empty_land 0 0)) (offset_of a.geometry from))) is)

  pub table-carried : (regions : List Land) (taken left : Land) (state : RegionState) → number < a.geometry.regions → regions ≡ with_copy a.regions.items number offset q
      → taken ≡ get_or regions number taken → left ≡ without taken offset → state ≡ region_with_object (length (object_words (table_of a) from)) (region_at a.states.items q)
      → record { shape = a.geometry; lands = set regions number left; regions = set a.states.items q state; current = a.current } ≡ with_carried (table_of a) from q
  unfolding placed
  table-carried regions taken left state within copied read removed counted =
      ap (λ ls. record { shape = a.geometry; lands = ls; regions = set a.states.items q state; current = a.current })
      (lands-carried regions taken left within (copied ∙ lands-copied) read removed)
      ∙ ap (λ r. record (with_carried (table_of a) from q) { regions = set a.states.items q r }) counted
