-- A region that was out is put back.
use Rattle.std.proofs.Common.{◌≡◌, ℕ, ◌<◌, true, false, eqb, not, refl, ap, sym, ◌∙◌, arith, get_or-set_other}
use Rattle.std.specs.List.{filter}
use Rattle.std.proofs.lemmas.Bool.{and_parts, eq-eqb, eqb-true, false≢true}
use Rattle.std.proofs.lemmas.Map.Views.{any-filter_same}
use Rattle.bal_layout.specs.Addresses.{offset_of, region_of}
use Rattle.bal_layout.specs.Regions.{free_region, is_free, is_in, is_object, region_at}
use Rattle.bal_layout.specs.declared.region_state.RegionState.{RegionState}
use Rattle.bal_layout.specs.declared.region_state.Role.{Role}
use Rattle.bal_layout.specs.declared.region_state.Role.TheVariants.{Free, Leaf, Object}
use Rattle.bal_region.specs.Land.{IsLand, Land, object_at}
use Rattle.bal_table.specs.Occupied.{IsOccupied, MayPutBack, Occupied, is_free_at, with_filled, with_put_back}
use Rattle.bal_table.specs.Table.{IsRegion, IsRole, IsTable, Table, objects_of}
use Rattle.bal_table.proofs.Lifted.{objects-beside, objects-there}
use Rattle.bal_table.proofs.Tables.{IsTable-both}
use Rattle.bal_table.proofs.Vacant.{state-free}

-- a free region is no region of objects
no-object : (r : Role) → IsRole r → is_free r ≡ true → (r ≡ Free) × (is_object r ≡ false)
no-object Free may free = (refl, refl)
no-object (Object age) may free = absurd (false≢true free)
no-object Leaf may free = absurd may

module _ (o : Occupied) (is : IsOccupied o) (l : Land) (role : Role) (may : MayPutBack o l role) where
  abbrev t : Table
  t = o.table

  abbrev filled : RegionState
  filled = record (region_at t.regions l.number) { role = role; used = l.used; estimate = l.used }

  was : (l.number < t.shape.regions) × (is_free_at t l.number ≡ true)
  was = is.out l.number may.out

  -- its state was that of a free one
  pub state-was : region_at t.regions l.number ≡ free_region
  state-was = state-free t is.table l.number was.0 was.1

  free-again : is_free role ≡ true → filled ≡ free_region
  free-again free =
      let none = no-object role may.may free in
      ap (λ (r : RegionState). record r { role = role; used = l.used; estimate = l.used }) state-was
      ∙ (ap (λ (r : Role). record free_region { role = r; used = l.used; estimate = l.used }) none.0
      ∙ ap (λ n. record free_region { used = n; estimate = n }) (may.free none.1).used)

  -- so the table is one
  pub IsTable-filled : IsLand l → IsTable (with_filled t l role)
  IsTable-filled land = IsTable-both t l.number l filled is.table was.0 region (λ current. absurd (false≢true (ap is_free (sym (is.table.current l.number current).1) ∙ was.1)))
    where
      region : IsRegion t.shape l.number filled l
      region = record {
        land = land;
        number = refl;
        words = may.words;
        role = may.may;
        used = refl;
        estimate = omega arith;
        empty = λ none. (may.free none).used;
        free = free-again;
        pieces = may.pieces;
      }

  -- and the regions that are still out are free
  pub IsOccupied-filled : IsLand l → IsOccupied (with_put_back o l role)
  IsOccupied-filled land = record { table = IsTable-filled land; out = out }
    where
      out : (q : ℕ) → is_in q (filter (λ p. not (eqb p l.number)) o.out) ≡ true → (q < t.shape.regions) × (is_free_at (with_filled t l role) q ≡ true)
      out q among =
          let both = and_parts (not (eqb q l.number)) (is_in q o.out)
          (sym (any-filter_same (λ m. eqb m q) (λ p. not (eqb p l.number)) (not (eqb q l.number)) (λ k here. ap (λ n. not (eqb n l.number)) (eqb-true k q here)) o.out) ∙ among) in
          let other : q ≡ l.number → ⊥ = λ here. false≢true (ap not (sym (eq-eqb q l.number here)) ∙ both.0) in
          let old = is.out q both.1 in
          (old.0, ap (λ (r : RegionState). is_free r.role) (get_or-set_other t.regions l.number q filled free_region other) ∙ old.1)

  -- What starts in it starts there, and what starts elsewhere stays.
  pub objects-back : (a : ℕ) → region_of t.shape a ≡ l.number → objects_of (with_put_back o l role).table a ≡ object_at l (offset_of t.shape a)
  objects-back a here = objects-there t l.number l a (omega (arith, was.0, is.table.lands)) here

-- so do the objects of all other regions
pub objects-other : (o : Occupied) (l : Land) (role : Role) (a : ℕ) → (region_of o.table.shape a ≡ l.number → ⊥)
    → objects_of (with_put_back o l role).table a ≡ objects_of o.table a
objects-other o l role a other = objects-beside o.table l.number l a other
