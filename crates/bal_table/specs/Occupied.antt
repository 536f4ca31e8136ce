-- A table while its free regions are out, to be filled elsewhere.
use Rattle.std.specs.Prelude.{◌≡◌, ℕ, ◌<◌, ◌==◌, Bool, IsTrue, false, true, List, [], filter, length, map, not, Some, if◌then◌else◌}
use Rattle.std.specs.List.{range_with_len}
use Rattle.bal_layout.specs.Regions.{is_free, is_in, is_object, region_at}
use Rattle.bal_layout.specs.declared.region_state.Role.{Role}
use Rattle.bal_region.specs.Changes.{empty_land}
use Rattle.bal_region.specs.Land.{Land, header_at, starts_at}
use Rattle.bal_layout.specs.declared.header.Header.{Header}
use Rattle.bal_table.specs.Changes.{with_land, with_region}
use Rattle.bal_table.specs.Table.{IsRole, IsTable, MayStart, Table, land_at, role_at}

-- a table, and which of its regions are out, ascending. One that is out is free, and seen as an empty one
pub record Occupied : Type 0 where
  pub table : Table
  pub out : List ℕ

-- a region is free
abbrev pub is_free_at : Table → ℕ → Bool
is_free_at t q = is_free (role_at t q)

-- a table with zeros in its free regions
abbrev pub vacated : Table → Table
vacated t = record t {
  lands = map (λ q. if is_free_at t q then empty_land q t.shape.words else land_at t q) (range_with_len 0 t.shape.regions);
}

-- a region of a table with this number that has no object, and has given out no word. Its words may be anything
pub record IsVacant (t : Table) (q : ℕ) (l : Land) : Type 0 where
  pub number : l.number ≡ q
  pub words : length l.words ≡ t.shape.words
  pub starts : l.starts ≡ []
  pub used : l.used ≡ 0

-- a region that is out may be put back with this role: its objects may stand in the table, and if it is free it has none
pub record MayPutBack (o : Occupied) (l : Land) (role : Role) : Type 0 where
  pub out : IsTrue (is_in l.number o.out)
  pub words : length l.words ≡ o.table.shape.words
  pub may : IsRole role
  pub free : is_object role ≡ false → IsVacant o.table l.number l
  pub pieces : (at : ℕ) (h : Header) → IsTrue (starts_at l at) → header_at l.words at ≡ Some h → MayStart o.table.shape h

-- a region is put into the table. All that it has given out is thought to be alive
abbrev pub with_filled : Table → Land → Role → Table
with_filled t l role =
    with_region (with_land t l.number l) l.number (record (region_at t.regions l.number) { role = role; used = l.used; estimate = l.used })

abbrev pub with_put_back : Occupied → Land → Role → Occupied
with_put_back o l role = record { table = with_filled o.table l role; out = filter (λ q. not (q == l.number)) o.out }

pub record IsOccupied (o : Occupied) : Type 0 where
  pub table : IsTable o.table
  pub out : (q : ℕ) → IsTrue (is_in q o.out) → (q < o.table.shape.regions) × (is_free_at o.table q ≡ true)
