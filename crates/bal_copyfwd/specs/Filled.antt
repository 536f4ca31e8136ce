-- Regions that were out are put back.
use Rattle.std.specs.Prelude.{◌≡◌, ⊤, ℕ, IsTrue, List, [], ◌∷◌, ◌++◌, false, length, map, Some}
use Rattle.std.specs.List.{AllByRecursion}
use Rattle.bal_layout.specs.Regions.{free_regions, is_object, region_at}
use Rattle.bal_layout.specs.Shape.{Shape}
use Rattle.bal_layout.specs.declared.header.Header.{Header}
use Rattle.bal_layout.specs.declared.region_state.RegionState.{RegionState}
use Rattle.bal_layout.specs.declared.region_state.Role.{Role}
use Rattle.bal_layout.specs.declared.region_state.Role.TheVariants.{Free, Object}
use Rattle.bal_dest.specs.declared.buffers.Destination.{Destination}
use Rattle.bal_region.specs.Land.{Land, header_at, starts_at}
use Rattle.bal_table.specs.Occupied.{Occupied, vacated, with_filled}
use Rattle.bal_table.specs.Table.{IsRole, IsTable, MayStart, Table, land_at}

-- a region, and the role that it is put back with
pub record Back : Type 0 where
  pub land : Land
  pub role : Role

-- those with copies, each with its age, and then those that were not drawn
abbrev pub all_back : List Destination → List Land → List Back
all_back filled spares =
    map (λ (d : Destination). record { land = d.region; role = Object d.age }) filled ++ map (λ (l : Land). record { land = l; role = Free }) spares

-- one after the other
unfoldable pub with_all_filled : List Back → Table → Table
with_all_filled [] t = t
with_all_filled (b ∷ bs) t = with_all_filled bs (with_filled t b.land b.role)

-- no region is put back twice
abbrev pub AreApart : List Back → Type 0
AreApart [] = ⊤
AreApart (b ∷ bs) = AllByRecursion (λ (c : Back). c.land.number ≡ b.land.number → ⊥) bs × AreApart bs

-- it is none of these
abbrev pub IsOther : ℕ → List Back → Type 0
IsOther q bs = AllByRecursion (λ (b : Back). b.land.number ≡ q → ⊥) bs

-- the state of a region that is put back
abbrev pub state_back : Table → Back → RegionState
state_back t b = record (region_at t.regions b.land.number) { role = b.role; used = b.land.used; estimate = b.land.used }

-- What may be put back.

-- a region with its role fits a table of this shape: so do its objects, and one that is free has none
pub record MayStand (s : Shape) (b : Back) : Type 0 where
  pub words : length b.land.words ≡ s.words
  pub role : IsRole b.role
  pub free : is_object b.role ≡ false → (b.land.starts ≡ []) × (b.land.used ≡ 0)
  pub pieces : (at : ℕ) (h : Header) → IsTrue (starts_at b.land at) → header_at b.land.words at ≡ Some h → MayStart s h

-- the numbers of regions
abbrev pub numbers_of : List Back → List ℕ
numbers_of bs = map (λ (b : Back). b.land.number) bs

-- these are just the regions that are out, each once, and each may stand in the table
pub record MayFill (o : Occupied) (bs : List Back) : Type 0 where
  pub out : numbers_of bs ≡ o.out
  pub apart : AreApart bs
  pub each : AllByRecursion (MayStand o.table.shape) bs

-- a table was split: its free regions are out, and as they were
pub record IsSplit (t : Table) (o : Occupied) (pool : List Land) : Type 0 where
  pub table : IsTable t
  pub occupied : o ≡ record { table = vacated t; out = free_regions t.regions }
  pub free : pool ≡ map (land_at t) (free_regions t.regions)
