-- What holds while a region is swept, from object to object.
use Rattle.std.specs.Prelude.{◌≡◌, ℕ, ◌<◌, ◌≤◌, ◌++◌, IsTrue, List, filter, filter_map, Bool}
use Rattle.std.specs.List.{sum_by}
use Rattle.bal_layout.specs.Addresses.{address_in}
use Rattle.bal_layout.specs.Regions.{is_in}
use Rattle.bal_layout.specs.declared.name.Name.{Name}
use Rattle.bal_region.specs.Land.{size_at}
use Rattle.bal_table.specs.Changes.{with_land}
use Rattle.bal_table.specs.Table.{Table, land_at}
use Rattle.bal_sweep.specs.Dead.{dead_at}

-- whether the object at an offset of a region is marked
abbrev pub is_marked : List ℕ → Table → ℕ → ℕ → Bool
is_marked marked t q at = is_in (address_in t.shape q at) marked

-- the objects in front of an offset were swept: the marked ones are left, their words were counted, and the others were told
-- by their names. Those from the offset on are as before
pub record IsSweeping (marked : List ℕ) (t u : Table) (q next live : ℕ) (before names : List Name) : Type 0 where
  pub done : List ℕ
  pub rest : List ℕ
  pub all : (land_at t q).starts ≡ done ++ rest
  pub table : u ≡ with_land t q (record (land_at t q) { starts = filter (is_marked marked t q) done ++ rest })
  pub below : (s : ℕ) → IsTrue (is_in s done) → s < next
  pub behind : (s : ℕ) → IsTrue (is_in s rest) → next ≤ s
  pub alive : live ≡ sum_by (size_at (land_at t q).words) (filter (is_marked marked t q) done)
  pub dead : names ≡ before ++ filter_map (λ at. dead_at marked t (address_in t.shape q at)) done
