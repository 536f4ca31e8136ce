-- A region that keeps the objects of a list.
use Rattle.std.specs.Prelude.{◌≡◌, ℕ, ◌<◌, ◌≤◌, ◌++◌, IsSome, IsTrue, List, [], length}
use Rattle.bal_base.specs.Bits.{IsAscending}
use Rattle.bal_layout.specs.Addresses.{address_in, region_of}
use Rattle.bal_layout.specs.Regions.{is_in}
use Rattle.bal_layout.specs.declared.name.Name.{Name}
use Rattle.bal_table.specs.Table.{Table, things_of}
use Rattle.bal_sweep.specs.Sweeping.{IsSweeping}

-- these addresses ascend, and at each of them an object of the region starts
pub record AreOf (t : Table) (q : ℕ) (marked : List ℕ) : Type 0 where
  pub ascending : IsAscending marked
  pub objects : (a : ℕ) → IsTrue (is_in a marked) → IsSome (things_of t a)
  pub region : (a : ℕ) → IsTrue (is_in a marked) → region_of t.shape a ≡ q

-- while the region is swept from object to object: so many addresses of the list were met, in front of the offset, and the
-- others are ahead
pub record IsKeeping (marked : List ℕ) (t u : Table) (q next live met : ℕ) : Type 0 where
  pub names : List Name
  pub swept : IsSweeping marked t u q next live [] names
  pub front : List ℕ
  pub ahead : List ℕ
  pub all : marked ≡ front ++ ahead
  pub count : met ≡ length front
  pub before : (a : ℕ) → IsTrue (is_in a front) → a < address_in t.shape q next
  pub behind : (a : ℕ) → IsTrue (is_in a ahead) → address_in t.shape q next ≤ a
  pub ascending : IsAscending ahead
