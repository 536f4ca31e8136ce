-- What the steps of an evacuation ask for.
use Rattle.std.specs.Prelude.{◌≡◌, ◌≤◌, ◌<◌, ℕ, List, [], Option, map, option_map}
use Rattle.bal_copyfwd.specs.Moving.{address_of_copy}
use Rattle.bal_copyfwd.specs.Returned.{lent_of}
use Rattle.bal_core.specs.Steps.{told}
use Rattle.bal_core.specs.World.{At}
use Rattle.bal_core.specs.declared.event.Decision.{Decision}
use Rattle.bal_core.specs.declared.event.Decision.TheVariants as decision
use Rattle.bal_core.specs.declared.row.Told.{Told}
use Rattle.bal_evacuate.specs.Course.{Course}
use Rattle.bal_gather.specs.Gathered.{IsGathered}
use Rattle.bal_gather.specs.Lent.{Lent}
use Rattle.bal_layout.specs.Addresses.{region_of}
use Rattle.bal_layout.specs.Regions.{free_regions}
use Rattle.bal_layout.specs.Shape.{Shape}
use Rattle.bal_partial.specs.Collection.{Collection, IsCollection, MayBegin, lent_by}
use Rattle.bal_partial.specs.declared.telling.Lists.{Lists}
use Rattle.bal_region.specs.Land.{Land}
use Rattle.bal_table.specs.Table.{IsTable, Table, land_at}

-- the chosen regions of a heap are lent, what holds their objects from outside was gathered, and the pool has the heap's free
-- regions
pub record IsPrepared (t : Table) (chosen roots : List ℕ) (l : Lent) (held places : List ℕ) (pool : List Land) : Type 0 where
  pub table : IsTable t
  pub begins : MayBegin t chosen roots
  pub lent : l ≡ lent_of t chosen
  pub gathered : IsGathered l roots held places
  pub free : pool ≡ map (land_at t) (free_regions t.regions)

-- nothing is told yet, and there is room for all of it: so many objects, and so many regions
pub record HasRoom (lists : Lists) (count limit : ℕ) : Type 0 where
  pub no_marked : lists.marked.list ≡ []
  pub marked : count ≤ lists.marked.spare
  pub no_members : lists.members.members ≡ []
  pub members : limit ≤ lists.members.room
  pub no_regions : lists.regions.list ≡ []
  pub regions : limit ≤ lists.regions.spare
  pub no_kept : lists.kept.list ≡ []
  pub kept : count ≤ lists.kept.spare
  pub no_aborts : lists.aborts.list ≡ []
  pub aborts : 2 ≤ lists.aborts.spare

-- this is a collection in which these objects were numbered, and this was decided of them
pub record MayTell (x : Collection) (roots : List ℕ) (l : Lent) (c : Course) : Type 0 where
  pub is : IsCollection roots x
  pub lent : lent_by x ≡ l
  pub course : x.course ≡ c

-- the region of a copy
abbrev pub region_of_copy : Shape → Decision → Option ℕ
region_of_copy s d = option_map (region_of s) (address_of_copy d)

-- among the first so many decisions is one that copies an object to this region
pub record HasCopy (s : Shape) (won : List Told) (end q : ℕ) : Type 0 where
  pub place : ℕ
  pub object : ℕ
  pub address : ℕ
  pub before : place < end
  pub won_is : At won place (told object (decision.Copied address))
  pub here : region_of s address ≡ q
