-- What holds while objects are moved, in the order of their addresses.
use Rattle.std.specs.Prelude.{◌≡◌, ℕ, ◌<◌, ◌≤◌, max, None, length, nat_lt, true, if◌then◌else◌}
use Rattle.bal_layout.specs.Graph.{Graph}
use Rattle.bal_layout.specs.Regions.{age_of, region_at}
use Rattle.bal_layout.specs.declared.region_state.Role.TheVariants.{Object}
use Rattle.bal_plan.specs.Plan.{IsPlan, objects_into}
use Rattle.bal_remember.specs.Remembered.{cards}
use Rattle.bal_table.specs.Changes.{with_role}
use Rattle.bal_table.specs.Table.{IsTable, Table, role_at, things_of}
use Rattle.bal_words.specs.Moved.{Carried}
use Rattle.bal_words.specs.Shown.{Shows}
use Rattle.bal_compact.specs.Compacted.{region_of_objects}
use Rattle.std.specs.Prelude.{[]}

-- a table may be packed by a plan: no object is there twice, and nothing is remembered of any region
pub record MayBePacked (t : Table) (to : ℕ → ℕ) : Type 0 where
  pub table : IsTable t
  pub plan : IsPlan t to
  pub graph : Graph
  pub shows : Shows (things_of t) graph
  pub lists : (q : ℕ) → (region_at t.regions q).remembered ≡ cards []

-- where an object starts while those below an address have moved
abbrev pub to_below : (ℕ → ℕ) → ℕ → ℕ → ℕ
to_below to at a = if nat_lt a at then to a else a

-- the objects below an address have moved, all of the regions below one among them: of those regions each has the objects that
-- went there, or is free, and the others are as before
pub record IsMovedTo (before now : Table) (to : ℕ → ℕ) (q at : ℕ) : Type 0 where
  pub may : MayBePacked before to
  pub table : IsTable now
  pub shape : now.shape ≡ before.shape
  pub count : length now.regions ≡ length before.regions
  pub current : now.current ≡ None
  pub carried : Carried (things_of before) (things_of now) (λ a. true) (to_below to at)
  pub below : (p : ℕ) → p < q → region_at now.regions p ≡ region_of_objects before None p (objects_into before to at p)
  pub from : (p : ℕ) → q ≤ p → region_at now.regions p ≡ region_at before.regions p

-- a region has objects then, which come from one of this age too
abbrev pub with_joined : Table → ℕ → ℕ → Table
with_joined t q age = with_role t q (Object (max (age_of (role_at t q)) age))
