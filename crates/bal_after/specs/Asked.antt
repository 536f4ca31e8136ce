-- What the laws of this crate ask beside a whole evacuation, and what they say of its objects.
use Rattle.std.specs.Prelude.{◌≡◌, ◌≤◌, ℕ, false, nat_eq, if◌then◌else◌, IsTrue, List, [], Some}
use Rattle.std.specs.List.{Contains, IsDistinct}
use Rattle.bal_layout.specs.Regions.{is_eden, is_free, is_in, region_at}
use Rattle.bal_layout.specs.declared.name.Name.{Name}
use Rattle.bal_layout.specs.declared.region_state.RegionState.{RegionState}
use Rattle.bal_layout.specs.declared.region_state.Role.TheVariants as roles
use Rattle.bal_core.specs.World.{At}
use Rattle.bal_core.specs.declared.event.Decision.{Decision}
use Rattle.bal_core.specs.declared.event.Decision.TheVariants as decision
use Rattle.bal_core.specs.declared.row.Drawn.{Drawn}
use Rattle.bal_core.specs.Finished.{Evacuation, Receives, Survives, filled}
use Rattle.bal_rules.specs.Board.{Board, Placed, place_of}

-- no worker decided this object
abbrev pub IsLeft : Evacuation → ℕ → Type 0
IsLeft e k = (n i : ℕ) (d : Decision) → Survives e n i k d → ⊥

-- no present object has leaves: there are no arraylets
abbrev pub HasNoLeaves : Board → Type 0
HasNoLeaves b = (p : Placed) → Contains b.present p → p.leaves ≡ []

-- no chosen region is free
abbrev pub AreInUse : Board → List ℕ → Type 0
AreInUse b chosen = (q : ℕ) → IsTrue (is_in q chosen) → is_free (region_at b.regions q).role ≡ false

-- object k was marked where it lies, and that is in this region
pub record IsMarkedIn (b : Board) (e : Evacuation) (q k : ℕ) : Type 0 where
  pub worker : ℕ
  pub order : ℕ
  pub marked : Survives e worker order k decision.Marked
  pub name : Name
  pub named : At e.world.names k name
  pub placed : Placed
  pub present : place_of b.present name ≡ Some placed
  pub lies : placed.region ≡ q

-- these are the objects that were marked in a region, each once, in any order
pub record AreMarkedIn (b : Board) (e : Evacuation) (q : ℕ) (ks : List ℕ) : Type 0 where
  pub once : IsDistinct nat_eq ks
  pub marked : (k : ℕ) → IsTrue (is_in k ks) → IsMarkedIn b e q k
  pub all : (k : ℕ) → IsMarkedIn b e q k → IsTrue (is_in k ks)

-- no copy went to this region
abbrev pub GotNoCopy : Evacuation → ℕ → Type 0
GotNoCopy e q = (n i : ℕ) (d : Drawn) → Receives e n i d → d.region ≡ q → 1 ≤ filled e n d → ⊥

-- a region that got copies of so many words, for objects of this age. It keeps its list
abbrev pub with_copies : ℕ → ℕ → RegionState → RegionState
with_copies age words r = record { role = roles.Object age; used = words; estimate = words; remembered = r.remembered }

-- a region that was not chosen and got no copy: objects in eden get older too
abbrev pub passed_by : RegionState → RegionState
passed_by r = if is_eden r.role then record r { role = roles.Object 1 } else r
