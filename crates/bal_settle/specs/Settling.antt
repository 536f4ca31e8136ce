-- What holds while the chosen regions are settled, one after the other.
use Rattle.std.specs.Prelude.{◌≡◌, ℕ, ◌<◌, ◌≤◌, IsTrue, List, [], ◌∷◌, None, drop, length, map, nat_eq, take, if◌then◌else◌}
use Rattle.bal_cards.specs.Cards.{Cards, without_region}
use Rattle.bal_layout.specs.Addresses.{region_of}
use Rattle.bal_layout.specs.Regions.{age_of, is_eden, is_in, region_at}
use Rattle.bal_layout.specs.Shape.{Shape}
use Rattle.bal_layout.specs.declared.region_state.RegionState.{RegionState}
use Rattle.bal_layout.specs.declared.region_state.Role.TheVariants.{Object}
use Rattle.bal_rules.specs.PartialEvents.{next_age}
use Rattle.bal_sweep.specs.Sweep.{with_swept}
use Rattle.bal_table.specs.Changes.{with_freed, with_role}
use Rattle.bal_table.specs.Table.{Table, role_at}
use Rattle.bal_settle.specs.Settled.{MaySettle, marked_in}

-- just the first so many of these addresses lie in a region
pub record AreFirst (s : Shape) (q : ℕ) (marked : List ℕ) (count : ℕ) : Type 0 where
  pub within : count ≤ length marked
  pub front : (a : ℕ) → IsTrue (is_in a (take count marked)) → region_of s a ≡ q
  pub behind : (a : ℕ) → IsTrue (is_in a (drop count marked)) → region_of s a ≡ q → ⊥

-- a region keeps just these objects, one age older
abbrev pub with_kept : List ℕ → Table → ℕ → Table
with_kept own t q = with_role (with_swept own t q) q (Object (next_age (age_of (role_at (with_swept own t q) q))))

-- it is freed if there are none
abbrev pub with_region_settled : List ℕ → Table → ℕ → Table
with_region_settled own t q = if nat_eq (length own) 0 then with_freed t q else with_kept own t q

abbrev pub cards_settled : List ℕ → Cards → ℕ → Cards
cards_settled own c q = if nat_eq (length own) 0 then without_region q c else c

-- regions that are settled one after the other, each with its own part of the marked objects
abbrev pub all_settled : List ℕ → List ℕ → Table → Table
all_settled [] marked t = t
all_settled (q ∷ qs) marked t = all_settled qs marked (with_region_settled (marked_in t.shape q marked) t q)

abbrev pub all_cards_settled : Shape → List ℕ → List ℕ → Cards → Cards
all_cards_settled s [] marked c = c
all_cards_settled s (q ∷ qs) marked c = all_cards_settled s qs marked (cards_settled (marked_in s q marked) c q)

-- what is still eden is one age older
abbrev pub state_older : RegionState → RegionState
state_older r = if is_eden r.role then record r { role = Object 1 } else r

abbrev pub with_eden_older : Table → Table
with_eden_older t = record t { regions = map state_older t.regions }

-- so many regions have been made older if they were eden, and the others are as before
pub record IsOlderTo (before after : Table) (k : ℕ) : Type 0 where
  pub shape : after.shape ≡ before.shape
  pub lands : after.lands ≡ before.lands
  pub current : after.current ≡ before.current
  pub count : length after.regions ≡ length before.regions
  pub below : (q : ℕ) → q < k → region_at after.regions q ≡ state_older (region_at before.regions q)
  pub behind : (q : ℕ) → k ≤ q → region_at after.regions q ≡ region_at before.regions q

-- the regions that are left, and the marked objects in them, make of this table and these cards what all of them make of the
-- first ones
pub record IsSettling (chosen marked : List ℕ) (t : Table) (c : Cards) (left rest : List ℕ) (u : Table) (d : Cards) : Type 0 where
  pub may : MaySettle u left rest
  pub current : u.current ≡ None
  pub shape : u.shape ≡ t.shape
  pub cards_shape : d.shape ≡ t.shape
  pub table : all_settled left rest u ≡ all_settled chosen marked t
  pub cards : all_cards_settled t.shape left rest d ≡ all_cards_settled t.shape chosen marked c
