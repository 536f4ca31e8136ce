-- What becomes of the chosen regions after an evacuation: those that keep no object are freed, and the others keep just the
-- marked ones.
use Rattle.std.specs.Prelude.{ℕ, ◌==◌, ◌<◌, Bool, IsSome, IsTrue, List, [], None, filter, length, map, nat_eq, unwrap_or, if◌then◌else◌}
use Rattle.bal_base.specs.Bits.{IsAscending}
use Rattle.bal_layout.specs.Addresses.{region_of}
use Rattle.bal_layout.specs.Regions.{age_of, all_regions, freed, is_eden, is_in, is_object, region_at}
use Rattle.bal_layout.specs.Shape.{Shape}
use Rattle.bal_layout.specs.declared.region_state.RegionState.{RegionState}
use Rattle.bal_layout.specs.declared.region_state.Role.TheVariants.{Object}
use Rattle.bal_region.specs.Changes.{empty_land}
use Rattle.bal_region.specs.Land.{Land}
use Rattle.bal_rules.specs.PartialEvents.{next_age}
use Rattle.bal_sweep.specs.Sweep.{left_at, words_of}
use Rattle.bal_table.specs.Table.{Table, land_at, objects_of, role_at, things_of}

-- What may be settled.

-- regions of objects, ascending, and the addresses of marked objects in them, ascending too
pub record MaySettle (t : Table) (chosen marked : List ℕ) : Type 0 where
  pub ascending : IsAscending chosen
  pub regions : (q : ℕ) → IsTrue (is_in q chosen) → (q < t.shape.regions) × IsTrue (is_object (role_at t q))
  pub in_order : IsAscending marked
  pub objects : (a : ℕ) → IsTrue (is_in a marked) → IsSome (things_of t a)
  pub inside : (a : ℕ) → IsTrue (is_in a marked) → IsTrue (is_in (region_of t.shape a) chosen)

-- how many words the object takes that starts at an address, if one does
abbrev pub words_at : Table → ℕ → ℕ
words_at t a = length (unwrap_or (objects_of t a) [])

-- What they become.

-- the marked objects of a region
abbrev pub marked_in : Shape → ℕ → List ℕ → List ℕ
marked_in s q marked = filter (λ a. region_of s a == q) marked

-- no marked object lies in it
abbrev pub is_lost : Shape → List ℕ → ℕ → Bool
is_lost s marked q = nat_eq (length (marked_in s q marked)) 0

-- the chosen regions in which none lies
abbrev pub lost_regions : Shape → List ℕ → List ℕ → List ℕ
lost_regions s chosen marked = filter (is_lost s marked) chosen

-- the words of a region: a chosen one is empty, or keeps just its marked objects where they are
abbrev pub land_settled : List ℕ → List ℕ → Table → ℕ → Land
land_settled chosen marked t q =
    if is_in q chosen then (if is_lost t.shape marked q then empty_land q t.shape.words else left_at marked t q)
    else land_at t q

-- its state, unless it is freed: what was eden or chosen is one age older, and of a chosen region just the marked objects are
-- thought to be alive
abbrev pub state_settled : List ℕ → List ℕ → Table → ℕ → RegionState
state_settled chosen marked t q =
    let r = region_at t.regions q in
    if is_in q chosen then record r { role = Object (next_age (age_of r.role)); estimate = words_of (left_at marked t q) }
    else if is_eden r.role then record r { role = Object 1 }
    else r

-- a table once the chosen regions were settled: no region takes new objects
abbrev pub settled : List ℕ → List ℕ → Table → Table
settled chosen marked t = record {
  shape = t.shape;
  lands = map (land_settled chosen marked t) (all_regions t.regions);
  regions = freed t.shape (lost_regions t.shape chosen marked) (map (state_settled chosen marked t) (all_regions t.regions));
  current = None;
}
