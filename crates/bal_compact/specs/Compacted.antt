-- What a compaction makes of a table.
use Rattle.std.specs.Prelude.{◌≡◌, ℕ, max, List, [], ◌∷◌, Option, map, true, if◌then◌else◌}
use Rattle.std.specs.List.{sum_by}
use Rattle.bal_layout.specs.Addresses.{region_of}
use Rattle.bal_layout.specs.Regions.{age_of, all_regions, free_region}
use Rattle.bal_layout.specs.declared.region_state.RegionState.{RegionState}
use Rattle.bal_layout.specs.declared.region_state.Role.TheVariants.{Object}
use Rattle.bal_plan.specs.Plan.{objects_into, told_by_plan, words_at}
use Rattle.bal_remember.specs.Remembered.{cards}
use Rattle.bal_rules.specs.GlobalEvents.{last_packed}
use Rattle.bal_rules.specs.MarkEvents.{is_current}
use Rattle.bal_table.specs.Table.{Table, role_at, things_of}
use Rattle.bal_words.specs.Moved.{Carried, Fixed}
use Rattle.bal_words.specs.Things.{Things}
use Rattle.std.specs.Prelude.{◌*◌}

-- the age of the region in which an object lies
abbrev pub age_at : Table → ℕ → ℕ
age_at t a = age_of (role_at t (region_of t.shape a))

abbrev pub greatest : List ℕ → ℕ
greatest [] = 0
greatest (n ∷ ns) = max n (greatest ns)

-- a region with these objects alone, which came from where they lie in a table: it is as old as the oldest of their regions,
-- unless it is the current one
abbrev pub region_of_objects : Table → Option ℕ → ℕ → List ℕ → RegionState
region_of_objects t current q [] = free_region
region_of_objects t current q (a ∷ more) = record {
  role = Object (if is_current current q then 0 else greatest (map (age_at t) (a ∷ more)));
  used = sum_by (words_at t) (a ∷ more);
  estimate = sum_by (words_at t) (a ∷ more);
  remembered = cards [];
}

-- the region to which the last object goes
abbrev pub last_target : Table → (ℕ → ℕ) → Option ℕ
last_target t to = last_packed (told_by_plan t to)

-- a region when all objects were moved
abbrev pub packed_region : Table → (ℕ → ℕ) → ℕ → RegionState
packed_region t to q = region_of_objects t (last_target t to) q (objects_into t to (t.shape.regions * t.shape.words) q)

-- the objects were moved, and are as they were: their references still lead to where the objects lay
pub record IsPacked (before after : Table) (to : ℕ → ℕ) : Type 0 where
  pub shape : after.shape ≡ before.shape
  pub carried : Carried (things_of before) (things_of after) (λ a. true) to
  pub regions : after.regions ≡ map (packed_region before to) (all_regions before.regions)
  pub current : after.current ≡ last_target before to

-- they were moved, and then their references were mended
pub record IsCompacted (before after : Table) (to : ℕ → ℕ) : Type 0 where
  pub shape : after.shape ≡ before.shape
  pub middle : Things
  pub carried : Carried (things_of before) middle (λ a. true) to
  pub mended : Fixed middle (things_of after) to
  pub regions : after.regions ≡ map (packed_region before to) (all_regions before.regions)
  pub current : after.current ≡ last_target before to
