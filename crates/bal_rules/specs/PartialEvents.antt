-- Partial collections: which may come, and what they do to the board. Of the objects in the chosen regions exactly the kept
-- ones stay: copied into free regions, or marked where they lie.
use Rattle.std.specs.Prelude.{◌≡◌, ◌≤◌, ◌<◌, ℕ, ◌+◌, ◌==◌, not, Bool, IsTrue, true, false, min, List, [], ◌∷◌, ◌++◌, filter, length, map, Option, Some, None, if◌then◌else◌}
use Rattle.std.specs.List.{AllByRecursion}
use Rattle.bal_layout.specs.declared.name.Name.{Name}
use Rattle.bal_model.specs.declared.config.Config.{Config}
use Rattle.bal_model.specs.declared.event.Kept.{Kept}
use Rattle.bal_model.specs.declared.event.How.{How}
use Rattle.bal_model.specs.declared.event.How.TheVariants as how
use Rattle.bal_layout.specs.Regions.{region_at, age_of, is_eden, is_in, all_regions, freed, free_regions}
use Rattle.bal_layout.specs.declared.region_state.RegionState.{RegionState}
use Rattle.bal_layout.specs.declared.region_state.Role.TheVariants as roles
use Rattle.bal_rules.specs.Board.{Board, Cycle, Placed, placed_among, placed_except, leaves_of, names_placed, is_empty, words_of_all}
use Rattle.bal_layout.specs.Names.{is_among, same_name}
use Rattle.bal_rules.specs.Choice.{choice, is_remembered}
use Rattle.bal_model.specs.Kept.{kept_names}

-- The present objects inside and outside of the chosen regions.

abbrev pub placed_in : List ℕ → Board → List Placed
placed_in regions b = filter (λ p. is_in p.region regions) b.present

abbrev pub placed_outside : List ℕ → Board → List Placed
placed_outside regions b = filter (λ p. not (is_in p.region regions)) b.present

abbrev pub names_kept : List Kept → List Name
names_kept kept = map (λ (k : Kept). k.name) kept

-- the region that a copy went to, if it is one
abbrev pub is_copied_to : How → ℕ → Bool
is_copied_to (how.Copied q) r = q == r
is_copied_to how.Marked r = false

abbrev pub is_marked : How → Bool
is_marked (how.Copied q) = false
is_marked how.Marked = true

-- where a kept object lies afterwards
abbrev pub region_as_kept : How → ℕ → ℕ
region_as_kept (how.Copied q) former = q
region_as_kept how.Marked former = former

abbrev pub placed_as_kept : Kept → Placed → Placed
placed_as_kept k p = record p { region = region_as_kept k.how p.region }

-- the present objects, each as the kept list moves it
abbrev pub placed_after_partial : List Kept → Placed → Placed
placed_after_partial [] p = p
placed_after_partial (k ∷ ks) p = if same_name k.name p.name then placed_as_kept k p else placed_after_partial ks p

-- the names that were copied into a region
abbrev pub names_copied_into : List Kept → ℕ → List Name
names_copied_into kept q = names_kept (filter (λ k. is_copied_to k.how q) kept)

-- the names that were marked
abbrev pub names_marked : List Kept → List Name
names_marked kept = names_kept (filter (λ k. is_marked k.how) kept)

-- the marked names that lie in a region
abbrev pub names_marked_in : Board → List Kept → ℕ → List Name
names_marked_in b kept q = names_placed (filter (λ p. p.region == q) (placed_among (names_marked kept) b.present))

-- a collection makes an object one older, up to 24
abbrev pub next_age : ℕ → ℕ
next_age age = min (age + 1) 24

-- the age of the region where the first of some names lies
abbrev pub age_of_first : Board → List Placed → ℕ
age_of_first b [] = 0
age_of_first b (p ∷ ps) = age_of (region_at b.regions p.region).role

-- the age that a name's region has, and the age that a region gets from the copies in it
abbrev pub age_of_name : Board → Name → ℕ
age_of_name b x = age_of_first b (placed_among (x ∷ []) b.present)

abbrev pub destination_age : Board → List Kept → ℕ → ℕ
destination_age b kept q = next_age (age_of_first b (placed_among (names_copied_into kept q) b.present))

-- a region after the collection, where it is not freed
abbrev pub region_after_partial : Config → Board → List ℕ → List Kept → ℕ → RegionState
region_after_partial c b chosen kept q =
    let r = region_at b.regions q in
    if is_in q chosen then
    record r { role = roles.Object (next_age (age_of r.role)); estimate = words_of_all c b (names_marked_in b kept q) }
    else if not (is_empty (names_copied_into kept q)) then
    record {
      role = roles.Object (destination_age b kept q);
      used = words_of_all c b (names_copied_into kept q);
      estimate = words_of_all c b (names_copied_into kept q);
      remembered = r.remembered;
    }
    else if is_eden r.role then record r { role = roles.Object 1 }
    else r

-- the names of the chosen regions that were not kept
abbrev pub names_lost : Board → List ℕ → List Kept → List Name
names_lost b chosen kept = filter (λ x. not (is_among x (names_kept kept))) (names_placed (placed_in chosen b))

-- the chosen regions that keep no marked object, and the leaves of lost arrays
abbrev pub regions_emptied : Board → List ℕ → List Kept → List ℕ
regions_emptied b chosen kept = filter (λ q. is_empty (names_marked_in b kept q)) chosen ++ leaves_of (placed_among (names_lost b chosen kept) b.present)

-- a collection counts towards the next mark cycle, where none runs
abbrev pub counter_after_partial : Option Cycle → ℕ → ℕ
counter_after_partial None n = n + 1
counter_after_partial (Some cycle) n = n

abbrev pub after_partial : Config → Board → List ℕ → List Kept → Board
after_partial c b chosen kept = record {
  plain = b.plain;
  present = map (placed_after_partial kept) (placed_except (names_lost b chosen kept) b.present);
  regions = freed c.geometry (regions_emptied b chosen kept) (map (region_after_partial c b chosen kept) (all_regions b.regions));
  current = None;
  counter = counter_after_partial b.cycle b.counter;
  cycle = b.cycle;
}

-- Which partial collections may come.

abbrev pub lands_in : List ℕ → How → Bool
lands_in regions (how.Copied q) = is_in q regions
lands_in regions how.Marked = true

-- the copies in a region come from regions of one age, so that it has an age itself; and they fit
pub record IsCopyRegion (c : Config) (b : Board) (kept : List Kept) (q : ℕ) : Type 0 where
  pub one_age : AllByRecursion (λ (x : Name). next_age (age_of_name b x) ≡ destination_age b kept q) (names_copied_into kept q)
  pub fits : words_of_all c b (names_copied_into kept q) ≤ c.geometry.words

-- it takes the regions of the choice, and keeps what walks inside them reach; without the first line it could pass over
-- garbage for ever, without the fourth it could drop a live object or drag a dead one along
pub record IsPartial (c : Config) (b : Board) (chosen : List ℕ) (scans : ℕ) (kept : List Kept) : Type 0 where
  pub the_choice : chosen ≡ choice c b.regions
  -- no reference into a region is unknown to its list: the cards were flushed
  pub all_flushed : AllByRecursion (λ (q : ℕ). IsTrue (is_remembered b q)) (all_regions b.regions)
  pub each_scanned : scans ≡ length kept
  pub just_the_kept : names_kept kept ≡ kept_names b.plain (names_placed b.present) (names_placed (placed_in chosen b))
  pub by_a_worker : AllByRecursion (λ (k : Kept). k.worker < c.workers) kept
  pub from_the_pool : AllByRecursion (λ (k : Kept). IsTrue (lands_in (free_regions b.regions) k.how)) kept
  pub copies : AllByRecursion (IsCopyRegion c b kept) (free_regions b.regions)
