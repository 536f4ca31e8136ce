-- The events of a mark cycle: which may come, and what they do to the board.
use Rattle.std.specs.Prelude.{◌≡◌, ◌≤◌, ⊤, ℕ, ◌==◌, ◌&&◌, ◌||◌, not, nat_lt, nat_le, Bool, IsTrue, true, false, List, [], ◌∷◌, ◌++◌, filter, flat_map, map, length, Option, Some, None, option_map, slice_index_or, if◌then◌else◌}
use Rattle.std.specs.List.{AllByRecursion, list_any}
use Rattle.bal_layout.specs.declared.name.Name.{Name}
use Rattle.bal_model.specs.declared.config.Config.{Config}
use Rattle.bal_layout.specs.Regions.{region_at, all_regions, freed, is_object}
use Rattle.bal_remember.specs.Remembered.{Remembered, cards, overflowed}
use Rattle.bal_layout.specs.declared.region_state.RegionState.{RegionState}
use Rattle.bal_rules.specs.Board.{Board, Cycle, without_names, words_of_all, names_placed, is_empty, is_present}
use Rattle.bal_layout.specs.Names.{is_among}
use Rattle.bal_model.specs.Plain.{State}
use Rattle.bal_model.specs.Plain as plain
use Rattle.bal_model.specs.Walk.{reachable, root_names, targets}

-- a cycle begins with what registers and globals hold owed, and nothing listed
abbrev pub after_begin : Board → Board
after_begin b = record b {
  counter = 0;
  cycle = Some (record {
    reachable = reachable b.plain;
    made = map (λ (m : plain.Mutator). length m.made) b.plain.mutators;
    owed = root_names b.plain;
    listed = [];
  });
}

-- what is listed is owed no longer in effect, since only what is owed and not listed may be listed; what it refers to is owed
abbrev pub cycle_with_listed : State → List Name → Cycle → Cycle
cycle_with_listed s names cycle = record cycle { owed = cycle.owed ++ flat_map (targets s) names; listed = cycle.listed ++ names }

abbrev pub after_mark : Board → List Name → Board
after_mark b names = record b { cycle = option_map (cycle_with_listed b.plain names) b.cycle }

-- the names that lie in a region
abbrev pub names_at : Board → ℕ → List Name
names_at b q = names_placed (filter (λ p. p.region == q) b.present)

abbrev pub is_current : Option ℕ → ℕ → Bool
is_current None q = false
is_current (Some r) q = r == q

-- an overflowed list is built anew: it is empty
abbrev pub without_overflow : Remembered → Remembered
without_overflow (cards cs) = cards cs
without_overflow overflowed = cards []

-- a region's estimate becomes the words of the names that are left in it
abbrev pub region_after_sweep : Config → Board → ℕ → RegionState
region_after_sweep c b q =
    let r = region_at b.regions q in
    record r {
      estimate = if is_object r.role then words_of_all c b (names_at b q) else r.estimate;
      remembered = without_overflow r.remembered;
    }

-- the regions of objects, other than the current one, in which no name is left
abbrev pub deserted_regions : Board → List ℕ
deserted_regions b = filter (λ q. is_object (region_at b.regions q).role && is_empty (names_at b q) && not (is_current b.current q)) (all_regions b.regions)

-- the board once the dead are gone
abbrev pub board_after_sweep : Config → Board → Board
board_after_sweep c b = record b {
  regions = freed c.geometry (deserted_regions b) (map (region_after_sweep c b) (all_regions b.regions));
  cycle = None;
}

abbrev pub after_end : Config → Board → List Name → Board
after_end c b dead = board_after_sweep c (without_names c dead b)

-- Which of them may come.

-- a cycle runs, and this holds of it
abbrev pub InCycle : Option Cycle → (Cycle → Type 0) → Type 0
InCycle None holds = ⊥
InCycle (Some cycle) holds = holds cycle

-- a name that may be listed: present, owed, and not listed before
abbrev pub is_open : Board → Cycle → Name → Bool
is_open b cycle x = is_present b x && is_among x cycle.owed && not (is_among x cycle.listed)

-- each of the names may be listed once those before it are
abbrev pub AreOpen : Board → Cycle → List Name → Type 0
AreOpen b cycle [] = ⊤
AreOpen b cycle (x ∷ xs) = IsTrue (is_open b cycle x) × AreOpen b (cycle_with_listed b.plain (x ∷ []) cycle) xs

-- the step lists as many names as it may, or leaves none that may be listed
abbrev pub is_full_step : Config → Board → List Name → Cycle → Bool
is_full_step c b names cycle =
    nat_le c.mark_step (length names) || not (list_any (is_open b (cycle_with_listed b.plain names cycle)) (names_placed b.present))

-- without the last line a cycle could go on for ever
pub record IsMarkStep (c : Config) (b : Board) (names : List Name) (cycle : Cycle) : Type 0 where
  pub at_most : length names ≤ c.mark_step
  pub each_open : AreOpen b cycle names
  pub fewer_at_the_end : IsTrue (is_full_step c b names cycle)

abbrev pub IsMark : Config → Board → List Name → Type 0
IsMark c b names = InCycle b.cycle (IsMarkStep c b names)

-- the name was made since the cycle began
abbrev pub is_made_since : Cycle → Name → Bool
is_made_since cycle x = nat_lt (slice_index_or cycle.made x.thread 0) x.ordinal

-- it was garbage when the cycle began
abbrev pub is_old_garbage : Cycle → Name → Bool
is_old_garbage cycle x = not (is_among x cycle.reachable) && not (is_made_since cycle x)

-- what was garbage at the beginning goes. What became garbage since may stay; what can be reached stays, and so does all
-- that the others refer to
pub record IsSweep (b : Board) (dead : List Name) (cycle : Cycle) : Type 0 where
  pub present_ascending : dead ≡ filter (λ x. is_among x dead) (names_placed b.present)
  pub old_garbage_goes : AllByRecursion (λ (x : Name). IsTrue (is_among x dead || not (is_old_garbage cycle x))) (names_placed b.present)
  pub reachable_stays : AllByRecursion (λ (x : Name). IsTrue (not (is_among x (reachable b.plain)))) dead
  pub listed_stays : AllByRecursion (λ (x : Name). IsTrue (not (is_among x cycle.listed))) dead
  pub none_refers : AllByRecursion (λ (x : Name). IsTrue (is_among x dead || not (list_any (λ y. is_among y dead) (targets b.plain x)))) (names_placed b.present)

abbrev pub IsEnd : Board → List Name → Type 0
IsEnd b dead = InCycle b.cycle (IsSweep b dead)

abbrev pub is_cycle_due : Option Cycle → Bool → Bool
is_cycle_due None enough = enough
is_cycle_due (Some cycle) enough = true

-- what is due after a partial collection: a mark step where a cycle runs; the beginning of one, where enough partial
-- collections were made since the last
abbrev pub is_mark_due : Config → Board → Bool
is_mark_due c b = is_cycle_due b.cycle (nat_le c.mark_every b.counter)
