-- How the workers of a partial collection share it: who may copy where, how densely, and when copying is abandoned.
use Rattle.std.specs.Prelude.{◌≡◌, ◌≤◌, ◌<◌, ⊤, ℕ, ◌-◌, ◌*◌, ◌/◌, ◌==◌, ◌&&◌, ◌||◌, not, nat_lt, nat_le, min, max, Bool, IsTrue, true, false, List, [], ◌∷◌, ◌++◌, filter, length, map, Option, Some, None, if◌then◌else◌}
use Rattle.std.specs.List.{AllByRecursion, list_all, list_any, range_with_len}
use Rattle.bal_layout.specs.declared.name.Abort.{Abort}
use Rattle.bal_layout.specs.declared.name.Abort.TheVariants as abort
use Rattle.bal_layout.specs.Shape.{largest_of}
use Rattle.bal_model.specs.declared.config.Config.{Config}
use Rattle.bal_model.specs.declared.event.Kept.{Kept}
use Rattle.bal_layout.specs.Regions.{region_at, age_of, free_regions}
use Rattle.bal_rules.specs.Board.{Board, is_empty, words_of_all}
use Rattle.bal_rules.specs.PartialEvents.{IsPartial, next_age, destination_age, names_copied_into, is_copied_to, is_marked, names_marked, names_kept}

-- The crew: how many of the workers decide.

-- the ages that copies get, all chosen regions counted, also those that keep nothing
abbrev pub destination_ages : Board → List ℕ → List ℕ
destination_ages b chosen = filter (λ a. list_any (λ q. next_age (age_of (region_at b.regions q).role) == a) chosen) (range_with_len 0 25)

abbrev pub count_of_ages : Board → List ℕ → ℕ
count_of_ages b chosen = max 1 (length (destination_ages b chosen))

-- the pool: the regions that are free when the collection starts
abbrev pub pool_of : Board → ℕ
pool_of b = length (free_regions b.regions)

-- a worker has an open buffer for each age; more than one worker together hold at most half of the pool in them
abbrev pub crew : Config → Board → List ℕ → ℕ
crew c b chosen = max 1 (min c.workers (pool_of b / (2 * count_of_ages b chosen)))

-- Copies by worker and region.

abbrev pub copies_among : List Kept → List Kept
copies_among kept = filter (λ k. not (is_marked k.how)) kept

abbrev pub copies_by : List Kept → ℕ → ℕ
copies_by kept worker = length (filter (λ k. k.worker == worker) (copies_among kept))

-- the workers of the copies in a region
abbrev pub workers_into : List Kept → ℕ → List ℕ
workers_into kept q = map (λ (k : Kept). k.worker) (filter (λ k. is_copied_to k.how q) kept)

abbrev pub first_or_zero : List ℕ → ℕ
first_or_zero [] = 0
first_or_zero (n ∷ ns) = n

-- all of them are the first one
abbrev pub is_one_worker : List ℕ → Bool
is_one_worker workers = list_all (λ w. w == first_or_zero workers) workers

-- regions with copies, but so few that one more object might still fit
abbrev pub loose_regions : Config → Board → List Kept → List ℕ
loose_regions c b kept =
    filter (λ q. not (is_empty (names_copied_into kept q))
    && nat_le (words_of_all c b (names_copied_into kept q)) (c.geometry.words - largest_of c.geometry)) (free_regions b.regions)

abbrev pub same_buffer : Board → List Kept → ℕ → ℕ → Bool
same_buffer b kept p q =
    (first_or_zero (workers_into kept p) == first_or_zero (workers_into kept q)) && (destination_age b kept p == destination_age b kept q)

-- Causes of an abort.

abbrev pub is_wished : ℕ → Abort → Bool
is_wished worker (abort.Wished w) = w == worker
is_wished worker abort.Drained = false

abbrev pub is_drained : Abort → Bool
is_drained (abort.Wished w) = false
is_drained abort.Drained = true

abbrev pub has_causes : List Abort → Bool
has_causes [] = false
has_causes (cause ∷ causes) = true

-- causes in their order: the workers that wished, ascending, then that the pool was drained
abbrev pub ordered_causes : ℕ → List Abort → List Abort
ordered_causes workers causes =
    map abort.Wished (filter (λ w. list_any (is_wished w) causes) (range_with_len 0 workers))
    ++ (if list_any is_drained causes then abort.Drained ∷ [] else [])

-- a worker wishes to stop once it has copied as many as it may, and there was more to copy
abbrev pub IsWish : Option ℕ → ℕ → ℕ → Type 0
IsWish None copies scans = ⊥
IsWish (Some limit) copies scans = (copies ≡ limit) × (limit < scans)

-- of the pool, all but the open buffers is well filled
abbrev pub is_pool_filled : Config → Board → List ℕ → List Kept → Bool
is_pool_filled c b chosen kept =
    nat_le (pool_of b) (crew c b chosen * count_of_ages b chosen)
    || nat_lt ((pool_of b - crew c b chosen * count_of_ages b chosen) * (c.geometry.words - largest_of c.geometry)) (words_of_all c b (names_kept (copies_among kept)))

-- a worker that copies alone has used each region of it
abbrev pub is_pool_used : Config → Board → List ℕ → List Kept → Bool
is_pool_used c b chosen kept = nat_lt 1 (crew c b chosen) || list_all (λ q. not (is_empty (names_copied_into kept q))) (free_regions b.regions)

-- the pool was really drained
pub record IsDrained (c : Config) (b : Board) (chosen : List ℕ) (kept : List Kept) : Type 0 where
  pub filled : IsTrue (is_pool_filled c b chosen kept)
  pub used : IsTrue (is_pool_used c b chosen kept)

abbrev pub IsCause : Config → Board → List ℕ → ℕ → List Kept → Abort → Type 0
IsCause c b chosen scans kept (abort.Wished w) = IsWish c.abort_after (copies_by kept w) scans
IsCause c b chosen scans kept abort.Drained = IsDrained c b chosen kept

abbrev pub KeepsLimit : Option ℕ → ℕ → Type 0
KeepsLimit None copies = ⊤
KeepsLimit (Some limit) copies = copies ≤ limit

-- without the fourth line each collection could mark all that it keeps and free nothing
pub record IsPacking (c : Config) (b : Board) (chosen : List ℕ) (scans : ℕ) (kept : List Kept) (aborts : List Abort) : Type 0 where
  pub by_the_crew : AllByRecursion (λ (k : Kept). k.worker < crew c b chosen) kept
  pub one_worker : AllByRecursion (λ (q : ℕ). IsTrue (is_one_worker (workers_into kept q))) (free_regions b.regions)
  -- of a worker's regions of one age, one at most is loose
  pub packed : AllByRecursion (λ (q : ℕ). filter (same_buffer b kept q) (loose_regions c b kept) ≡ q ∷ []) (loose_regions c b kept)
  pub marked_for_a_cause : IsTrue (is_empty (names_marked kept) || has_causes aborts)
  pub causes_in_order : aborts ≡ ordered_causes (crew c b chosen) aborts
  pub each_cause : AllByRecursion (IsCause c b chosen scans kept) aborts
  pub limit_kept : AllByRecursion (λ (w : ℕ). KeepsLimit c.abort_after (copies_by kept w)) (range_with_len 0 (crew c b chosen))

-- a partial collection as its workers made it
pub record IsEvacuation (c : Config) (b : Board) (chosen : List ℕ) (scans : ℕ) (kept : List Kept) (aborts : List Abort) : Type 0 where
  pub partial : IsPartial c b chosen scans kept
  pub packing : IsPacking c b chosen scans kept aborts
