-- Global collections: which may come, and what they do to the board. The dead are gone, and the others are packed.
use Rattle.std.specs.Prelude.{◌≡◌, ◌≤◌, ℕ, ◌+◌, ◌==◌, not, nat_le, max, IsTrue, List, [], ◌∷◌, drop, filter, length, map, slice_index_or, Option, Some, None, ⊤, if◌then◌else◌}
use Rattle.std.specs.List.{AllByRecursion}
use Rattle.bal_layout.specs.declared.name.Name.{Name}
use Rattle.bal_model.specs.declared.config.Config.{Config}
use Rattle.bal_model.specs.declared.event.Packed.{Packed}
use Rattle.bal_layout.specs.Regions.{free_region, is_leaf, region_at, age_of, all_regions}
use Rattle.bal_remember.specs.Remembered.{cards}
use Rattle.bal_layout.specs.declared.region_state.RegionState.{RegionState}
use Rattle.bal_layout.specs.declared.region_state.Role.TheVariants as roles
use Rattle.bal_rules.specs.Board.{Board, Placed, placed_among, without_names, place_of, words_of, words_of_all, names_placed, is_empty}
use Rattle.bal_rules.specs.MarkEvents.{is_current}
use Rattle.bal_layout.specs.Names.{same_name, is_among}
use Rattle.bal_model.specs.Walk.{reachable}

-- the names that were packed into a region
abbrev pub names_packed_into : List Packed → ℕ → List Name
names_packed_into packed q = map (λ (k : Packed). k.name) (filter (λ k. k.region == q) packed)

-- where a present object lies after the packing
abbrev pub placed_after_packing : List Packed → Placed → Placed
placed_after_packing [] p = p
placed_after_packing (k ∷ ks) p = if same_name k.name p.name then record p { region = k.region } else placed_after_packing ks p

-- the region that was packed last
abbrev pub last_packed : List Packed → Option ℕ
last_packed [] = None
last_packed (k ∷ []) = Some k.region
last_packed (k ∷ l ∷ ks) = last_packed (l ∷ ks)

-- the greatest age of the regions where some names lie
abbrev pub greatest_age : Board → List Placed → ℕ
greatest_age b [] = 0
greatest_age b (p ∷ ps) = max (age_of (region_at b.regions p.region).role) (greatest_age b ps)

-- a region after the packing: leaves stay, and what is neither a leaf nor packed is free
abbrev pub region_after_packing : Config → Board → List Packed → ℕ → RegionState
region_after_packing c b packed q =
    let r = region_at b.regions q in
    let names = names_packed_into packed q in
    if is_leaf r.role then record r { remembered = cards [] }
    else if is_empty names then free_region
    else record {
      role = roles.Object (if is_current (last_packed packed) q then 0 else greatest_age b (placed_among names b.present));
      used = words_of_all c b names;
      estimate = words_of_all c b names;
      remembered = cards [];
    }

-- the board once the dead are gone
abbrev pub board_after_packing : Config → Board → List Packed → Board
board_after_packing c b packed = record {
  plain = b.plain;
  present = map (placed_after_packing packed) b.present;
  regions = map (region_after_packing c b packed) (all_regions b.regions);
  current = last_packed packed;
  counter = 0;
  cycle = None;
}

abbrev pub after_global : Config → Board → List Name → List Packed → Board
after_global c b dead packed = board_after_packing c (without_names c dead b) packed

-- Which of them may come.

abbrev pub garbage : Board → List Name
garbage b = filter (λ x. not (is_among x (reachable b.plain))) (names_placed b.present)

abbrev pub survivors : Board → List Name
survivors b = filter (λ x. is_among x (reachable b.plain)) (names_placed b.present)

abbrev pub names_packed : List Packed → List Name
names_packed packed = map (λ (k : Packed). k.name) packed

-- where the packed names lay
abbrev pub region_before : Option Placed → ℕ
region_before None = 0
region_before (Some p) = p.region

abbrev pub former_region : Board → Packed → ℕ
former_region b k = region_before (place_of b.present k.name)

-- numbers that never descend
abbrev pub NeverDescend : List ℕ → Type 0
NeverDescend [] = ⊤
NeverDescend (m ∷ []) = ⊤
NeverDescend (m ∷ n ∷ ns) = (m ≤ n) × NeverDescend (n ∷ ns)

-- the regions that are packed: all but the leaves of arrays that live
abbrev pub targets_of_packing : Board → List ℕ
targets_of_packing b = filter (λ q. not (is_leaf (region_at b.regions q).role)) (all_regions b.regions)

-- next fit: of objects with so many words each goes to the first of the regions, where `filled` words are taken, and to
-- the next one exactly if it doesn't fit
abbrev pub next_fit : ℕ → List ℕ → ℕ → List ℕ → List ℕ
next_fit room regions filled [] = []
next_fit room regions filled (w ∷ ws) =
    if nat_le (filled + w) room then slice_index_or regions 0 0 ∷ next_fit room regions (filled + w) ws
    else slice_index_or regions 1 0 ∷ next_fit room (drop 1 regions) w ws

-- exactly the unreachable are dead; the others are packed from the lowest region on, in the order of their regions, and
-- none goes up
pub record IsGlobal (c : Config) (b : Board) (dead : List Name) (packed : List Packed) : Type 0 where
  pub just_the_garbage : dead ≡ garbage b
  pub as_many : length packed ≡ length (survivors b)
  pub each_packed : AllByRecursion (λ (x : Name). IsTrue (is_among x (names_packed packed))) (survivors b)
  pub by_region : NeverDescend (map (former_region b) packed)
  pub by_next_fit : map (λ (k : Packed). k.region) packed
      ≡ next_fit c.geometry.words (targets_of_packing (without_names c dead b)) 0 (map (words_of c b) (names_packed packed))
  pub none_up : AllByRecursion (λ (k : Packed). k.region ≤ former_region b k) packed
