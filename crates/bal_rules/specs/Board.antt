-- The board: what a journal says of the heap.
use Rattle.std.specs.Prelude.{ℕ, sum, Bool, true, false, not, List, [], ◌∷◌, filter, flat_map, map, replicate, Option, Some, None, if◌then◌else◌}
use Rattle.bal_layout.specs.Names.{is_among, is_before, same_name}
use Rattle.bal_layout.specs.Regions.{free_region, freed}
use Rattle.bal_layout.specs.declared.name.Name.{Name}
use Rattle.bal_layout.specs.declared.region_state.RegionState.{RegionState}
use Rattle.bal_model.specs.Plain as plain
use Rattle.bal_model.specs.Sizes.{size_of}
use Rattle.bal_model.specs.declared.config.Config.{Config}

-- where a present object lies: a region, and for an arraylet its leaf regions in leaf order
pub record Placed : Type 0 where
  pub name : Name
  pub region : ℕ
  pub leaves : List ℕ

-- a mark cycle. Owed and listed are sets of names
pub record Cycle : Type 0 where
  -- the names that were reachable when it began
  pub reachable : List Name
  -- how many objects each thread had made by then
  pub made : List ℕ
  pub owed : List Name
  pub listed : List Name

pub record Board : Type 0 where
  pub plain : plain.State
  -- the present objects, by ascending name
  pub present : List Placed
  pub regions : List RegionState
  -- the eden region that takes new objects
  pub current : Option ℕ
  -- partial collections since the last mark cycle
  pub counter : ℕ
  pub cycle : Option Cycle

-- the empty graph, and free regions alone
abbrev pub opening : Config → Board
opening c = record {
  plain = plain.start;
  present = [];
  regions = replicate c.geometry.regions free_region;
  current = None;
  counter = 0;
  cycle = None;
}

-- Present objects by name, and what they take.

abbrev pub names_placed : List Placed → List Name
names_placed placed = map (λ (p : Placed). p.name) placed

abbrev pub is_empty : List Name → Bool
is_empty [] = true
is_empty (x ∷ xs) = false

-- where an object lies, if it is present
abbrev pub place_of : List Placed → Name → Option Placed
place_of [] x = None
place_of (p ∷ ps) x = if same_name p.name x then Some p else place_of ps x

abbrev pub is_present : Board → Name → Bool
is_present b x = is_among x (names_placed b.present)

-- the words that an object takes in its region
abbrev pub words_of_object : Config → Option plain.Object → ℕ
words_of_object c None = 0
words_of_object c (Some o) = (size_of c.geometry o).words

abbrev pub words_of : Config → Board → Name → ℕ
words_of c b x = words_of_object c (plain.object b.plain x)

abbrev pub words_of_all : Config → Board → List Name → ℕ
words_of_all c b names = sum (map (words_of c b) names)

-- Changes that several kinds of events make.

-- the present objects with one more, by ascending name
abbrev pub with_placed : Placed → List Placed → List Placed
with_placed p [] = p ∷ []
with_placed p (q ∷ qs) = if is_before p.name q.name then p ∷ q ∷ qs else q ∷ with_placed p qs

-- those of the present objects that have one of these names, and the others
abbrev pub placed_among : List Name → List Placed → List Placed
placed_among names present = filter (λ p. is_among p.name names) present

abbrev pub placed_except : List Name → List Placed → List Placed
placed_except names present = filter (λ p. not (is_among p.name names)) present

abbrev pub leaves_of : List Placed → List ℕ
leaves_of placed = flat_map (λ (p : Placed). p.leaves) placed

-- names that are gone are no longer present, and their leaves are free
abbrev pub without_names : Config → List Name → Board → Board
without_names c names b = record b {
  present = placed_except names b.present;
  regions = freed c.geometry (leaves_of (placed_among names b.present)) b.regions;
}
