-- How an evacuation begins: nothing is decided, drawn or raised.
use Rattle.std.specs.Prelude.{◌≡◌, ℕ, ◌<◌, ◌≤◌, false, replicate, List, Option, None, Some, length, map, slice_index_or}
use Rattle.bal_layout.specs.Header.{IsHeaderOf, header_of, size_in}
use Rattle.bal_layout.specs.Shape.{Shape, largest_of}
use Rattle.bal_layout.specs.declared.header.Header.{Header}
use Rattle.bal_layout.specs.declared.name.Name.{Name}
use Rattle.bal_core.specs.World.{At, Graph, State, World, blank, slots_in}

-- the words of an object that may be copied: they begin with a header of that size, and are at most an eighth of a region
pub record IsObject (s : Shape) (words : List ℕ) : Type 0 where
  pub header : Header
  pub is : IsHeaderOf header (slice_index_or words 0 0) (slice_index_or words 1 0)
  pub size : size_in s.words header ≡ length words
  pub smallest : 2 ≤ length words
  pub largest : length words ≤ largest_of s

-- the objects of a graph are told by number, with ages of at most 24, and their slots hold only objects of the graph
pub record IsGraph (s : Shape) (g : Graph) : Type 0 where
  pub words : length g.words ≡ length g.ages
  pub targets : length g.targets ≡ length g.ages
  pub oldest : (k age : ℕ) → At g.ages k age → age ≤ 24
  pub objects : (k : ℕ) (words : List ℕ) → At g.words k words → IsObject s words
  pub slots : (j i k : ℕ) → At (slots_in g.targets j) i (Some k) → k < length g.ages

-- an evacuation of this graph may begin: the roots hold objects of it, the pool has distinct regions of the heap, and there are
-- one to 32 workers
pub record MayStart (s : Shape) (g : Graph) (roots pool : List ℕ) (workers : ℕ) : Type 0 where
  pub graph : IsGraph s g
  pub held : (i k : ℕ) → At roots i k → k < length g.ages
  pub regions : (i q : ℕ) → At pool i q → q < s.regions
  pub distinct : (i j q : ℕ) → At pool i q → At pool j q → i ≡ j
  pub one : 1 ≤ workers
  pub most : workers ≤ 32

-- the name in an object's header
abbrev pub name_in : Option Header → Name
name_in None = record { thread = 0; ordinal = 0 }
name_in (Some header) = header.name

abbrev pub name_of : List ℕ → Name
name_of words = name_in (header_of (slice_index_or words 0 0) (slice_index_or words 1 0))

abbrev pub world_of : Shape → Graph → List ℕ → List ℕ → World
world_of s g roots pool = record {
  shape = s;
  ages = g.ages;
  sizes = map length g.words;
  names = map name_of g.words;
  targets = g.targets;
  roots = roots;
  pool = pool;
}

abbrev pub start_of : World → ℕ → State
start_of w workers = record {
  world = w;
  words = replicate (length w.sizes) None;
  counter = 0;
  wished = replicate 32 false;
  drained = false;
  crew = replicate workers blank;
}
