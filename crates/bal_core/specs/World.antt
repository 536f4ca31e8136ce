-- The world of an evacuation: what is fixed from its start on, what its workers race for, and what each of them did.
use Rattle.std.specs.Prelude.{◌≡◌, ℕ, ◌<◌, ◌≤◌, Bool, false, List, [], Option, None, Some, length, slice_get, slice_index_or}
use Rattle.bal_layout.specs.Shape.{IsShape, Shape, largest_of}
use Rattle.bal_layout.specs.declared.name.Name.{Name}
use Rattle.bal_core.specs.declared.event.Decision.{Decision}
use Rattle.bal_core.specs.declared.row.Told.{Told}
use Rattle.bal_core.specs.declared.row.Drawn.{Drawn}

-- the objects that may be copied, by number: the age of each one's region, its words from its header on, and what its slots hold,
-- if that is one of these objects
pub record Graph : Type 0 where
  pub ages : List ℕ
  pub words : List (List ℕ)
  pub targets : List (List (Option ℕ))

abbrev pub slots_in : List (List (Option ℕ)) → ℕ → List (Option ℕ)
slots_in targets k = slice_index_or targets k []

-- an item has this place in a list
abbrev pub At : {X : Type 0} → List X → ℕ → X → Type 0
At xs i x = slice_get xs i ≡ Some x

-- what is fixed: the heap's geometry; of each object of the chosen regions, by its number, the age of its region, its words,
-- its name, and what each of its slots holds, if that is one of these objects; the objects that the roots hold; and the free
-- regions to copy into, in the order in which they are drawn
pub record World : Type 0 where
  pub shape : Shape
  pub ages : List ℕ
  pub sizes : List ℕ
  pub names : List Name
  pub targets : List (List (Option ℕ))
  pub roots : List ℕ
  pub pool : List ℕ

-- what a worker did: what it was told of objects, and which it won, both in order; the regions that it drew; whether its last
-- draw gave none; whether it raised the abort; whether it raised it or saw it raised. Its lists only grow
pub record Row : Type 0 where
  pub known : List Told
  pub won : List Told
  pub drawn : List Drawn
  pub dry : Bool
  pub raised : Bool
  pub saw : Bool

-- the whole state: the word of each object, which is open or holds its decision; how often a region was drawn; why the abort
-- was raised: by which workers' wishes, and whether because the pool is drained; and the workers' rows
pub record State : Type 0 where
  pub world : World
  pub words : List (Option Decision)
  pub counter : ℕ
  pub wished : List Bool
  pub drained : Bool
  pub crew : List Row

abbrev pub blank : Row
blank = record { known = []; won = []; drawn = []; dry = false; raised = false; saw = false }

-- the row of a worker. One that is not there did nothing
abbrev pub row_of : State → ℕ → Row
row_of s n = slice_index_or s.crew n blank

-- what the word of an object holds, if it is not open
abbrev pub word_of : State → ℕ → Option Decision
word_of s k = slice_index_or s.words k None

abbrev pub age_of : World → ℕ → ℕ
age_of w k = slice_index_or w.ages k 0

abbrev pub size_of : World → ℕ → ℕ
size_of w k = slice_index_or w.sizes k 0

abbrev pub slots_of : World → ℕ → List (Option ℕ)
slots_of w k = slots_in w.targets k

-- some slot of an object holds this one
abbrev pub PointsTo : World → ℕ → ℕ → Type 0
PointsTo w j k = (i : ℕ) × At (slots_of w j) i (Some k)

-- an object is held by a root
abbrev pub IsRoot : World → ℕ → Type 0
IsRoot w k = (i : ℕ) × At w.roots i k

-- the limits of what is fixed: ages of at most 24, objects of two words to an eighth of a region, roots and slots that hold
-- objects, and a pool of distinct regions
pub record IsWorld (w : World) : Type 0 where
  pub shape : IsShape w.shape
  pub ages : length w.ages ≡ length w.sizes
  pub names : length w.names ≡ length w.sizes
  pub targets : length w.targets ≡ length w.sizes
  pub oldest : (k age : ℕ) → At w.ages k age → age ≤ 24
  pub smallest : (k size : ℕ) → At w.sizes k size → 2 ≤ size
  pub largest : (k size : ℕ) → At w.sizes k size → size ≤ largest_of w.shape
  pub roots : (k : ℕ) → IsRoot w k → k < length w.sizes
  pub slots : (j k : ℕ) → PointsTo w j k → k < length w.sizes
  pub regions : (i q : ℕ) → At w.pool i q → q < w.shape.regions
  pub distinct : (i j q : ℕ) → At w.pool i q → At w.pool j q → i ≡ j
