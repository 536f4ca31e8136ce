-- An evacuation that is about to begin, and what the copies make of the regions that it may draw.
use Rattle.std.specs.Prelude.{◌≡◌, ℕ, ◌+◌, ◌<◌, ◌≤◌, ◌==◌, IsTrue, List, [], ◌∷◌, length, map, Option, if◌then◌else◌, slice_index_or}
use Rattle.bal_layout.specs.Addresses.{offset_of, region_of}
use Rattle.bal_layout.specs.Shape.{Shape}
use Rattle.bal_core.specs.declared.event.Decision.{Decision}
use Rattle.bal_core.specs.declared.event.Decision.TheVariants as decision
use Rattle.bal_core.specs.declared.row.Told.{Told}
use Rattle.bal_core.specs.declared.row.Drawn.{Drawn}
use Rattle.bal_core.specs.Finished.{Evacuation, IsEvacuated, evacuation_of}
use Rattle.bal_core.specs.Start.{MayStart, world_of}
use Rattle.bal_core.specs.Steps.{next_age, told}
use Rattle.bal_core.specs.World.{At, Graph, World, age_of, size_of}
use Rattle.bal_region.specs.Changes.{empty_land, with_object}
use Rattle.bal_region.specs.Land.{Land}
use Rattle.bal_dest.specs.Buffers.{age_at, land_at, wants_region}
use Rattle.bal_dest.specs.declared.buffers.Destination.{Destination}
use Rattle.bal_evacuate.specs.Course.{Course, drawn_by, is_dry, state_of}

-- the heap's geometry, the objects that may be copied, the roots, the free regions in the order in which they are drawn, and
-- how many objects are copied at most, if that is limited
pub record Plan : Type 0 where
  pub shape : Shape
  pub graph : Graph
  pub roots : List ℕ
  pub pool : List Land
  pub limit : Option ℕ

abbrev pub planned : Shape → Graph → List ℕ → List Land → Option ℕ → Plan
planned shape graph roots pool limit = record { shape = shape; graph = graph; roots = roots; pool = pool; limit = limit }

abbrev pub numbers_of : List Land → List ℕ
numbers_of pool = map (λ (l : Land). l.number) pool

-- the core's world, with one worker
abbrev pub world_for : Plan → World
world_for p = world_of p.shape p.graph p.roots (numbers_of p.pool)

-- a region without objects, of which nothing was given out. What its words hold does not matter
pub record IsBare (s : Shape) (l : Land) : Type 0 where
  pub starts : l.starts ≡ []
  pub used : l.used ≡ 0
  pub words : length l.words ≡ s.words

-- regions of the heap from which an evacuation may draw
abbrev pub AreBare : Shape → List Land → Type 0
AreBare s pool = (i : ℕ) (l : Land) → At pool i l → (l.number < s.regions) × IsBare s l

-- an evacuation by this plan may begin
pub record MayEvacuate (p : Plan) : Type 0 where
  pub start : MayStart p.shape p.graph p.roots (numbers_of p.pool) 1
  pub bare : AreBare p.shape p.pool

-- Copies.

abbrev pub words_in : Graph → ℕ → List ℕ
words_in g k = slice_index_or g.words k []

-- the object is appended to the region that it is copied to, and to no other
abbrev pub with_decided : Plan → ℕ → Decision → Land → Land
with_decided p k (decision.Copied address) l = if region_of p.shape address == l.number then with_object l (words_in p.graph k) else l
with_decided p k decision.Marked l = l

-- a region with the objects that are copied into it, appended in the order in which they were decided
unfoldable pub land_with_copies : Plan → List Told → Land → Land
land_with_copies p [] l = l
land_with_copies p (t ∷ won) l = land_with_copies p won (with_decided p t.object t.decision l)

-- the pool's region at a place. Past the end there is an empty one
abbrev pub pooled : Plan → ℕ → Land
pooled p i = slice_index_or p.pool i (empty_land 0 0)

-- a region that was drawn, with its copies
abbrev pub filled_by : Plan → List Told → Drawn → Destination
filled_by p won d = record { age = d.age; region = land_with_copies p won (pooled p d.ordinal) }

-- what a finished course shows
abbrev pub shown : Plan → Course → Evacuation
shown p c = evacuation_of (state_of (world_for p) c)

-- what a finished evacuation leaves: its copies, word by word, in the regions that were drawn
pub record IsCopied (p : Plan) (c : Course) : Type 0 where
  pub may : MayEvacuate p
  pub evacuated : IsEvacuated (shown p c)
  pub copies : c.buffers.regions ≡ map (filled_by p c.won) (drawn_by c)

-- an object was copied to this place of a region
pub record IsCopyAt (p : Plan) (c : Course) (region offset : ℕ) : Type 0 where
  pub place : ℕ
  pub object : ℕ
  pub address : ℕ
  pub won : At c.won place (told object (decision.Copied address))
  pub region_is : region_of p.shape address ≡ region
  pub offset_is : offset_of p.shape address ≡ offset

-- The end of the copies.

-- the first object that is marked has no room: the pool is used up, and so is the open region of its age
pub record IsStuck (p : Plan) (c : Course) : Type 0 where
  pub object : ℕ
  pub first : At c.won c.copied (told object decision.Marked)
  pub none_left : c.spares ≡ []
  pub no_room : IsTrue (wants_region c.buffers (next_age (age_of (world_for p) object)) (size_of (world_for p) object))

-- the first objects are copied, so many, and all others are marked. If the pool is called drained, there was no room for the first
-- one of these: without it an evacuation could be given up for nothing
pub record IsPrompt (p : Plan) (c : Course) : Type 0 where
  pub copied : (i k address : ℕ) → At c.won i (told k (decision.Copied address)) → i < c.copied
  pub marked : (i k : ℕ) → At c.won i (told k decision.Marked) → c.copied ≤ i
  pub few : c.copied ≤ length c.won
  pub drained : IsTrue (is_dry c.cause) → IsStuck p c

-- objects go to the open region of their age, the last one that was drawn for it: so those of an older one were copied before. And
-- a region is drawn only if the open one has no room for the object that comes first in the new one
pub record IsNextFit (p : Plan) (c : Course) : Type 0 where
  pub onward : (i j m n k l a b : ℕ) → i < j → j < length c.buffers.regions → age_at c.buffers i ≡ age_at c.buffers j
      → At c.won m (told k (decision.Copied a)) → region_of p.shape a ≡ (land_at c.buffers i).number
      → At c.won n (told l (decision.Copied b)) → region_of p.shape b ≡ (land_at c.buffers j).number → m < n
  pub wanted : (i j n l b : ℕ) → i < j → j < length c.buffers.regions → age_at c.buffers i ≡ age_at c.buffers j
      → ((q : ℕ) → i < q → q < j → age_at c.buffers q ≡ age_at c.buffers j → ⊥)
      → At c.won n (told l (decision.Copied b)) → region_of p.shape b ≡ (land_at c.buffers j).number → offset_of p.shape b ≡ 0
      → p.shape.words < (land_at c.buffers i).used + size_of (world_for p) l
