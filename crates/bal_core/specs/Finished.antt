-- A finished evacuation, whoever decided: one worker by itself, or many that raced. What comes after it (the buffers back into the
-- table, references mended, the event of the journal) is to be shown over this alone.
use Rattle.std.specs.Prelude.{◌≡◌, ℕ, ◌+◌, ◌<◌, ◌≤◌, ◌⊎◌, Bool, true, IsTrue, List, [], Option, Some, length, map, min, slice_index_or}
use Rattle.std.specs.List.{sum_by}
use Rattle.bal_layout.specs.Addresses.{offset_of, region_of}
use Rattle.bal_layout.specs.Shape.{largest_of}
use Rattle.bal_core.specs.declared.event.Decision.{Decision}
use Rattle.bal_core.specs.declared.event.Decision.TheVariants as decision
use Rattle.bal_core.specs.declared.row.Told.{Told}
use Rattle.bal_core.specs.declared.row.Drawn.{Drawn}
use Rattle.bal_core.specs.World.{At, IsWorld, Row, State, World, size_of}
use Rattle.bal_core.specs.Steps.{told, used}
use Rattle.bal_core.specs.Core.{Fits, Wins}
use Rattle.bal_core.specs.Rest.{EndsWalk}

-- the graph with its names, the roots and the pool; by worker, the objects that it decided and the regions that it drew, each in
-- order; how many regions of the pool were drawn; and why it was aborted, if it was
pub record Evacuation : Type 0 where
  pub world : World
  pub won : List (List Told)
  pub drawn : List (List Drawn)
  pub taken : ℕ
  pub wished : List Bool
  pub drained : Bool

-- the evacuation that a state shows
abbrev pub evacuation_of : State → Evacuation
evacuation_of s = record {
  world = s.world;
  won = map (λ (row : Row). row.won) s.crew;
  drawn = map (λ (row : Row). row.drawn) s.crew;
  taken = min s.counter (length s.world.pool);
  wished = s.wished;
  drained = s.drained;
}

abbrev pub won_by : Evacuation → ℕ → List Told
won_by e n = slice_index_or e.won n []

abbrev pub drawn_by : Evacuation → ℕ → List Drawn
drawn_by e n = slice_index_or e.drawn n []

-- an object survives: a worker decided it, as its i-th
abbrev pub Survives : Evacuation → ℕ → ℕ → ℕ → Decision → Type 0
Survives e n i k d = At (won_by e n) i (told k d)

-- a region of survivors: a worker drew it, as its i-th
abbrev pub Receives : Evacuation → ℕ → ℕ → Drawn → Type 0
Receives e n i drawn = At (drawn_by e n) i drawn

-- the words that were copied into a region that a worker drew
abbrev pub filled : Evacuation → ℕ → Drawn → ℕ
filled e n drawn = used e.world drawn.region (won_by e n)

-- the abort was raised
abbrev pub IsAborted : Evacuation → Type 0
IsAborted e = IsTrue e.drained ⊎ (n : ℕ) × At e.wished n true

-- two pieces of the heap have no word in common
abbrev pub AreApart : ℕ → ℕ → ℕ → ℕ → Type 0
AreApart a size b other = (a + size ≤ b) ⊎ (b + other ≤ a)

-- a worker copied an object over this word of a region
pub record IsCopyOver (s : State) (n region word : ℕ) : Type 0 where
  pub place : ℕ
  pub object : ℕ
  pub address : ℕ
  pub won : Wins s n place object (decision.Copied address)
  pub here : region_of s.world.shape address ≡ region
  pub begins : offset_of s.world.shape address ≤ word
  pub ends : word < offset_of s.world.shape address + size_of s.world object

-- exactly the objects that a walk from a root reaches survive, each by one decision
pub record AreSurvivors (e : Evacuation) : Type 0 where
  pub kept : (k : ℕ) → EndsWalk e.world k → (n : ℕ) × (i : ℕ) × (d : Decision) × Survives e n i k d
  pub walked : (n i k : ℕ) (d : Decision) → Survives e n i k d → EndsWalk e.world k
  pub once : (n m i j k : ℕ) (d f : Decision) → Survives e n i k d → Survives e m j k f → (n ≡ m) × (i ≡ j)

-- each copy lies in a region that its worker drew for its age, from the first word on without gaps, and no two copies overlap
pub record AreCopies (e : Evacuation) : Type 0 where
  pub fits : (n i k address : ℕ) → Survives e n i k (decision.Copied address) → Fits e.world (drawn_by e n) (won_by e n) i k address
  pub apart : (n m i j k l a b : ℕ) → Survives e n i k (decision.Copied a) → Survives e m j l (decision.Copied b)
      → (k ≡ l → ⊥) → AreApart a (size_of e.world k) b (size_of e.world l)

-- the first regions of the pool were drawn, each by one worker, once; no region of survivors has more words than a region has
pub record AreRegions (e : Evacuation) : Type 0 where
  pub taken : e.taken ≤ length e.world.pool
  pub drawn : (n i : ℕ) (d : Drawn) → Receives e n i d → (d.ordinal < e.taken) × At e.world.pool d.ordinal d.region × (d.age ≤ 24)
  pub all : (o : ℕ) → o < e.taken → (n : ℕ) × (i : ℕ) × (d : Drawn) × Receives e n i d × (d.ordinal ≡ o)
  pub once : (n m i j : ℕ) (d f : Drawn) → Receives e n i d → Receives e m j f → d.region ≡ f.region → (n ≡ m) × (i ≡ j)
  pub room : (n i : ℕ) (d : Drawn) → Receives e n i d → filled e n d ≤ e.world.shape.words

-- an object is marked only if the abort was raised, a wish is that of a worker of the crew, and the pool is called drained only if
-- all its regions were drawn
pub record AreCauses (e : Evacuation) : Type 0 where
  pub marked : (n i k : ℕ) → Survives e n i k decision.Marked → IsAborted e
  pub wished : (n : ℕ) → At e.wished n true → n < length e.won
  pub drained : IsTrue e.drained → e.taken ≡ length e.world.pool

-- each worker of the crew has its list of objects and its list of regions
pub record IsEvacuated (e : Evacuation) : Type 0 where
  pub world : IsWorld e.world
  pub crew : length e.drawn ≡ length e.won
  pub survivors : AreSurvivors e
  pub copies : AreCopies e
  pub regions : AreRegions e
  pub causes : AreCauses e

-- What careful workers keep beside it.

-- of the regions that a worker drew for one age, each but the last is so full that it has no room for a largest object
pub record ArePackedTight (e : Evacuation) : Type 0 where
  pub tight : (n i j : ℕ) (d f : Drawn) → Receives e n i d → Receives e n j f → i < j → d.age ≡ f.age
      → e.world.shape.words < filled e n d + largest_of e.world.shape

-- how many objects a worker copied
abbrev pub one_if_copied : Decision → ℕ
one_if_copied (decision.Copied address) = 1
one_if_copied decision.Marked = 0

abbrev pub copies_by : Evacuation → ℕ → ℕ
copies_by e n = sum_by (λ t. one_if_copied t.decision) (won_by e n)

-- no worker copies more objects than the limit, if there is one, and one wishes to abort only after it copied so many
pub record IsWithinLimit (limit : Option ℕ) (e : Evacuation) : Type 0 where
  pub copied : (n most : ℕ) → limit ≡ Some most → copies_by e n ≤ most
  pub wished : (n : ℕ) → At e.wished n true → limit ≡ Some (copies_by e n)

-- the abort was raised only if there was more to copy: some object stayed where it lay
pub record LeavesSome (e : Evacuation) : Type 0 where
  pub marked : IsAborted e → (n : ℕ) × (i : ℕ) × (k : ℕ) × Survives e n i k decision.Marked

-- each region that was drawn has a copy. So it is with one worker, which draws only when an object is about to go there; of
-- many that race, one may lose the object for which it drew
pub record AreFilled (e : Evacuation) : Type 0 where
  pub filled : (n i : ℕ) (d : Drawn) → Receives e n i d → 1 ≤ filled e n d
