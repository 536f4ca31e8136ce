-- What holds between any two atomic steps of an evacuation, whoever takes them and in whatever order.
use Rattle.std.specs.Prelude.{◌≡◌, ℕ, ◌+◌, ◌-◌, ◌<◌, ◌≤◌, true, IsTrue, List, Some, length, take, if◌then◌else◌}
use Rattle.std.specs.List.{sum_by}
use Rattle.bal_layout.specs.Addresses.{offset_of, region_of}
use Rattle.bal_core.specs.declared.event.Decision.{Decision}
use Rattle.bal_core.specs.declared.event.Decision.TheVariants as decision
use Rattle.bal_core.specs.declared.row.Told.{Told}
use Rattle.bal_core.specs.declared.row.Drawn.{Drawn}
use Rattle.bal_core.specs.World.{At, IsWorld, Row, State, World, age_of, row_of, size_of, word_of}
use Rattle.bal_core.specs.Steps.{has_cause, is_reached, next_age, told, used}

-- a worker won an object, as its i-th, with this decision
abbrev pub Wins : State → ℕ → ℕ → ℕ → Decision → Type 0
Wins s n i k d = At (row_of s n).won i (told k d)

-- Each decided word was won by one worker, once, with that decision, and each won decision is what the word holds. Without it
-- an object could be copied twice, and two workers could tell the journal of different places.
pub record AreWonOnce (s : State) : Type 0 where
  pub held : (n i k : ℕ) (d : Decision) → Wins s n i k d → word_of s k ≡ Some d
  pub won : (k : ℕ) (d : Decision) → word_of s k ≡ Some d → (n : ℕ) × (i : ℕ) × Wins s n i k d
  pub once : (n m i j k : ℕ) (d e : Decision) → Wins s n i k d → Wins s m j k e → (n ≡ m) × (i ≡ j)

-- What a worker knows of an object is what its word holds; it knows what it won; and each object that it knows is a root, or a
-- target of one that it knew before. Without it a reference could be mended to a place where nothing is, and garbage could be
-- kept.
pub record AreKnown (s : State) : Type 0 where
  pub held : (n i k : ℕ) (d : Decision) → At (row_of s n).known i (told k d) → word_of s k ≡ Some d
  pub won : (n i k : ℕ) (d : Decision) → Wins s n i k d → (j : ℕ) × At (row_of s n).known j (told k d)
  pub reached : (n i k : ℕ) (d : Decision) → At (row_of s n).known i (told k d)
      → IsTrue (is_reached s.world (take i (row_of s n).known) k)

-- a worker drew a region, as its i-th
abbrev pub Draws : State → ℕ → ℕ → Drawn → Type 0
Draws s n i drawn = At (row_of s n).drawn i drawn

-- Each ordinal below the counter that the pool has was drawn by one worker, once, and no other was drawn. Without it two workers
-- could copy into one region.
pub record AreDrawnOnce (s : State) : Type 0 where
  pub drawn : (n i : ℕ) (d : Drawn) → Draws s n i d → (d.ordinal < s.counter) × At s.world.pool d.ordinal d.region × (d.age ≤ 24)
  pub all : (o : ℕ) → o < s.counter → o < length s.world.pool → (n : ℕ) × (i : ℕ) × (d : Drawn) × Draws s n i d × (d.ordinal ≡ o)
  pub once : (n m i j : ℕ) (d e : Drawn) → Draws s n i d → Draws s m j e → d.ordinal ≡ e.ordinal → (n ≡ m) × (i ≡ j)

-- a copy lies in a region that its worker drew for its age, directly behind what the worker copied there before, and fits there
pub record Fits (w : World) (draws : List Drawn) (won : List Told) (i k address : ℕ) : Type 0 where
  pub place : ℕ
  pub drawn : Drawn
  pub drew : At draws place drawn
  pub region : region_of w.shape address ≡ drawn.region
  pub age : drawn.age ≡ next_age (age_of w k)
  pub offset : offset_of w.shape address ≡ used w drawn.region (take i won)
  pub within : offset_of w.shape address + size_of w k ≤ w.shape.words

-- The copies in one region are those of the worker that drew it. They lie from its first word on without gaps, in the order in
-- which they were won, and have the region's age. Without it copies could overlap, and a region of survivors could not be walked
-- from object to object.
pub record ArePacked (s : State) : Type 0 where
  pub fits : (n i k address : ℕ) → Wins s n i k (decision.Copied address)
      → Fits s.world (row_of s n).drawn (row_of s n).won i k address

-- Where an object is marked, or a worker raised or saw the abort, the abort is raised; and the wish of a worker was raised by
-- that worker. Without it the journal could tell of objects that were left in place for no reason.
pub record IsRaised (s : State) : Type 0 where
  pub marked : (k : ℕ) → word_of s k ≡ Some decision.Marked → IsTrue (has_cause s)
  pub saw : (n : ℕ) → IsTrue (row_of s n).saw → IsTrue (has_cause s)
  pub raised : (n : ℕ) → IsTrue (row_of s n).raised → IsTrue (row_of s n).saw
  pub wished : (n : ℕ) → At s.wished n true → IsTrue (row_of s n).raised

-- how many workers were given no region by their last draw
abbrev pub dry_workers : List Row → ℕ
dry_workers crew = sum_by (λ (row : Row). if row.dry then 1 else 0) crew

-- As many workers were given no region as draws came after the pool's last region; and if the pool is called drained, there was
-- such a draw. Without it an evacuation could be given up while there are free regions.
pub record IsDrained (s : State) : Type 0 where
  pub dry : dry_workers s.crew ≡ s.counter - length s.world.pool
  pub drained : IsTrue s.drained → length s.world.pool < s.counter

-- the whole invariant, of a world with one to 32 workers. That each decided object ends a walk of decided objects from a root
-- follows from it
pub record IsCore (s : State) : Type 0 where
  pub world : IsWorld s.world
  pub one : 1 ≤ length s.crew
  pub most : length s.crew ≤ 32
  pub wishes : length s.wished ≡ 32
  pub words : length s.words ≡ length s.world.sizes
  pub won : AreWonOnce s
  pub known : AreKnown s
  pub drawn : AreDrawnOnce s
  pub packed : ArePacked s
  pub raised : IsRaised s
  pub drained : IsDrained s
