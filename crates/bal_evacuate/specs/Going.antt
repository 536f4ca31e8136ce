-- What each step of the evacuation changes, and what holds between any two steps.
use Rattle.std.specs.Prelude.{◌≡◌, ℕ, ◌+◌, ◌-◌, ◌^◌, ◌<◌, ◌≤◌, ◌==◌, Bool, false, IsTrue, is_none, is_some, List, [], ◌∷◌, ◌++◌, length, drop, replicate, Option, Some, None, if◌then◌else◌, slice_set}
use Rattle.std.specs.List.{sum_by}
use Rattle.bal_layout.specs.declared.name.Abort.{Abort}
use Rattle.bal_layout.specs.declared.name.Abort.TheVariants as abort
use Rattle.bal_layout.specs.Shape.{IsShape, Shape}
use Rattle.bal_core.specs.declared.event.CoreEvent.{CoreEvent}
use Rattle.bal_core.specs.declared.event.Decision.{Decision}
use Rattle.bal_core.specs.declared.event.Decision.TheVariants as decision
use Rattle.bal_core.specs.declared.row.Told.{Told}
use Rattle.bal_core.specs.Core.{IsCore}
use Rattle.bal_core.specs.Finished.{one_if_copied}
use Rattle.bal_core.specs.Steps.{after_all, is_reached, told}
use Rattle.bal_core.specs.World.{At, Graph, slots_in}
use Rattle.bal_region.specs.Land.{Land}
use Rattle.bal_dest.specs.Buffers.{Buffers, Reserves, land_at, no_buffers, wants_region, with_copy, with_region}
use Rattle.bal_evacuate.specs.Course.{Course, decision_of, is_dry, is_wish, state_of}
use Rattle.bal_evacuate.specs.Plan.{IsNextFit, IsStuck, MayEvacuate, Plan, land_with_copies, pooled, world_for}

-- nothing was done yet, and there is room for so many decisions
pub record IsBegun (s : Shape) (count : ℕ) (pool : List Land) (c : Course) : Type 0 where
  pub few : count < 2 ^ 32
  pub words : c.words ≡ replicate count None
  pub won : c.won ≡ []
  pub room : count ≤ c.room
  pub copied : c.copied ≡ 0
  pub buffers : c.buffers ≡ no_buffers s (length pool)
  pub spares : c.spares ≡ pool
  pub cause : c.cause ≡ None

-- an evacuation by this plan is ready to run
pub record IsReady (p : Plan) (c : Course) : Type 0 where
  pub may : MayEvacuate p
  pub shape : IsShape p.shape
  pub begun : IsBegun p.shape (length p.graph.ages) p.pool c

-- Changes.

abbrev pub raised : Course → Abort → Course
raised c cause = record c { cause = Some cause }

abbrev pub decided : Course → ℕ → Decision → Course
decided c k d = record c { words = slice_set c.words k (Some d); won = c.won ++ told k d ∷ []; room = c.room - 1 }

-- an object was copied to an address, for which words were reserved
abbrev pub copied_to : Course → ℕ → ℕ → List ℕ → Buffers → Course
copied_to c k address words reserved =
    record (decided c k (decision.Copied address)) { copied = c.copied + 1; buffers = with_copy reserved words }

-- an object of these words was copied behind what was copied for its age before
pub record Copies (before after : Course) (k age : ℕ) (words : List ℕ) : Type 0 where
  pub address : ℕ
  pub reserved : Buffers
  pub reserves : Reserves before.buffers reserved age (length words) address
  pub exact : after ≡ copied_to before k address words reserved

-- so many were copied as may be
abbrev pub is_limit : Option ℕ → ℕ → Bool
is_limit None copied = false
is_limit (Some most) copied = most == copied

-- the next region of the pool is drawn for an age, or none is left
abbrev pub after_draw : Course → ℕ → List Land → Course
after_draw c age [] = raised c abort.Drained
after_draw c age (l ∷ spares) = record c { buffers = with_region c.buffers age l; spares = spares }

-- room is sought for an object of this age and size, unless the abort is raised: it is raised at the limit, and where a region
-- is wanted and none is left
abbrev pub after_try : Option Abort → Course → Option ℕ → ℕ → ℕ → Course
after_try (Some cause) c limit age size = c
after_try None c limit age size =
    if is_limit limit c.copied then raised c (abort.Wished 0)
    else if wants_region c.buffers age size then after_draw c age c.spares
    else c

abbrev pub tried : Course → Option ℕ → ℕ → ℕ → Course
tried c limit age size = after_try c.cause c limit age size

-- What holds.

abbrev pub open_words : List (Option Decision) → ℕ
open_words words = sum_by (λ (w : Option Decision). if is_none w then 1 else 0) words

abbrev pub copies_in : List Told → ℕ
copies_in won = sum_by (λ (t : Told). one_if_copied t.decision) won

-- the first objects were copied, so many, and all others are marked: none is before the abort is raised
pub record AreSplit (won : List Told) (copied : ℕ) (cause : Option Abort) : Type 0 where
  pub copies : (i k address : ℕ) → At won i (told k (decision.Copied address)) → i < copied
  pub marks : (i k : ℕ) → At won i (told k decision.Marked) → copied ≤ i
  pub few : copied ≤ length won
  pub calm : cause ≡ None → length won ≡ copied

-- between any two events: the core's invariant holds; each region that was drawn has just its copies; those behind it in the
-- pool are as they were; each open word has room among the decisions; and no more was copied than may be
pub record IsUnderWay (p : Plan) (c : Course) : Type 0 where
  pub may : MayEvacuate p
  pub few : length p.graph.ages < 2 ^ 32
  pub shape : c.buffers.shape ≡ p.shape
  pub core : IsCore (state_of (world_for p) c)
  pub lands : (i : ℕ) → i < length c.buffers.regions → land_at c.buffers i ≡ land_with_copies p c.won (pooled p i)
  pub spares : c.spares ≡ drop (length c.buffers.regions) p.pool
  pub idle : c.buffers.reserved ≡ None
  pub left : c.buffers.room ≡ length c.spares
  pub room : open_words c.words ≤ c.room
  pub many : open_words c.words + length c.won ≡ length p.graph.ages
  pub copied : c.copied ≡ copies_in c.won
  pub most : (most : ℕ) → p.limit ≡ Some most → c.copied ≤ most
  pub wished : IsTrue (is_wish c.cause) → p.limit ≡ Some c.copied
  pub split : AreSplit c.won c.copied c.cause
  pub next : IsNextFit p c

-- between any two decisions: each region that was drawn has a copy, and if the abort is raised, then some object is marked, and
-- there is a reason
pub record IsSettled (p : Plan) (c : Course) : Type 0 where
  pub filled : (i : ℕ) → i < length c.buffers.regions → 1 ≤ (land_at c.buffers i).used
  pub marked : IsTrue (is_some c.cause) → (i : ℕ) × (k : ℕ) × At c.won i (told k decision.Marked)
  pub stuck : IsTrue (is_dry c.cause) → IsStuck p c

-- an evacuation of this graph with this limit is under way, by some plan
abbrev pub IsGoing : Plan → Graph → Option ℕ → Course → Type 0
IsGoing p g limit c = (p.graph ≡ g) × (p.limit ≡ limit) × IsUnderWay p c × IsSettled p c

abbrev pub IsAsked : Plan → Course → ℕ → Type 0
IsAsked p c k = IsTrue (is_reached (world_for p) c.won k)

-- the state changes by events of the core, and the decided objects only grow in number
pub record Goes (p : Plan) (before after : Course) : Type 0 where
  pub under : IsUnderWay p after
  pub events : (events : List CoreEvent) × (state_of (world_for p) after ≡ after_all events (state_of (world_for p) before))
  pub grows : (i : ℕ) (t : Told) → At before.won i t → At after.won i t
  pub settled : IsSettled p after

-- an object is decided
abbrev pub HasDecided : Course → ℕ → Type 0
HasDecided c k = IsTrue (is_some (decision_of c k))

-- each object that a slot of this one holds is decided
abbrev pub HasScanned : Graph → Course → ℕ → Type 0
HasScanned g c j = (i k : ℕ) → At (slots_in g.targets j) i (Some k) → HasDecided c k
