-- A partial collection by one worker, between its evacuation and the mending of references.
use Rattle.std.specs.Prelude.{◌≡◌, ◌⊎◌, ◌↔◌, ℕ, All, IsTrue, List, Option, Some, filter, map}
use Rattle.bal_barrier.specs.Coverage.{AreRemembered}
use Rattle.bal_barrier.specs.Flush.{LeadToObjects}
use Rattle.bal_base.specs.Bits.{IsAscending}
use Rattle.bal_choose.specs.Rows.{MayBeCollected}
use Rattle.bal_copyfwd.specs.Moving.{Decisions, is_marked_at}
use Rattle.bal_copyfwd.specs.Returned.{IsEvacuationOf, filled_numbers, lent_of}
use Rattle.bal_core.specs.Finished.{AreFilled, ArePackedTight, Evacuation, IsWithinLimit, LeavesSome}
use Rattle.bal_core.specs.Rest.{IsAtRest}
use Rattle.bal_evacuate.specs.Course.{Course, decision_of, state_of}
use Rattle.bal_evacuate.specs.Plan.{Plan, planned, shown, world_for}
use Rattle.bal_gather.specs.Gathered.{IsGathered}
use Rattle.bal_gather.specs.Lent.{Lent}
use Rattle.bal_gather.specs.Numbers.{starts_of}
use Rattle.bal_gather.specs.Objects.{graph_of}
use Rattle.bal_layout.specs.Addresses.{region_of}
use Rattle.bal_layout.specs.Regions.{free_regions, is_in}
use Rattle.bal_table.specs.Table.{Table, land_at, things_of}
use Rattle.bal_words.specs.Shown.{Finds}
use Rattle.bal_words.specs.Things.{Thing}

-- the heap before it, and the regions that were chosen; what was gathered: the objects that are held from outside by number, and
-- where the references of other regions lie that hold some; how many objects are copied at most; and what was done
pub record Collection : Type 0 where
  pub table : Table
  pub chosen : List ℕ
  pub held : List ℕ
  pub places : List ℕ
  pub limit : Option ℕ
  pub course : Course

abbrev pub lent_by : Collection → Lent
lent_by x = lent_of x.table x.chosen

-- the plan draws from all regions that are free
abbrev pub plan_of : Collection → Plan
plan_of x = planned x.table.shape (graph_of (lent_by x)) x.held (map (land_at x.table) (free_regions x.table.regions)) x.limit

-- what is seen of its end
abbrev pub seen_of : Collection → Evacuation
seen_of x = shown (plan_of x) x.course

-- what was decided of each object, by its number
abbrev pub decisions_of : Collection → Decisions
decisions_of x = decision_of x.course

-- where the objects lie that were marked, ascending
abbrev pub marked_of : Collection → List ℕ
marked_of x = filter (is_marked_at (lent_by x) (decisions_of x)) (starts_of (lent_by x))

-- How it begins.

-- these regions of a heap may be collected: the regions know of each reference from one into another, as after a flush, no
-- reference and no root dangles, and no two objects have one name
pub record MayBegin (t : Table) (chosen roots : List ℕ) : Type 0 where
  pub may : MayBeCollected t.regions chosen
  pub remembered : AreRemembered t
  pub finds : LeadToObjects t
  pub held : All (Finds (things_of t)) roots
  pub named : (a b : ℕ) (x y : Thing) → things_of t a ≡ Some x → things_of t b ≡ Some y → x.name ≡ y.name → a ≡ b

-- How its evacuation ends.

-- this was gathered of the heap and these roots, and one worker evacuated what can be reached from there, to the end
pub record IsCollection (roots : List ℕ) (x : Collection) : Type 0 where
  pub begins : MayBegin x.table x.chosen roots
  pub gathered : IsGathered (lent_by x) roots x.held x.places
  pub evacuation : IsEvacuationOf x.table x.chosen (plan_of x) x.course
  pub rest : IsAtRest (state_of (world_for (plan_of x)) x.course)
  pub tight : ArePackedTight (seen_of x)
  pub limit : IsWithinLimit x.limit (seen_of x)
  pub leaves : LeavesSome (seen_of x)
  pub filled : AreFilled (seen_of x)

-- Where survivors lie.

-- copies went to this region, or objects were marked in it
abbrev pub HoldsSurvivors : Collection → ℕ → Type 0
HoldsSurvivors x q = IsTrue (is_in q (filled_numbers x.course)) ⊎ ((a : ℕ) × IsTrue (is_in a (marked_of x)) × (region_of x.table.shape a ≡ q))

-- these are the regions in which survivors lie, ascending
pub record AreSurvivorRegions (x : Collection) (regions : List ℕ) : Type 0 where
  pub ascending : IsAscending regions
  pub just : (q : ℕ) → IsTrue (is_in q regions) ↔ HoldsSurvivors x q
