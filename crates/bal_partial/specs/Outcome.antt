-- What is told of an evacuation, before the heap is mended.
use Rattle.std.specs.Prelude.{◌≡◌, ◌<◌, ◌^◌, ℕ, List, Option, length}
use Rattle.bal_copyfwd.specs.Moving.{copy_of}
use Rattle.bal_partial.specs.Collection.{AreSurvivorRegions, Collection, IsCollection, decisions_of, lent_by, marked_of, seen_of}
use Rattle.bal_partial.specs.declared.evacuating.Outcome.{Outcome}
use Rattle.bal_table.specs.Moves.{Forwarding, moved}
use Rattle.bal_table.specs.Table.{Table}
use Rattle.bal_told.specs.Telling.{AreTold, causes_of}

-- the forwarding table tells where the copies are, of just the objects that were copied
pub record AreMoves (x : Collection) (m : Forwarding) : Type 0 where
  pub each : (a : ℕ) → moved m a ≡ copy_of (lent_by x) (decisions_of x) a

-- the collection of which this is the outcome
abbrev pub collection_of : Table → List ℕ → Option ℕ → List ℕ → Outcome → Collection
collection_of t chosen limit held o =
    record { table = t; chosen = chosen; held = held; places = o.places.items; limit = limit; course = o.evacuated }

-- the chosen regions of a heap were evacuated, with this outcome
pub record HasEvacuated (t : Table) (chosen roots : List ℕ) (limit : Option ℕ) (m : Forwarding) (o : Outcome) : Type 0 where
  pub held : List ℕ
  pub is : IsCollection roots (collection_of t chosen limit held o)
  pub moves : AreMoves (collection_of t chosen limit held o) m
  pub marked : o.marked.list ≡ marked_of (collection_of t chosen limit held o)
  pub regions : AreSurvivorRegions (collection_of t chosen limit held o) o.regions.list
  pub told : AreTold (seen_of (collection_of t chosen limit held o)) o.kept.list
  pub few : length o.kept.list < 2 ^ 32
  pub causes : o.aborts.list ≡ causes_of (seen_of (collection_of t chosen limit held o))
