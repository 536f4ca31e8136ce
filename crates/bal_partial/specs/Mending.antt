-- What mending asks for.
use Rattle.std.specs.Prelude.{◌≡◌, ℕ, List}
use Rattle.bal_copyfwd.specs.Returned.{refilled}
use Rattle.bal_partial.specs.Collection.{AreSurvivorRegions, Collection, IsCollection, marked_of}
use Rattle.bal_partial.specs.Outcome.{AreMoves}
use Rattle.bal_table.specs.Moves.{Forwarding}
use Rattle.bal_table.specs.Table.{Table}

-- the copies are in the heap, and all lists are those of the collection
pub record MayMend (x : Collection) (u : Table) (roots : List ℕ) (m : Forwarding) (chosen marked places regions : List ℕ) : Type 0 where
  pub is : IsCollection roots x
  pub table : u ≡ refilled x.table x.course
  pub moves : AreMoves x m
  pub chosen_are : chosen ≡ x.chosen
  pub marked_are : marked ≡ marked_of x
  pub places_are : places ≡ x.places
  pub regions_are : AreSurvivorRegions x regions
