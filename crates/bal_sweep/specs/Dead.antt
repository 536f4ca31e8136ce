-- The dead: the objects that are not marked, by their names.
use Rattle.std.specs.Prelude.{◌≡◌, ℕ, ◌↔◌, false, IsTrue, List, filter_map, length, Option, Some, None, option_map, if◌then◌else◌}
use Rattle.std.specs.List.{sum_by}
use Rattle.bal_layout.specs.Addresses.{address_in}
use Rattle.bal_layout.specs.Names.{is_among}
use Rattle.bal_layout.specs.Regions.{is_in}
use Rattle.bal_layout.specs.declared.name.Name.{Name}
use Rattle.bal_region.specs.Land.{Land}
use Rattle.bal_rules.specs.Sound.{IsAscending}
use Rattle.bal_table.specs.Table.{Table, land_at, things_of}
use Rattle.bal_words.specs.Things.{Thing, Things}

-- no two objects have one name
abbrev pub AreNamedApart : Things → Type 0
AreNamedApart things = (a b : ℕ) (x y : Thing) → things a ≡ Some x → things b ≡ Some y → x.name ≡ y.name → a ≡ b

-- how many objects start in a table
abbrev pub object_count : Table → ℕ
object_count t = sum_by (λ (l : Land). length l.starts) t.lands

-- the name of the object that starts at an address, if one does that is not marked
abbrev pub dead_at : List ℕ → Table → ℕ → Option Name
dead_at marked t a = if is_in a marked then None else option_map (λ (x : Thing). x.name) (things_of t a)

-- the names of a region's dead, by ascending address
abbrev pub dead_in : List ℕ → Table → ℕ → List Name
dead_in marked t q = filter_map (λ at. dead_at marked t (address_in t.shape q at)) (land_at t q).starts

-- an object of this name is not marked
pub record IsDead (marked : List ℕ) (t : Table) (n : Name) : Type 0 where
  pub address : ℕ
  pub thing : Thing
  pub is : things_of t address ≡ Some thing
  pub unmarked : is_in address marked ≡ false
  pub name : thing.name ≡ n

-- these are the names of the objects that are not marked, of each just once, in order
pub record AreTheDead (marked : List ℕ) (t : Table) (names : List Name) : Type 0 where
  pub ascending : IsAscending names
  pub each : (n : Name) → IsTrue (is_among n names) ↔ IsDead marked t n
