-- The ranges of what stands on the board after a run: how large its numbers grow, and in which regions its objects lie.
use Rattle.std.specs.Prelude.{◌≡◌, ◌≤◌, ◌<◌, ◌^◌, ℕ, List, length, IfSome}
use Rattle.std.specs.List.{AllByRecursion}
use Rattle.bal_model.specs.Entries.{Entry, executed}
use Rattle.bal_model.specs.Plain.{State, Mutator, Object, made_by}
use Rattle.bal_rules.specs.Board.{Board, Placed}
use Rattle.bal_rules.specs.Run.{done_by}

-- an object's references can be numbered by a trace, and its values have 64 bits
pub record IsObjectInRange (o : Object) : Type 0 where
  pub refs : length o.refs < 2 ^ 24
  pub values : AllByRecursion (λ (v : ℕ). v < 2 ^ 64) o.values

abbrev pub AreObjectsInRange : State → Type 0
AreObjectsInRange s = AllByRecursion (λ (m : Mutator). AllByRecursion IsObjectInRange m.made) s.mutators

-- an object and its leaves lie in regions below n
pub record IsPlacedWithin (n : ℕ) (p : Placed) : Type 0 where
  pub region : p.region < n
  pub leaves : AllByRecursion (λ (q : ℕ). q < n) p.leaves

-- there are n regions. The current one is among them, and so is each that a present object takes
pub record IsWithinRegions (n : ℕ) (b : Board) : Type 0 where
  pub count : length b.regions ≡ n
  pub current : IfSome b.current (λ (q : ℕ). q < n)
  pub placed : AllByRecursion (IsPlacedWithin n) b.present

-- no more objects were made, by each thread and in all, than rows were executed
pub record AreMadeByRows (entries : List Entry) (b : Board) : Type 0 where
  pub by_thread : (t : ℕ) → made_by b.plain t ≤ done_by t entries
  pub present : length b.present ≤ length (executed entries)
