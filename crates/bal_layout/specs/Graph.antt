-- Objects as a program sees them: by name, with no addresses.
use Rattle.std.specs.Prelude.{ℕ, List, Option}
use Rattle.bal_layout.specs.declared.name.Name.{Name}
use Rattle.bal_layout.specs.declared.name.Kind.{Kind}

-- what an object is, whom it refers to, and its numbers
pub record Object : Type 0 where
  pub kind : Kind
  pub refs : List (Option Name)
  pub values : List ℕ

-- the objects that there are, by name
abbrev pub Graph : Type 0
Graph = Name → Option Object
