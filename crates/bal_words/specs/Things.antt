-- What the words of a heap say before its references are followed: at which addresses objects start, and what they are.
use Rattle.std.specs.Prelude.{◌≡◌, ℕ, List, Option, replicate, slice_set}
use Rattle.bal_layout.specs.declared.name.Name.{Name}
use Rattle.bal_layout.specs.declared.name.Kind.{Kind}

-- an object by its words: each reference is a word, zero for null and else one more than an address
pub record Thing : Type 0 where
  pub name : Name
  pub kind : Kind
  pub refs : List ℕ
  pub values : List ℕ

-- the object that starts at an address, where one does
abbrev pub Things : Type 0
Things = ℕ → Option Thing

-- a reference of it is another word
abbrev pub with_ref : ℕ → ℕ → Thing → Thing
with_ref slot word x = record x { refs = slice_set x.refs slot word }

-- one of its numbers is another
abbrev pub with_value : ℕ → ℕ → Thing → Thing
with_value slot number x = record x { values = slice_set x.values slot number }

-- all its references are others
abbrev pub with_refs : (List ℕ → List ℕ) → Thing → Thing
with_refs f x = record x { refs = f x.refs }

-- a new one: its references are null and its numbers zero
abbrev pub blank_thing : Name → Kind → ℕ → ℕ → Thing
blank_thing name kind refs values = record { name = name; kind = kind; refs = replicate refs 0; values = replicate values 0 }

-- what stands at one place is changed, and nothing else
pub record Updated {I A : Type 0} (before after : I → Option A) (place : I) (now : Option A) : Type 0 where
  pub here : after place ≡ now
  pub elsewhere : (other : I) → (other ≡ place → ⊥) → after other ≡ before other
