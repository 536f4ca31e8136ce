-- Which graph the words of a heap show: references followed to the names of what they lead to.
use Rattle.std.specs.Prelude.{◌≡◌, ℕ, List, map, All, Option, Some, None, IfSome, IsSome, replicate, slice_set}
use Rattle.std.specs.Option.{option_and_then, option_map}
use Rattle.bal_layout.specs.declared.name.Name.{Name}
use Rattle.bal_layout.specs.declared.name.Kind.{Kind}
use Rattle.bal_layout.specs.declared.name.Kind.TheVariants.{Plain, Array, Spine}
use Rattle.bal_layout.specs.Graph.{Object, Graph}
use Rattle.bal_layout.specs.References.{target_of}
use Rattle.bal_words.specs.Things.{Thing, Things}

-- the name of the object to which a reference word leads
abbrev pub name_behind : Things → ℕ → Option Name
name_behind things word = option_map (λ x. x.name) (option_and_then things (target_of word))

-- the word is null, or an object starts where it leads
abbrev pub Finds : Things → ℕ → Type 0
Finds things word = IfSome (target_of word) (λ address. IsSome (things address))

-- a program sees no difference between an array in one piece and a spine
abbrev pub kind_seen : Kind → Kind
kind_seen Plain = Plain
kind_seen Array = Array
kind_seen Spine = Array

-- the object as a program sees it
abbrev pub object_of : Things → Thing → Object
object_of things x = record { kind = kind_seen x.kind; refs = map (name_behind things) x.refs; values = x.values }

-- the graph's objects are just what starts in the heap: no name starts twice, and no reference dangles
pub record Shows (things : Things) (graph : Graph) : Type 0 where
  pub each : (a : ℕ) (x : Thing) → things a ≡ Some x → graph x.name ≡ Some (object_of things x)
  pub every : (n : Name) (o : Object) → graph n ≡ Some o → (a : ℕ) × ((x : Thing) × (things a ≡ Some x) × (x.name ≡ n))
  pub once : (a b : ℕ) (x y : Thing) → things a ≡ Some x → things b ≡ Some y → x.name ≡ y.name → a ≡ b
  pub found : (a : ℕ) (x : Thing) → things a ≡ Some x → All (Finds things) x.refs

-- these words, of registers and globals, hold the objects with these names
pub record ShowsRoots (things : Things) (words : List ℕ) (names : List (Option Name)) : Type 0 where
  pub each : map (name_behind things) words ≡ names
  pub found : All (Finds things) words

-- an object with another reference, or another number
abbrev pub with_reference : ℕ → Option Name → Object → Object
with_reference slot name o = record o { refs = slice_set o.refs slot name }

abbrev pub with_number : ℕ → ℕ → Object → Object
with_number slot number o = record o { values = slice_set o.values slot number }

-- a new object: its references are null and its numbers zero
abbrev pub blank_object : Kind → ℕ → ℕ → Object
blank_object kind refs values = record { kind = kind_seen kind; refs = replicate refs None; values = replicate values 0 }
