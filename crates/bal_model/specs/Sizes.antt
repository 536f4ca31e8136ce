-- What objects take of the heap: words in one region, and whole regions beside them, as leaves.
use Rattle.std.specs.Prelude.{ℕ, length}
use Rattle.bal_layout.specs.declared.geometry.Want.{Want}
use Rattle.bal_layout.specs.declared.name.Kind.{Kind}
use Rattle.bal_layout.specs.declared.name.Kind.TheVariants as kind
use Rattle.bal_layout.specs.Geometry.{size_of_plain}
use Rattle.bal_layout.specs.Shape.{Shape}
pub use Rattle.bal_layout.specs.Sizes.{charge_of, leaves_for, size_of_array}
use Rattle.bal_model.specs.Plain.{Object}

-- what an object of a kind takes; in the plain graph a spine is an array
abbrev pub size_of_kind : Shape → Kind → ℕ → ℕ → Want
size_of_kind s kind.Plain refs values = record { words = size_of_plain refs values; leaves = 0 }
size_of_kind s kind.Array refs values = size_of_array s refs
size_of_kind s kind.Spine refs values = size_of_array s refs

abbrev pub size_of : Shape → Object → Want
size_of s o = size_of_kind s o.kind (length o.refs) (length o.values)
