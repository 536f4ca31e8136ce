-- What a row asks of the heap, if it allocates.
use Rattle.std.specs.Prelude.{◌≡◌, ◌<◌, ◌^◌, Option, Some, None}
use Rattle.bal_eden.specs.Room.{want_of_kind}
use Rattle.bal_layout.specs.Geometry.{size_of_plain}
use Rattle.bal_layout.specs.Graph.{Object}
use Rattle.bal_layout.specs.Header.{MayHaveValues}
use Rattle.bal_layout.specs.Shape.{Shape}
use Rattle.bal_layout.specs.Sizes.{size_of_array}
use Rattle.bal_layout.specs.declared.name.Kind.TheVariants.{Plain, Array, Spine}
use Rattle.bal_model.specs.declared.row.Op.{Op}
use Rattle.bal_model.specs.declared.row.Op.TheVariants as op
use Rattle.bal_words.specs.Shown.{blank_object}
use Rattle.bal_heap.specs.declared.request.Request.{Request}

abbrev pub request_of : Shape → Op → Option Request
request_of s (op.New register refs values) =
    Some (record { register = register; kind = Plain; refs = refs; values = values; want = record { words = size_of_plain refs values; leaves = 0 } })
request_of s (op.Arr register len) = Some (record { register = register; kind = Array; refs = len; values = 0; want = size_of_array s len })
request_of s o = None

-- the object that is asked for
abbrev pub requested : Request → Object
requested q = blank_object q.kind q.refs q.values

-- a register takes an object in one piece, and what it asks for is what such an object takes
pub record IsRequest (s : Shape) (q : Request) : Type 0 where
  pub register : q.register < 32
  pub want : want_of_kind s q.kind q.refs q.values ≡ Some q.want
  pub one_piece : q.want.leaves ≡ 0
  pub no_spine : q.kind ≡ Spine → ⊥
  pub refs : q.refs < 2 ^ 24
  pub values : MayHaveValues q.kind q.values
