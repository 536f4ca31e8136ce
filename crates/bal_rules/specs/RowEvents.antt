-- What a row's own event does to the board: the plain step, and the placement of what was allocated.
use Rattle.std.specs.Prelude.{ℕ, List, [], ◌∷◌, slice_set, Option, Some, None, if◌then◌else◌}
use Rattle.bal_layout.specs.declared.name.Name.{Name}
use Rattle.bal_layout.specs.declared.geometry.Want.{Want}
use Rattle.bal_layout.specs.Geometry.{size_of_plain}
use Rattle.bal_layout.specs.Shape.{Shape}
use Rattle.bal_model.specs.declared.config.Config.{Config}
use Rattle.bal_model.specs.declared.row.Op.{Op}
use Rattle.bal_model.specs.declared.row.Op.TheVariants as op
use Rattle.bal_model.specs.declared.row.Reply.{Reply}
use Rattle.bal_model.specs.declared.row.Reply.TheVariants as reply
use Rattle.bal_layout.specs.Regions.{is_free, region_at, region_with_object}
use Rattle.bal_layout.specs.declared.region_state.RegionState.{RegionState}
use Rattle.bal_layout.specs.declared.region_state.Role.TheVariants as roles
use Rattle.bal_rules.specs.Board.{Board, with_placed}
use Rattle.bal_model.specs.Entries.{Spot}
use Rattle.bal_model.specs.Plain.{graph_after}
use Rattle.bal_model.specs.Sizes.{size_of_array}

-- what a row asks of the heap, if it allocates
abbrev pub want_of : Shape → Op → Option Want
want_of s (op.New register refs values) = Some (record { words = size_of_plain refs values; leaves = 0 })
want_of s (op.Arr register len) = Some (size_of_array s len)
want_of s o = None

-- regions that become the leaves of an array
abbrev pub with_leaves : List ℕ → List RegionState → List RegionState
with_leaves [] regions = regions
with_leaves (q ∷ qs) regions = with_leaves qs (slice_set regions q (record (region_at regions q) { role = roles.Leaf }))

-- an object becomes present. A region that was free is then the current one
abbrev pub board_with_object : Name → Want → Spot → Board → Board
board_with_object x w spot b = record {
  plain = b.plain;
  present = with_placed (record { name = x; region = spot.region; leaves = spot.leaves }) b.present;
  regions = with_leaves spot.leaves (slice_set b.regions spot.region (region_with_object w.words (region_at b.regions spot.region)));
  current = if is_free (region_at b.regions spot.region).role then Some spot.region else b.current;
  counter = b.counter;
  cycle = b.cycle;
}

-- the board after a row: what asked for room, got a place and replied a name was allocated there
abbrev pub board_after_reply : Option Want → Option Spot → Reply → Board → Board
board_after_reply None place r b = b
board_after_reply (Some w) None r b = b
board_after_reply (Some w) (Some spot) (reply.Name x) b = board_with_object x w spot b
board_after_reply (Some w) (Some spot) r b = b

abbrev pub after_row : Config → Board → ℕ → Op → Reply → Option Spot → Board
after_row c b t o r p = board_after_reply (want_of c.geometry o) p r (record b { plain = graph_after b.plain t o r })
