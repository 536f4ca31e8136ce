-- How the marked objects are kept: in the order of marking, and beside it as a bit for each address.
use Rattle.std.specs.Prelude.{◌≡◌, ℕ, ◌+◌, ◌/◌, ◌≤◌, length}
use Rattle.bal_base.specs.Bits.{is_member}
use Rattle.bal_layout.specs.Regions.{is_in}
use Rattle.bal_table.specs.Marks.{Marked, IsMarked}
use Rattle.bal_table.specs.declared.marks.Marks.TheInside.{Inside}

abbrev pub marked_of : Inside → Marked
marked_of a = record { words = a.words; order = a.order.list; taken = a.taken }

-- the bits are those of the marked addresses, and there is room for as many as there can be objects: each has two words at
-- least
pub record AreKept (a : Inside) : Type 0 where
  pub marked : IsMarked (marked_of a)
  pub each : (n : ℕ) → is_member a.bits.members n ≡ is_in n a.order.list
  pub bits : a.words ≤ a.bits.room
  pub room : a.words / 2 ≤ length a.order.list + a.order.spare
