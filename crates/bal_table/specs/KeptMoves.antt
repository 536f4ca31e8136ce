-- How it is kept where moved objects went: the words as far as they were written, and beside them the addresses at which
-- they are not null.
use Rattle.std.specs.Prelude.{◌≡◌, ℕ, ◌+◌, ◌≤◌, is_some, length, nat_eq, vec_capacity}
use Rattle.std.specs.List.{IsDistinct}
use Rattle.bal_base.specs.Filling.{padded}
use Rattle.bal_layout.specs.Regions.{is_in}
use Rattle.bal_table.specs.Moves.{Forwarding, IsForwarding, moved}
use Rattle.bal_table.specs.declared.moves.Moves.TheInside.{Inside}

abbrev pub forwarding_of : Inside → Forwarding
forwarding_of a = record { words = padded a.words a.table.items }

-- each address from which an object moved is listed once, and there is room for all
pub record IsKept (a : Inside) : Type 0 where
  pub forwarding : IsForwarding (forwarding_of a)
  pub within : length a.table.items ≤ a.words
  pub words : a.words ≤ vec_capacity a.table
  pub each : (n : ℕ) → is_in n a.moved.list ≡ is_some (moved (forwarding_of a) n)
  pub apart : IsDistinct nat_eq a.moved.list
  pub room : a.words ≤ length a.moved.list + a.moved.spare
