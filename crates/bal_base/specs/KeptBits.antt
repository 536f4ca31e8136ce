-- How a set of numbers is kept: as a bit for each number.
use Rattle.std.specs.Prelude.{ℕ, ◌*◌, ◌/◌, ◌%◌, ◌^◌, ◌≤◌, Bool, List, length, nat_eq, slice_index, vec_capacity}
use Rattle.std.specs.Int.{bit_at}
use Rattle.std.specs.List.{filter, range_with_len}
use Rattle.bal_base.specs.declared.bits.Bits.TheInside.{Inside}
use Rattle.bal_base.specs.Bits.{Members}

-- bit n % 64 of word n / 64 is set
abbrev pub is_set : List ℕ → ℕ → Bool
is_set words n = nat_eq (bit_at (slice_index words (n / 64)) (n % 64)) 1

-- the numbers whose bits are set
unfoldable pub members_in : List ℕ → List ℕ
members_in words = filter (is_set words) (range_with_len 0 (64 * length words))

abbrev pub members_of : Inside → Members
members_of a = record { members = members_in a.words.items; room = 64 * vec_capacity a.words }

-- each number that has a bit is below 2 ^ 32
abbrev pub AreBits : Inside → Type 0
AreBits a = length a.words.items ≤ 2 ^ 26
