-- The two words that an object begins with, and what its header says of its size.
use Rattle.std.specs.Prelude.{◌≡◌, Bool, ℕ, ◌+◌, ◌*◌, ◌/◌, ◌%◌, ◌^◌, ◌<◌, ◌≤◌, ◌==◌, ◌&&◌, Option, Some, None, if◌then◌else◌, nat_lt}
use Rattle.bal_layout.specs.declared.header.Header.{Header}
use Rattle.bal_layout.specs.declared.name.Kind.{Kind}
use Rattle.bal_layout.specs.declared.name.Kind.TheVariants.{Plain, Array, Spine}
use Rattle.bal_layout.specs.Sizes.{leaves_in}

-- what stands for a kind in the first word
abbrev pub kind_number : Kind → ℕ
kind_number Plain = 1
kind_number Array = 2
kind_number Spine = 3

-- so many values may an object of this kind have: an array has none
abbrev pub MayHaveValues : Kind → ℕ → Type 0
MayHaveValues Plain values = values < 2 ^ 24
MayHaveValues Array values = values ≡ 0
MayHaveValues Spine values = values ≡ 0

-- the limits of a header
pub record IsHeader (h : Header) : Type 0 where
  pub refs : h.refs < 2 ^ 24
  pub values : MayHaveValues h.kind h.values
  pub thread : h.name.thread < 32
  pub first_ordinal : 1 ≤ h.name.ordinal
  pub last_ordinal : h.name.ordinal < 2 ^ 32

-- the first word has the kind and the numbers of references and values, the second the name
abbrev pub first_word : Header → ℕ
first_word h = kind_number h.kind + 256 * h.refs + 2 ^ 32 * h.values

abbrev pub second_word : Header → ℕ
second_word h = 2 ^ 32 * h.name.thread + h.name.ordinal

-- these two words are the header's
pub record IsHeaderOf (h : Header) (first second : ℕ) : Type 0 where
  pub limits : IsHeader h
  pub first_is : first_word h ≡ first
  pub second_is : second_word h ≡ second

-- the kind that a number stands for
abbrev pub kind_of_number : ℕ → Option Kind
kind_of_number n = if n == 1 then Some Plain else if n == 2 then Some Array else if n == 3 then Some Spine else None

-- whether an object of this kind may have so many values
abbrev pub may_have_values : Kind → ℕ → Bool
may_have_values Plain values = nat_lt values (2 ^ 24)
may_have_values Array values = values == 0
may_have_values Spine values = values == 0

-- the header with these words, by division, where one has them
abbrev pub header_by : ℕ → ℕ → Option Kind → Option Header
header_by first second None = None
header_by first second (Some kind) =
    if may_have_values kind (first / 2 ^ 32) && nat_lt (second / 2 ^ 32) 32 && nat_lt 0 (second % 2 ^ 32)
    then Some (record {
      kind = kind;
      refs = first / 256 % 2 ^ 24;
      values = first / 2 ^ 32;
      name = record { thread = second / 2 ^ 32; ordinal = second % 2 ^ 32 };
    })
    else None

unfoldable pub header_of : ℕ → ℕ → Option Header
header_of first second = header_by first second (kind_of_number (first % 256))

-- the words of an object in its region, where a region has so many, its header and name included: a spine has a word for
-- each leaf and none for its references, which lie in the leaves
abbrev pub size_of_parts : ℕ → Kind → ℕ → ℕ → ℕ
size_of_parts words Plain refs values = 2 + refs + values
size_of_parts words Array refs values = 2 + refs + values
size_of_parts words Spine refs values = 2 + leaves_in words refs

abbrev pub size_in : ℕ → Header → ℕ
size_in words h = size_of_parts words h.kind h.refs h.values
