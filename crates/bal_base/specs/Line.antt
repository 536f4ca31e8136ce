-- How many bytes a line that grows at its front has room for, and how many a number takes.
use Rattle.std.specs.Prelude.{ℕ}

abbrev pub most_bytes : ℕ
most_bytes = 512

-- a number of 64 bits has at most so many digits
abbrev pub number_bytes : ℕ
number_bytes = 20
