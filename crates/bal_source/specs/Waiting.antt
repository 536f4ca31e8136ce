-- How many bytes wait before a sink at most.
use Rattle.std.specs.Prelude.{ℕ, ◌^◌}

-- a buffer has room for so many
abbrev pub buffer_bytes : ℕ
buffer_bytes = 2 ^ 16
