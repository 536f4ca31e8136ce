-- Whose turn it is: the rows of a trace, and how many of each thread's rows were executed.
use Rattle.std.specs.Prelude.{ℕ, ◌+◌, ◌==◌, List, [], ◌∷◌, replicate, slice_index_or, slice_set, slice_get, Option, if◌then◌else◌}
use Rattle.bal_model.specs.declared.row.Row.{Row}
use Rattle.bal_rules.specs.Run.{rows_of}

-- `done` has a number for each of the 32 threads
pub record Progress : Type 0 where
  pub rows : List Row
  pub done : List ℕ

abbrev pub untouched : List Row → Progress
untouched rows = record { rows = rows; done = replicate 32 0 }

abbrev pub done_of : Progress → ℕ → ℕ
done_of p t = slice_index_or p.done t 0

-- the next row of a thread
abbrev pub next_of : Progress → ℕ → Option Row
next_of p t = slice_get (rows_of t p.rows) (done_of p t)

-- the next row of the thread was executed
abbrev pub advanced : Progress → ℕ → Progress
advanced p t = record { rows = p.rows; done = slice_set p.done t (done_of p t + 1) }

-- the places, from n on, of a thread's rows
abbrev pub places_from : ℕ → ℕ → List Row → List ℕ
places_from n t [] = []
places_from n t (r ∷ rs) = if r.thread == t then n ∷ places_from (n + 1) t rs else places_from (n + 1) t rs
