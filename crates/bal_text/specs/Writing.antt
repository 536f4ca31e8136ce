-- A row's line in the pieces in which it is written and read.
use Rattle.std.specs.Prelude.{ℕ, List, [], ◌∷◌, ◌++◌, codes, map, Option, Some, None}
use Rattle.std.specs.Fmt.{decimal}
use Rattle.bal_model.specs.declared.row.Op.{Op}
use Rattle.bal_model.specs.declared.row.Reply.{Reply}
use Rattle.bal_model.specs.Entries.{Spot}
use Rattle.bal_model.specs.Spelling.{op_word, op_numbers}
use Rattle.bal_model.specs.Text.{reply_word, spaced}

-- a row's line as far as its reply
abbrev pub row_front : ℕ → ℕ → Op → Reply → List ℕ
row_front t k o r = codes "row" ++ spaced (decimal t ∷ decimal k ∷ op_word o ∷ map decimal (op_numbers o) ++ codes "=" ∷ reply_word r ∷ [])

-- the region of an allocation, without the leaves of an arraylet
abbrev pub region_words : Option Spot → List (List ℕ)
region_words None = []
region_words (Some spot) = codes "in" ∷ decimal spot.region ∷ []

-- the leaves of an allocation; another row has none
abbrev pub placed_leaves : Option Spot → List ℕ
placed_leaves None = []
placed_leaves (Some spot) = spot.leaves
