-- A row's plain line: the fields of its record as they are, with commas between them, and a line feed or the text's end.
use Rattle.std.specs.Prelude.{◌≡◌, ◌++◌, ◌∷◌, ◌⊎◌, ◌<◌, ◌^◌, [], ℕ, List, map}
use Rattle.std.specs.List.{AllByRecursion, flat_map}
use Rattle.std.specs.Fmt.{decimal}
use Rattle.csv.specs.Machine.{line_feed}
use Rattle.csv.specs.Writing.{comma}
use Rattle.bal_model.specs.declared.row.Row.{Row}
use Rattle.bal_model.specs.Spelling.{op_numbers, op_word}

-- fields, each after a comma
abbrev pub behind_commas : List (List ℕ) → List ℕ
behind_commas cells = flat_map (λ cell. comma ∷ cell) cells

-- a text goes on with a line's end, and after that with the rest: a line feed ends a line, and the end of the text does
abbrev pub EndsLine : List ℕ → List ℕ → Type 0
EndsLine text rest = (text ≡ line_feed ∷ rest) ⊎ ((text ≡ []) × (rest ≡ []))

-- a text begins with a row's plain line, whose numbers fit 64 bits, and goes on with the rest
pub record BeginsWithLine (text : List ℕ) (r : Row) (rest : List ℕ) : Type 0 where
  pub end : List ℕ
  pub line : text ≡ op_word r.op ++ behind_commas (map decimal (r.thread ∷ op_numbers r.op)) ++ end
  pub ends : EndsLine end rest
  pub numbers : AllByRecursion (λ n. n < 2 ^ 64) (r.thread ∷ op_numbers r.op)
