-- Numbers as texts spell them.
use Rattle.std.specs.Prelude.{◌≡◌, ℕ, ◌<◌, ◌^◌, List, take_while}
use Rattle.std.specs.Char.{is_ascii_digit}
use Rattle.std.specs.Fmt.{decimal}

-- the word is n in decimal digits, and n fits 64 bits
abbrev pub SpellsNumber : List ℕ → ℕ → Type 0
SpellsNumber word n = (n < 2 ^ 64) × (word ≡ decimal n)

-- the digits with which a text begins
abbrev pub leading_digits : List ℕ → List ℕ
leading_digits text = take_while is_ascii_digit text
