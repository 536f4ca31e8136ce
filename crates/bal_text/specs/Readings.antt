-- What a reading is, and how readings are put together. A reading gives what stands at the front of a text, with the text
-- after it, and None where no such thing stands there.
use Rattle.std.specs.Prelude.{ℕ, zero, suc, ◌==◌, List, [], ◌∷◌, Option, Some, None, Bool, true, false, length, option_map, if◌then◌else◌}
use Rattle.std.specs.Option.{option_and_then, option_map_or, option_or}
use Rattle.bal_text.specs.Lines.{ascends}

-- what stands after these bytes, where a text begins with them
abbrev pub behind : List ℕ → List ℕ → Option (List ℕ)
behind [] text = Some text
behind (b ∷ bytes) [] = None
behind (b ∷ bytes) (c ∷ text) = if c == b then behind bytes text else None

-- a piece after these bytes
abbrev pub after : {A : Type 0} → List ℕ → (List ℕ → Option (A × List ℕ)) → List ℕ → Option (A × List ℕ)
after bytes read text = option_and_then read (behind bytes text)

-- a piece with these bytes after it
abbrev pub ended : {A : Type 0} → List ℕ → (List ℕ → Option (A × List ℕ)) → List ℕ → Option (A × List ℕ)
ended bytes read text = option_and_then (λ p. option_map (λ rest. (p.0, rest)) (behind bytes p.1)) (read text)

-- two pieces, one after the other
abbrev pub followed : {A B : Type 0} → (List ℕ → Option (A × List ℕ)) → (List ℕ → Option (B × List ℕ)) → List ℕ → Option ((A × B) × List ℕ)
followed read other text = option_and_then (λ p. option_map (λ q. ((p.0, q.0), q.1)) (other p.1)) (read text)

-- what is made of a piece
abbrev pub made : {A B : Type 0} → (A → B) → (List ℕ → Option (A × List ℕ)) → List ℕ → Option (B × List ℕ)
made f read text = option_map (λ p. (f p.0, p.1)) (read text)

-- a piece that passes a test
abbrev pub only : {A : Type 0} → (A → Bool) → (List ℕ → Option (A × List ℕ)) → List ℕ → Option (A × List ℕ)
only test read text = option_and_then (λ p. if test p.0 then Some p else None) (read text)

-- the first of some things whose spelling stands there
abbrev pub spelled : {A : Type 0} → (A → List ℕ) → List A → List ℕ → Option (A × List ℕ)
spelled spelling [] text = None
spelled spelling (x ∷ xs) text = option_or (option_map (λ rest. (x, rest)) (behind (spelling x) text)) (spelled spelling xs text)

-- as many items as stand there, up to n
abbrev pub items_upto : {A : Type 0} → ℕ → (List ℕ → Option (A × List ℕ)) → List ℕ → List A × List ℕ
items_upto zero read text = ([], text)
items_upto (suc n) read text =
    option_map_or (λ p. (p.0 ∷ (items_upto n read p.1).0, (items_upto n read p.1).1)) (read text) ([], text)

abbrev pub items_at : {A : Type 0} → (List ℕ → Option (A × List ℕ)) → List ℕ → List A × List ℕ
items_at read text = items_upto (length text) read text

abbrev pub items : {A : Type 0} → (List ℕ → Option (A × List ℕ)) → List ℕ → Option (List A × List ℕ)
items read text = Some (items_at read text)

-- items that ascend
abbrev pub rising : {A : Type 0} → (A → A → Bool) → (List ℕ → Option (A × List ℕ)) → List ℕ → Option (List A × List ℕ)
rising before read text = only (ascends before) (items read) text

-- a list has an item
abbrev pub has_some : {A : Type 0} → List A → Bool
has_some [] = false
has_some (x ∷ xs) = true

-- these bytes and some items, one at least, or none of both
abbrev pub optional : {A : Type 0} → List ℕ → (List ℕ → Option (List A × List ℕ)) → List ℕ → Option (List A × List ℕ)
optional bytes read text = option_map_or (λ rest. only has_some read rest) (behind bytes text) (Some ([], text))
