-- Words that were written, with the zeros that stand after them.
use Rattle.std.proofs.Common.{◌≡◌, ℕ, ◌+◌, ◌-◌, ◌<◌, ◌≤◌, inl, inr, List, ◌++◌, length, take, drop, set, get_or, replicate, ap, sym, ◌∙◌, arith, append_assoc, length-append, length-drop, length-set}
use Rattle.std.proofs.Math.Seq.{drop-append-add, get_or-append_right}
use Rattle.std.proofs.lemmas.Bool.{cases_lt}
use Rattle.std.proofs.lemmas.List.{append-nil, drop-append-le, drop-replicate, get_or-replicate, get_or_append_left, get_or_past, length-replicate, replicate-append-replicate, set-append_left, take-append-le}
use Rattle.bal_base.specs.Filling.{grown, padded}

-- they are so many
pub length-padded : (room : ℕ) (words : List ℕ) → length words ≤ room → length (padded room words) ≡ room
unfolding grown
length-padded room words within =
    omega (arith, within, length-append words (replicate {A = ℕ} (room - length words) 0), length-replicate {A = ℕ} (room - length words) 0)

-- or more, if more were written
pub length-grown : (room : ℕ) (words : List ℕ) → (room ≤ length (padded room words)) × (length words ≤ length (padded room words))
unfolding grown
length-grown room words =
    let long = length-append words (replicate {A = ℕ} (room - length words) 0) in
    let zeros = length-replicate {A = ℕ} (room - length words) 0 in
    (omega (arith, long, zeros), omega (arith, long, zeros))

-- and no more, if the place is large enough
pub grown-within : (room end : ℕ) (words : List ℕ) → end ≤ room → length words ≤ room → length (padded end words) ≤ room
unfolding grown
grown-within room end words less within =
    omega (arith, less, within, length-append words (replicate {A = ℕ} (end - length words) 0), length-replicate {A = ℕ} (end - length words) 0)

-- a word is read as if all stood there
pub get_or-padded : (room : ℕ) (words : List ℕ) (i : ℕ) → get_or (padded room words) i 0 ≡ get_or words i 0
unfolding grown
get_or-padded room words i = elim (cases_lt i (length words)) [
  | inl inside ↦ get_or_append_left words (replicate (room - length words) 0) 0 i inside
  | inr after ↦ get_or-append_right words (replicate (room - length words) 0) i 0 after
      ∙ (get_or-zeros (room - length words) (i - length words) ∙ sym (get_or_past words i 0 after))
]
  where
    get_or-zeros : (n k : ℕ) → ◌≡◌ {A = ℕ} (get_or (replicate n 0) k 0) 0
    get_or-zeros n k = elim (cases_lt k n) [
      | inl inside ↦ get_or-replicate n k 0 0 inside
      | inr after ↦ get_or_past (replicate n 0) k 0 (omega (arith, after, length-replicate {A = ℕ} n 0))
    ]

-- and a part of what was written
pub part-padded : (room : ℕ) (words : List ℕ) (at size : ℕ) → at + size ≤ length words → take size (drop at (padded room words)) ≡ take size (drop at words)
unfolding grown
part-padded room words at size within =
    let zeros : List ℕ = replicate (room - length words) 0 in
    ap (take size) (drop-append-le at words zeros (omega (arith, within)))
    ∙ take-append-le size (drop at words) zeros (omega (arith, within, length-drop at words))

-- zeros after zeros
pub zeros-joined : (n m k : ℕ) → n + m ≡ k → replicate {A = ℕ} n 0 ++ replicate m 0 ≡ replicate k 0
zeros-joined n m k all = replicate-append-replicate n m 0 ∙ ap (λ j. replicate j 0) all

-- and zeros without the first of them
pub zeros-left : (m n k : ℕ) → n - m ≡ k → drop m (replicate {A = ℕ} n 0) ≡ replicate k 0
zeros-left m n k left = drop-replicate m n 0 ∙ ap (λ j. replicate j 0) left

-- zeros that are written after them change nothing
pub padded-grown : (room end : ℕ) (words : List ℕ) → end ≤ room → padded room (padded end words) ≡ padded room words
unfolding grown
padded-grown room end words within =
    let n = end - length words in
    let zeros : List ℕ = replicate n 0 in
    let left = room - length (words ++ zeros) in
    let rest : n + left ≡ room - length words = omega (arith, within, length-replicate {A = ℕ} n 0, length-append words zeros) in
    append_assoc words zeros (replicate left 0) ∙ ap (λ zs. words ++ zs) (zeros-joined n left (room - length words) rest)

-- nothing is missing
pub grown-all : {T : Type 0} (end : ℕ) (item : T) (items : List T) → end ≤ length items → grown end item items ≡ items
unfolding grown
grown-all end item items all =
    let none : end - length items ≡ 0 = omega (arith, all) in
    ap (λ n. items ++ replicate n item) none ∙ append-nil items

-- one of them is written
pub padded-set : (room : ℕ) (words : List ℕ) (i word : ℕ) → i < length words → padded room (set words i word) ≡ set (padded room words) i word
unfolding grown
padded-set room words i word within =
    ap (λ n. set words i word ++ replicate (room - n) 0) (length-set words i word)
    ∙ sym (set-append_left words (replicate (room - length words) 0) i word within)

-- after what was written are zeros alone
pub drop-padded : (end : ℕ) (words : List ℕ) (n : ℕ) → length words ≤ n → drop n (padded end words) ≡ replicate (end - n) 0
unfolding grown
drop-padded end words n after =
    let zeros : List ℕ = replicate (end - length words) 0 in
    let place : n ≡ length words + (n - length words) = omega (arith, after) in
    let left : end - length words - (n - length words) ≡ end - n = omega (arith, after) in
    ap (λ i. drop i (words ++ zeros)) place
    ∙ (drop-append-add words zeros (n - length words) ∙ zeros-left (n - length words) (end - length words) (end - n) left)
