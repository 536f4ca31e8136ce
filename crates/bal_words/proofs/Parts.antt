-- What the words of one object say once one of them is written.
use Rattle.std.proofs.Common.{◌≡◌, ℕ, suc, ◌+◌, ◌-◌, ◌<◌, ◌≤◌, List, [], ◌∷◌, take, drop, set, get_or, replicate, ap, ◌∙◌, arith, get_or-set_other}
use Rattle.std.proofs.Math.Seq.{take-set-lt}
use Rattle.std.proofs.lemmas.List.{drop-set-add, drop-set-lt, drop-replicate, take-replicate, take-set-le}
use Rattle.bal_layout.specs.declared.header.Header.{Header}
use Rattle.bal_layout.specs.Header.{header_of}
use Rattle.bal_words.specs.Pieces.{header_in, piece, spine}
use Rattle.bal_words.specs.Things.{Thing, blank_thing, with_ref, with_value}

-- an object of this header with these references and numbers
abbrev pub thing_with : Header → List ℕ → List ℕ → Thing
thing_with h refs values = record { name = h.name; kind = h.kind; refs = refs; values = values }

pub thing-same : (h : Header) (refs others values numbers : List ℕ) → refs ≡ others → values ≡ numbers → thing_with h refs values ≡ thing_with h others numbers
thing-same h refs others values numbers one two = ap (λ rs. thing_with h rs values) one ∙ ap (thing_with h others) two

pub piece-referred : (h : Header) (words : List ℕ) (slot word : ℕ) → slot < h.refs → piece h (set words (2 + slot) word) ≡ with_ref slot word (piece h words)
piece-referred h words slot word within = thing-same h _ _ _ _
    (ap (take h.refs) (drop-set-add 2 words slot word) ∙ take-set-lt h.refs (drop 2 words) slot word within)
    (ap (take h.values) (drop-set-lt (2 + h.refs) words (2 + slot) word (omega (arith, within))))

pub piece-numbered : (h : Header) (words : List ℕ) (slot number : ℕ) → slot < h.values → piece h (set words (2 + h.refs + slot) number) ≡ with_value slot number (piece h words)
piece-numbered h words slot number within =
    let place : 2 + h.refs + slot ≡ 2 + (h.refs + slot) = omega arith in
    thing-same h _ _ _ _
    (ap (λ i. take h.refs (drop 2 (set words i number))) place
    ∙ (ap (take h.refs) (drop-set-add 2 words (h.refs + slot) number) ∙ take-set-le h.refs (drop 2 words) (h.refs + slot) number (omega arith)))
    (ap (take h.values) (drop-set-add (2 + h.refs) words slot number) ∙ take-set-lt h.values (drop (2 + h.refs) words) slot number within)

pub spine-referred : (h : Header) (leaf_words : List ℕ) (slot word : ℕ) → slot < h.refs → spine h (set leaf_words slot word) ≡ with_ref slot word (spine h leaf_words)
spine-referred h leaf_words slot word within = ap (λ rs. thing_with h rs []) (take-set-lt h.refs leaf_words slot word within)

pub header-kept : (words : List ℕ) (place word : ℕ) → 2 ≤ place → header_in (set words place word) ≡ header_in words
header-kept words place word behind =
    let first : get_or (set words place word) 0 0 ≡ get_or words 0 0 = grind (arith, get_or-set_other) in
    let second : get_or (set words place word) 1 0 ≡ get_or words 1 0 = grind (arith, get_or-set_other) in
    ap (λ w. header_of w (get_or (set words place word) 1 0)) first ∙ ap (header_of (get_or words 0 0)) second

pub piece-blank : (h : Header) (first second : ℕ) → piece h (first ∷ second ∷ replicate (h.refs + h.values) 0) ≡ blank_thing h.name h.kind h.refs h.values
piece-blank h first second =
    let place : 2 + h.refs ≡ suc (suc h.refs) = omega arith in
    let left : h.refs + h.values - h.refs ≡ h.values = omega arith in
    thing-same h _ _ _ _
    (take-replicate h.refs (h.refs + h.values) 0 (omega arith))
    (ap (λ i. take h.values (drop i (first ∷ second ∷ replicate (h.refs + h.values) 0))) place
    ∙ (ap (take h.values) (drop-replicate h.refs (h.refs + h.values) 0)
    ∙ (ap (λ n. take h.values (replicate n 0)) left ∙ take-replicate h.values h.values 0 (omega arith))))
