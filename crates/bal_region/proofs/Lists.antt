-- Lists of words of which some are written, and parts of them.
use Rattle.std.proofs.Common.{◌≡◌, ℕ, suc, ◌+◌, ◌-◌, ◌<◌, ◌≤◌, List, [], ◌∷◌, ◌++◌, length, take, drop, set, get_or, replicate, ap, sym, ◌∙◌, arith, append_assoc, length-append, length-take, length-drop, drop-cons}
use Rattle.std.proofs.Math.Seq.{paste, set-append_seam}
use Rattle.std.proofs.lemmas.Grind.{common_steps, same_number_lists, replicate_next}
use Rattle.std.proofs.lemmas.List.{get_or-drop, get_or-take, get_or-append_right, get_or_append_left, length-replicate}
use Rattle.bal_region.specs.Changes.{blank_words, overwrite}

-- what is written stands within the list
pub length-overwrite : (words : List ℕ) (at : ℕ) (others : List ℕ) → at + length others ≤ length words → length (overwrite words at others) ≡ length words
length-overwrite words at others within = grind (arith, length-append, length-take, length-drop)

-- the words in front stay
pub overwrite-before : (words : List ℕ) (at : ℕ) (others : List ℕ) (i : ℕ) → at + length others ≤ length words → i < at → get_or (overwrite words at others) i 0 ≡ get_or words i 0
overwrite-before words at others i within less =
    let front : i < length (take at words) = omega (arith, length-take at words) in
    get_or_append_left (take at words) (others ++ drop (at + length others) words) 0 i front ∙ get_or-take at words i 0 less

-- the words that are written
pub overwrite-inside : (words : List ℕ) (at : ℕ) (others : List ℕ) (i : ℕ) → at + length others ≤ length words → i < length others → get_or (overwrite words at others) (at + i) 0 ≡ get_or others i 0
overwrite-inside words at others i within less =
    let front : length (take at words) ≡ at = omega (arith, length-take at words) in
    let back : at + i - at ≡ i = omega arith in
    get_or-append_right (take at words) (others ++ drop (at + length others) words) at (at + i) 0 front (omega arith)
    ∙ (ap (λ k. get_or (others ++ drop (at + length others) words) k 0) back
    ∙ get_or_append_left others (drop (at + length others) words) 0 i less)

-- and the words behind them
pub overwrite-behind : (words : List ℕ) (at : ℕ) (others : List ℕ) (i : ℕ) → at + length others ≤ length words → at + length others ≤ i
    → get_or (overwrite words at others) i 0 ≡ get_or words i 0
overwrite-behind words at others i within behind =
    let n = at + length others in
    let front : length (take at words ++ others) ≡ n = omega (arith, length-append (take at words) others, length-take at words) in
    let place : n + (i - n) ≡ i = omega (arith, behind) in
    ap (λ ws. get_or ws i 0) (sym (append_assoc (take at words) others (drop n words)))
    ∙ (get_or-append_right (take at words ++ others) (drop n words) n i 0 front behind
    ∙ (get_or-drop n words (i - n) 0 ∙ ap (λ k. get_or words k 0) place))

-- words are copied to another place
pub copied-overwrite : (words : List ℕ) (from size to : ℕ) → from + size ≤ length words
    → paste words to (drop from words) (from + size - from) ≡ overwrite words to (take size (drop from words))
copied-overwrite words from size to within =
    let whole : from + size - from ≡ size = omega arith in
    let long : length (take size (drop from words)) ≡ size = omega (arith, within, length-take size (drop from words), length-drop from words) in
    ap (paste words to (drop from words)) whole
    ∙ (append_assoc (take to words) (take size (drop from words)) (drop (to + size) words)
    ∙ ap (λ n. take to words ++ (take size (drop from words) ++ drop (to + n) words)) (sym long))

-- two parts agree where their words do
pub parts-same : (xs ys : List ℕ) (at size : ℕ) → length xs ≡ length ys → ((i : ℕ) → at ≤ i → i < at + size → get_or xs i 0 ≡ get_or ys i 0)
    → take size (drop at xs) ≡ take size (drop at ys)
parts-same xs ys at size long same = same_number_lists (take size (drop at xs)) (take size (drop at ys)) lengths each
  where
    lengths : length (take size (drop at xs)) ≡ length (take size (drop at ys))
    lengths = grind (arith, length-take, length-drop)

    each : (k : ℕ) → k < length (take size (drop at xs)) → get_or (take size (drop at xs)) k 0 ≡ get_or (take size (drop at ys)) k 0
    each k less =
        let inside : k < size = omega (arith, length-take size (drop at xs)) in
        get_or-take size (drop at xs) k 0 inside
        ∙ (get_or-drop at xs k 0 ∙ (same (at + k) (omega arith) (omega arith)
        ∙ (sym (get_or-drop at ys k 0) ∙ sym (get_or-take size (drop at ys) k 0 inside))))

-- the part that was written is what was written
pub part-written : (words : List ℕ) (at : ℕ) (others : List ℕ) → at + length others ≤ length words → take (length others) (drop at (overwrite words at others)) ≡ others
part-written words at others within = same_number_lists (take (length others) (drop at (overwrite words at others))) others lengths each
  where
    lengths : length (take (length others) (drop at (overwrite words at others))) ≡ length others
    lengths = omega (arith, length-take (length others) (drop at (overwrite words at others)), length-drop at (overwrite words at others), length-overwrite words at others within)

    each : (k : ℕ) → k < length (take (length others) (drop at (overwrite words at others))) → get_or (take (length others) (drop at (overwrite words at others))) k 0 ≡ get_or others k 0
    each k less =
        let inside : k < length others = omega (arith, lengths) in
        get_or-take (length others) (drop at (overwrite words at others)) k 0 inside
        ∙ (get_or-drop at (overwrite words at others) k 0 ∙ overwrite-inside words at others k within inside)

-- nothing is written
pub overwrite-none : (words : List ℕ) (at : ℕ) → overwrite words at [] ≡ words
overwrite-none words at = grind (arith, common_steps)

-- one word more is written
pub overwrite-more : (words : List ℕ) (at : ℕ) (others : List ℕ) (word : ℕ) → at + length others < length words
    → set (overwrite words at others) (at + length others) word ≡ overwrite words at (others ++ word ∷ [])
overwrite-more words at others word within =
    let n = at + length others in
    let front = take at words ++ others in
    let rest = drop (suc n) words in
    let opened : drop n words ≡ get_or words n 0 ∷ rest = drop-cons words n 0 within in
    let long : length front ≡ n = omega (arith, length-append (take at words) others, length-take at words) in
    let next : at + length (others ++ word ∷ []) ≡ suc n = omega (arith, length-append others (word ∷ [])) in
    ap (λ r. set (take at words ++ (others ++ r)) n word) opened
    ∙ (ap (λ l. set l n word) (sym (append_assoc (take at words) others (get_or words n 0 ∷ rest)))
    ∙ (ap (λ i. set (front ++ get_or words n 0 ∷ rest) i word) (sym long)
    ∙ (set-append_seam front (get_or words n 0) rest word
    ∙ (append_assoc (take at words) others (word ∷ rest)
    ∙ (ap (λ l. take at words ++ l) (sym (append_assoc others (word ∷ []) rest))
    ∙ ap (λ i. take at words ++ ((others ++ word ∷ []) ++ drop i words)) (sym next))))))

-- a header, a name and so many zeros, and one zero more
pub blank-more : (words : List ℕ) (at first second n i : ℕ) → i ≡ at + 2 + n → i < length words
    → set (overwrite words at (first ∷ second ∷ replicate n 0)) i 0 ≡ overwrite words at (first ∷ second ∷ replicate (n + 1) 0)
blank-more words at first second n i e within =
    let blank = first ∷ second ∷ replicate n 0 in
    let place : at + length blank ≡ i = omega (arith, length-replicate {A = ℕ} n 0) in
    ap (λ k. set (overwrite words at blank) k 0) (sym place)
    ∙ (overwrite-more words at blank 0 (omega (arith, place))
    ∙ ap (λ zeros. overwrite words at (first ∷ second ∷ zeros)) (sym (replicate_next n 0)))

-- the header and the name
pub blank-begun : (words : List ℕ) (at first second : ℕ) → at + 2 ≤ length words
    → set (set words at first) (at + 1) second ≡ overwrite words at (first ∷ second ∷ [])
blank-begun words at first second within =
    let none : at + 0 ≡ at = omega arith in
    ap (λ ws. set (set ws at first) (at + 1) second) (sym (overwrite-none words at))
    ∙ (ap (λ k. set (set (overwrite words at []) k first) (at + 1) second) (sym none)
    ∙ (ap (λ ws. set ws (at + 1) second) (overwrite-more words at [] first (omega arith))
    ∙ overwrite-more words at (first ∷ []) second (omega arith)))

-- a new object has so many words
pub length-blank : (first second words : ℕ) → 2 ≤ words → length (blank_words first second words) ≡ words
length-blank first second words two = omega (arith, length-replicate {A = ℕ} (words - 2) 0)
