-- Lemmas on what calls in a row move.
use Rattle.std.proofs.Common.{◌≡◌, ℕ, ◌+◌, ◌-◌, ◌^◌, ◌≤◌, min, List, ◌++◌, Option, length, take, drop, ◌<◌, [], arith, subst, sym, ap, ◌∙◌, length-append, length-drop}
use Rattle.std.proofs.lemmas.List.{take_all, take-append-le, take-append-drop, length-take-le, nil_from_length}
use Rattle.std.proofs.Math.Seq.{take-add}
use Rattle.std.proofs.KnownBytes.{Consumes-trans, Appends-trans}
use Rattle.std.specs.Io.KnownBytes.{Consumes, Appends}
use Rattle.bal_source.specs.Streams.{TakesFront}

-- what a read gave, after the bytes taken before it, makes a longer front
pub takes_next : (a b c : Option (List ℕ)) (bytes buffer : List ℕ) (n start before now : ℕ)
    → Consumes a b bytes → before ≡ start + length bytes
    → n ≤ length buffer → Consumes b c (take n buffer) → now ≡ min (before + n) (2 ^ 64 - 1)
    → start + length bytes + n ≤ 2 ^ 64 - 1 → TakesFront a c start now
takes_next a b c bytes buffer n start before now taken number bound more given small =
    let piece : length (take n buffer) ≡ n = length-take-le n buffer bound in
    let whole : length (bytes ++ take n buffer) ≡ length bytes + length (take n buffer) = length-append bytes (take n buffer) in
    record { front = bytes ++ take n buffer; taken = Consumes-trans a b c bytes (take n buffer) taken more; counted = omega (arith, piece, whole, number, given) }

-- what a write took of the rest, after the bytes appended before it, makes a longer front
pub appends_next : (a b c : Option (List ℕ)) (bytes : List ℕ) (at n : ℕ)
    → Appends a b (take at bytes) → Appends b c (take n (take (length bytes - at) (drop at bytes)))
    → Appends a c (take (at + n) bytes)
appends_next a b c bytes at n before more =
    let rest : take (length bytes - at) (drop at bytes) ≡ drop at bytes = take_all _ _ (omega (arith, length-drop at bytes)) in
    let joined : take at bytes ++ take n (take (length bytes - at) (drop at bytes)) ≡ take (at + n) bytes = ap (λ l. take at bytes ++ take n l) rest ∙ sym (take-add at n bytes) in
    subst (Appends a c) joined (Appends-trans a b c _ _ before more)

-- a read that copies a portion of what is left to the front of a buffer consumes it, and none only at the end
pub consumes_portion : (left into new : List ℕ) (piece n : ℕ)
    → 1 ≤ piece → n ≡ min (length left) (min piece (length into)) → new ≡ take n left ++ drop n into
    → (left ≡ take n new ++ drop n left) × (n ≡ 0 → 0 < length new → drop n left ≡ [])
consumes_portion left into new piece n some count copied =
    let within : n ≤ length left = omega arith in
    let taken : length (take n left) ≡ n = length-take-le n left within in
    let front : take n new ≡ take n left =
    ap (take n) copied ∙ take-append-le n (take n left) (drop n into) (omega arith) ∙ take_all n (take n left) (omega arith) in
    let size : length new ≡ length (take n left) + length (drop n into) = ap length copied ∙ length-append (take n left) (drop n into) in
    let room : length (drop n into) ≡ length into - n = length-drop n into in (
      sym (take-append-drop n left) ∙ ap (λ l. l ++ drop n left) (sym front),
      λ none wanted. nil_from_length (drop n left) (omega (arith, length-drop n left)),
    )
