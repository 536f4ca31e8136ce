-- Objects among words that were written, and the zeros that stand after those.
use Rattle.std.proofs.Common.{◌≡◌, ℕ, ◌+◌, ◌-◌, ◌<◌, ◌≤◌, inl, inr, List, ◌∷◌, ◌++◌, length, take, drop, replicate, ap, sym, ◌∙◌, arith, append_assoc}
use Rattle.std.proofs.lemmas.Bool.{cases_lt}
use Rattle.std.proofs.lemmas.List.{drop-append-le, length-replicate, take-append-le}
use Rattle.bal_base.specs.Filling.{grown, padded}
use Rattle.bal_base.proofs.Lemmas.{drop-padded, get_or-padded, length-padded, zeros-joined}
use Rattle.bal_region.specs.Changes.{blank_words, overwrite}
use Rattle.bal_region.specs.Land.{header_at, size_at, size_by}
use Rattle.bal_region.proofs.Lands.{header-same}
use Rattle.bal_region.proofs.Lists.{length-overwrite}

-- a header is read as if all stood there, and so is the size of the object that has it
pub size-padded : (room : ℕ) (words : List ℕ) (at : ℕ) → length words ≤ room → size_by room (header_at words at) ≡ size_at (padded room words) at
unfolding size_at
size-padded room words at within =
    ap (size_by room) (sym (header-same (padded room words) words at (get_or-padded room words at) (get_or-padded room words (at + 1))))
    ∙ ap (λ n. size_by n (header_at (padded room words) at)) (sym (length-padded room words within))

-- what is written among them
pub padded-overwrite : (room : ℕ) (words : List ℕ) (at : ℕ) (others : List ℕ) → at + length others ≤ length words
    → padded room (overwrite words at others) ≡ overwrite (padded room words) at others
unfolding grown
padded-overwrite room words at others within =
    let zeros : List ℕ = replicate (room - length words) 0 in
    let behind = drop (at + length others) words in
    ap (λ n. overwrite words at others ++ replicate (room - n) 0) (length-overwrite words at others within)
    ∙ (append_assoc (take at words) (others ++ behind) zeros
    ∙ (ap (λ zs. take at words ++ zs) (append_assoc others behind zeros)
    ∙ (ap (λ zs. take at words ++ (others ++ zs)) (sym (drop-append-le (at + length others) words zeros within))
    ∙ ap (λ ws. ws ++ (others ++ drop (at + length others) (words ++ zeros))) (sym (take-append-le at words zeros (omega (arith, within)))))))

-- An object is written over words that were grown to its end.

-- a new object that is written that far has zeros up to the end
blank-ends : (words : List ℕ) (at first second k end : ℕ) → at + 2 + k ≤ end → length words ≤ at + 2 + k
    → overwrite (padded end words) at (first ∷ second ∷ replicate k 0) ≡ take at (padded end words) ++ (first ∷ second ∷ replicate (end - at - 2) 0)
blank-ends words at first second k end within behind =
    let n = at + length (first ∷ second ∷ replicate k 0) in
    let place : n ≡ at + 2 + k = omega (arith, length-replicate {A = ℕ} k 0) in
    let all : k + (end - n) ≡ end - at - 2 = omega (arith, within, place) in
    ap (λ zs. take at (padded end words) ++ (first ∷ second ∷ (replicate k 0 ++ zs))) (drop-padded end words n (omega (arith, behind, place)))
    ∙ ap (λ zs. take at (padded end words) ++ (first ∷ second ∷ zs)) (zeros-joined k (end - n) (end - at - 2) all)

-- so nothing is left to write
pub blank-whole : (words : List ℕ) (at first second k size : ℕ) → 2 + k ≤ size → (2 + k < size → length words ≤ at + 2 + k)
    → overwrite (padded (at + size) words) at (first ∷ second ∷ replicate k 0) ≡ overwrite (padded (at + size) words) at (blank_words first second size)
blank-whole words at first second k size within behind = elim (cases_lt (2 + k) size) [
  | inl less ↦ blank-ends words at first second k (at + size) (omega (arith, within)) (behind less)
      ∙ sym (blank-ends words at first second (size - 2) (at + size) (omega (arith, less)) (omega (arith, less, behind less)))
  | inr whole ↦
      let same : k ≡ size - 2 = omega (arith, within, whole) in
      ap (λ n. overwrite (padded (at + size) words) at (first ∷ second ∷ replicate n 0)) same
]
