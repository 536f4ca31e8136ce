-- An object that is placed leaves no gap.
use Rattle.std.proofs.Common.{◌≡◌, ℕ, ◌+◌, ◌≤◌, List, [], ◌∷◌, ◌++◌, length, ap, sym, subst, ◌∙◌, arith}
use Rattle.bal_region.specs.Changes.{overwrite}
use Rattle.bal_region.specs.Land.{IsLand, IsObject, Laid, Land, header_at, size_at, size_by}
use Rattle.bal_region.proofs.Lemmas.{header-placed, header-same, length-overwrite, overwrite-before, size-two}
use Rattle.bal_dest.specs.Buffers.{HaveNoGaps}

laid-to : (words : List ℕ) (from : ℕ) (ss : List ℕ) (end : ℕ) → Laid words from ss end → from ≤ end
laid-to words from [] end laid = laid
laid-to words from (s ∷ ss) end laid = omega (arith, laid.0, laid-to words (s + size_at words s) ss end laid.2)

module _ (l : Land) (object : List ℕ) (land : IsLand l) (is : IsObject (length l.words) object) (fits : l.used + length object ≤ length l.words) where
  abbrev written : List ℕ
  written = overwrite l.words l.used object

  long : length written ≡ length l.words
  long = length-overwrite l.words l.used object fits

  -- it has its size
  size-placed : size_at written l.used ≡ length object
  unfolding size_at
  size-placed = ap (λ n. size_by n (header_at written l.used)) long ∙ (ap (size_by (length l.words)) (header-placed l object land is fits) ∙ is.size)

  -- and those before it keep theirs
  size-kept : (s : ℕ) → s + 2 ≤ l.used → size_at written s ≡ size_at l.words s
  unfolding size_at
  size-kept s before =
      ap (λ n. size_by n (header_at written s)) long
      ∙ ap (size_by (length l.words)) (header-same written l.words s (overwrite-before l.words l.used object s fits (omega (arith, before)))
      (overwrite-before l.words l.used object (s + 1) fits (omega (arith, before))))

  more : (from : ℕ) (ss : List ℕ) → Laid l.words from ss l.used → HaveNoGaps l.words from ss l.used → HaveNoGaps written from (ss ++ l.used ∷ []) (l.used + length object)
  more from [] laid none = (sym none, ap (λ n. l.used + n) size-placed)
  more from (s ∷ ss) laid none =
      let two = size-two l.words s laid.1 in
      let to = laid-to l.words (s + size_at l.words s) ss l.used laid.2 in
      let same = size-kept s (omega (arith, two, to)) in
      (none.0, subst (λ n. HaveNoGaps written (s + n) (ss ++ l.used ∷ []) (l.used + length object)) (sym same) (more (s + size_at l.words s) ss laid.2 none.1))

  pub no_gaps-placed : HaveNoGaps l.words 0 l.starts l.used → HaveNoGaps written 0 (l.starts ++ l.used ∷ []) (l.used + length object)
  no_gaps-placed none = more 0 l.starts land.laid none
