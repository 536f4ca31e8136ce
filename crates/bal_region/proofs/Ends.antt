-- Where the last of a region's objects ends.
use Rattle.std.proofs.Common.{◌≡◌, ℕ, ◌+◌, ◌≤◌, ◌⊎◌, inl, inr, true, List, [], ◌∷◌, length, Some, None, refl, ap, sym, subst, ◌∙◌, arith}
use Rattle.std.proofs.lemmas.Bool.{cases_order, false≢true}
use Rattle.bal_base.specs.Bits.{IsLastTo, is_member}
use Rattle.bal_region.specs.Changes.{cut_short, end_of}
use Rattle.bal_region.specs.Land.{IsLand, Laid, Land, object_at, object_in, size_at}
use Rattle.bal_region.proofs.Lands.{among-first, among-later, laid-apart, laid-each, size-two}
use Rattle.bal_region.proofs.Seen.{length-object, object-seen, object-there}

module _ (words : List ℕ) where
  -- the objects lie before that end
  pub laid-ends : (low : ℕ) (ss : List ℕ) (end : ℕ) → Laid words low ss end → Laid words low ss (end_of words low ss)
  laid-ends low [] end laid = omega arith
  laid-ends low (s ∷ ss) end laid = (laid.0, laid.1, laid-ends (s + size_at words s) ss end laid.2)

  -- it is no later than another end before which they lie
  pub ends-before : (low : ℕ) (ss : List ℕ) (end : ℕ) → Laid words low ss end → end_of words low ss ≤ end
  ends-before low [] end laid = laid
  ends-before low (s ∷ ss) end laid = ends-before (s + size_at words s) ss end laid.2

  -- the last object ends there, if there is one
  pub end-is : (low : ℕ) (ss : List ℕ) (end : ℕ) → Laid words low ss end
      → ((ss ≡ []) × (end_of words low ss ≡ low)) ⊎ ((s : ℕ) × (is_member ss s ≡ true) × (s + size_at words s ≡ end_of words low ss))
  end-is low [] end laid = inl (refl, refl)
  end-is low (s ∷ ss) end laid = inr (elim (end-is (s + size_at words s) ss end laid.2) [
    | inl none ↦ (s, among-first s ss, sym none.1)
    | inr found ↦ (found.0, among-later s found.0 ss found.1, found.2)
  ])

module _ (l : Land) (land : IsLand l) where
  pub IsLand-cut : IsLand (cut_short l)
  IsLand-cut = record {
    laid = laid-ends l.words 0 l.starts l.used land.laid;
    within = omega (arith, land.within, ends-before l.words 0 l.starts l.used land.laid);
  }

  pub cut-less : (cut_short l).used ≤ l.used
  cut-less = ends-before l.words 0 l.starts l.used land.laid

  pub cut-within : (at : ℕ) (object : List ℕ) → object_at l at ≡ Some object → at + length object ≤ (cut_short l).used
  cut-within at object is = (object-seen (cut_short l) at IsLand-cut object is).2

  pub cut-last : ((cut_short l).used ≡ 0) ⊎ ((at : ℕ) × (object : List ℕ) × (object_at l at ≡ Some object) × (at + length object ≡ (cut_short l).used))
  cut-last = elim (end-is l.words 0 l.starts l.used land.laid) [
    | inl none ↦ inl none.1
    | inr found ↦ inr (
      found.0,
      object_in l.words found.0,
      object-there l found.0 found.1,
      ap (λ n. found.0 + n) (length-object l found.0 land found.1) ∙ found.2,
    )
  ]

  -- that is the end of the last start up to what was given out
  pub end-found : (start : ℕ) → IsLastTo l.starts l.used (Some start) → start + size_at l.words start ≡ end_of l.words 0 l.starts
  end-found start last = elim (end-is l.words 0 l.starts l.used land.laid) [
    | inl none ↦ absurd (false≢true (subst (λ (ss : List ℕ). is_member ss start ≡ true) none.0 last.0))
    | inr found ↦
        let each = laid-each l.words 0 l.starts l.used found.0 land.laid found.1 in
        let ends = (laid-each l.words 0 l.starts (end_of l.words 0 l.starts) start (laid-ends l.words 0 l.starts l.used land.laid) last.0).2 in
        let two = size-two l.words start (laid-each l.words 0 l.starts l.used start land.laid last.0).1 in
        elim (cases_order found.0 start) [
          | inl same ↦ ap (λ s. s + size_at l.words s) (sym same) ∙ found.2
          | inr apart ↦ elim apart [
            | inl less ↦ absurd (omega (arith, two, ends, found.2, laid-apart l.words 0 l.starts l.used found.0 start land.laid found.1 last.0 less))
            | inr more ↦ absurd (omega (arith, more, last.2 found.0 found.1 (omega (arith, each.2))))
          ]
        ]
  ]

  pub end-none : IsLastTo l.starts l.used None → 0 ≡ end_of l.words 0 l.starts
  end-none last = elim (end-is l.words 0 l.starts l.used land.laid) [
    | inl none ↦ sym none.1
    | inr found ↦ absurd (omega (arith, last found.0 found.1, (laid-each l.words 0 l.starts l.used found.0 land.laid found.1).2))
  ]
