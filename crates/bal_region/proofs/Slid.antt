-- What a region is once one of its objects is moved down.
use Rattle.std.proofs.Common.{◌≡◌, ℕ, ◌+◌, ◌<◌, ◌≤◌, ◌⊎◌, inl, inr, Bool, true, false, cond, List, length, map, get_or, Some, None, refl, ap, sym, subst, ◌∙◌, arith}
use Rattle.std.proofs.lemmas.Bool.{cases_order}
use Rattle.bal_base.specs.Bits.{is_member, with_member, without_member}
use Rattle.bal_base.proofs.Lemmas.{member-with, member-without}
use Rattle.bal_words.proofs.Lemmas.{same-or}
use Rattle.bal_region.specs.Changes.{MaySlide, overwrite, start_moved, with_slid}
use Rattle.bal_region.specs.Land.{IsLand, IsObject, Land, header_at, object_at, object_in, size_at, starts_at}
use Rattle.bal_region.proofs.Changed.{header-stands, object-stands, object_at-same, object_in-same}
use Rattle.bal_region.proofs.Lands.{header-same, laid-apart, laid-each, size-two}
use Rattle.bal_region.proofs.Lists.{length-overwrite, overwrite-before, overwrite-behind}
use Rattle.bal_region.proofs.Seen.{IsObject-seen, header-seen, length-object, object-ends, object-there}
use Rattle.bal_region.proofs.SlidStarts.{laid-slid, starts-slid}

both-true : (a b : Bool) → (a ≡ true → b ≡ true) → (b ≡ true → a ≡ true) → a ≡ b
both-true true b there back = sym (there refl)
both-true false true there back = back refl
both-true false false there back = refl

-- where none starts, none is seen
none-there : (l : Land) (at : ℕ) → (starts_at l at ≡ true → ⊥) → object_at l at ≡ None
none-there l at none = by (starts_at l at) refl
  where
    by : (b : Bool) → starts_at l at ≡ b → cond b (Some (object_in l.words at)) None ≡ None
    by true starts = absurd (none starts)
    by false starts = refl

module _ (l : Land) (from to : ℕ) (land : IsLand l) (may : MaySlide l from to) where
  abbrev object : List ℕ
  object = object_in l.words from

  abbrev after : List ℕ
  after = overwrite l.words to object

  sized : length object ≡ size_at l.words from
  sized = length-object l from land may.start

  is : IsObject (length l.words) object
  is = IsObject-seen l from land may.start

  fits : to + length object ≤ length l.words
  fits = omega (arith, may.down, sized, object-ends l from land may.start, land.within)

  pub length-slid : length (overwrite l.words to (object_in l.words from)) ≡ length l.words
  length-slid = length-overwrite l.words to object fits

  -- a word of another object stays
  beside : (s : ℕ) → starts_at l s ≡ true → (s ≡ from → ⊥) → (i : ℕ) → s ≤ i → i < s + size_at l.words s → get_or l.words i 0 ≡ get_or after i 0
  beside s among other i low high = elim (cases_order s from) [
    | inl same ↦ absurd (other same)
    | inr apart ↦ elim apart [
      | inl less ↦ sym (overwrite-before l.words to object i fits (omega (arith, high, may.clear s among less)))
      | inr more ↦ sym (overwrite-behind l.words to object i fits
          (omega (arith, low, sized, may.down, laid-apart l.words 0 l.starts l.used from s land.laid may.start among more)))
    ]
  ]

  header-beside : (s : ℕ) → starts_at l s ≡ true → (s ≡ from → ⊥) → header_at l.words s ≡ header_at after s
  header-beside s among other =
      let two = size-two l.words s (laid-each l.words 0 l.starts l.used s land.laid among).1 in
      header-same l.words after s (beside s among other s (omega arith) (omega (arith, two))) (beside s among other (s + 1) (omega arith) (omega (arith, two)))

  -- the header at the new place
  pub header-moved : header_at l.words from ≡ header_at (overwrite l.words to (object_in l.words from)) to
  header-moved =
      sym (header-seen l.words from (size_at l.words from) (size-two l.words from (laid-each l.words 0 l.starts l.used from land.laid may.start).1))
      ∙ sym (header-stands l.words to object is fits)

  pub IsLand-slid : IsLand (with_slid l from to)
  IsLand-slid = record {
    laid = laid-slid from to l.words after (sym length-slid) may.down header-moved 0 l.starts l.used land.laid (omega arith) may.clear header-beside may.start;
    within = omega (arith, land.within, length-slid);
  }

  -- the starts as a set
  starts : map (start_moved from to) l.starts ≡ with_member to (without_member from l.starts)
  starts = sym (starts-slid from to l.words may.down 0 l.starts l.used land.laid may.start may.clear)

  started : (at : ℕ) → starts_at (with_slid l from to) at ≡ true → (to ≡ at) ⊎ ((from ≡ at → ⊥) × (starts_at l at ≡ true))
  started at among = elim ((member-with to at (without_member from l.starts)).0 (subst (λ (ss : List ℕ). is_member ss at ≡ true) starts among)) [
    | inl here ↦ inl here
    | inr there ↦ inr ((member-without from at l.starts).0 there)
  ]

  starts-there : (at : ℕ) → (to ≡ at) ⊎ ((from ≡ at → ⊥) × (starts_at l at ≡ true)) → starts_at (with_slid l from to) at ≡ true
  starts-there at there = subst (λ (ss : List ℕ). is_member ss at ≡ true) (sym starts) ((member-with to at (without_member from l.starts)).1 (elim there [
    | inl here ↦ inl here
    | inr both ↦ inr ((member-without from at l.starts).1 both)
  ]))

  -- a start is another's, or that of the moved one
  pub start-slid : (at : ℕ) → starts_at (with_slid l from to) at ≡ true → (at ≡ to) ⊎ ((at ≡ from → ⊥) × (starts_at l at ≡ true) × (header_at (with_slid l from to).words at ≡ header_at l.words at))
  start-slid at among = elim (started at among) [
    | inl here ↦ inl (sym here)
    | inr there ↦ inr (λ e. there.0 (sym e), there.1, sym (header-beside at there.1 (λ e. there.0 (sym e))))
  ]

  -- it starts with its words at the new place
  pub object-here : object_at (with_slid l from to) to ≡ object_at l from
  object-here =
      object-there (with_slid l from to) to (starts-there to (inl refl))
      ∙ (ap Some (object-stands l.words to object is fits) ∙ sym (object-there l from may.start))

  -- and at the old one no more
  pub object-left : (to ≡ from → ⊥) → object_at (with_slid l from to) from ≡ None
  object-left other = none-there (with_slid l from to) from (λ among. elim (started from among) [ inl here ↦ other here | inr there ↦ there.0 refl ])

  pub object-beside : (at : ℕ) → (at ≡ from → ⊥) → (at ≡ to → ⊥) → object_at (with_slid l from to) at ≡ object_at l at
  object-beside at not_from not_to = object_at-same l (with_slid l from to) at
      (both-true (starts_at (with_slid l from to) at) (starts_at l at)
      (λ among. elim (started at among) [ inl here ↦ absurd (not_to (sym here)) | inr there ↦ there.1 ])
      (λ among. starts-there at (inr (λ e. not_from (sym e), among))))
      (λ among.
      let some = (laid-each l.words 0 l.starts l.used at land.laid among).1 in
      sym (object_in-same l.words after at (sym length-slid) some (beside at among not_from)))

  -- before, no other started there
  pub object-free : (object_at l to ≡ None) ⊎ (to ≡ from)
  object-free = elim (same-or to from) [
    | inl same ↦ inr same
    | inr other ↦ inl (none-there l to (λ among.
        let two = size-two l.words to (laid-each l.words 0 l.starts l.used to land.laid among).1 in
        omega (arith, two, may.clear to among (omega (arith, may.down, other)))))
  ]
