-- What a change does to a region and to its objects.
use Rattle.std.proofs.Common.{◌≡◌, ℕ, ◌+◌, ◌<◌, ◌≤◌, Bool, true, false, not, cond, eqb, List, [], ◌∷◌, length, take, drop, set, get_or, Some, None, refl, ap, sym, subst, ◌∙◌, arith, length-set, get_or-set_other}
use Rattle.std.specs.Prelude.{◌||◌, IsSome}
use Rattle.std.proofs.lemmas.Bool.{eq-eqb, eqb-true, false≢true, ne_eqb}
use Rattle.std.proofs.lemmas.List.Folds.{list_any-append}
use Rattle.std.proofs.lemmas.Map.Views.{any-filter_same}
use Rattle.bal_layout.specs.Header.{header_of}
use Rattle.bal_words.specs.Pieces.{header_in}
use Rattle.bal_words.specs.Things.{Updated}
use Rattle.bal_region.specs.Changes.{overwrite, with_object, with_word, without}
use Rattle.bal_region.specs.Land.{IsBehindHeaders, IsLand, IsObject, Laid, Land, covers, header_at, object_at, object_in, size_at, size_by, starts_at}
use Rattle.bal_region.proofs.Finds.{covers-inside}
use Rattle.bal_region.proofs.Lands.{header-same, laid-each, laid-fewer, laid-more, laid-same, size-same, size-two, size_by-two}
use Rattle.bal_region.proofs.Lists.{length-overwrite, overwrite-before, overwrite-inside, part-written, parts-same}

-- an object is the same where its words are
pub object_in-same : (xs ys : List ℕ) (at : ℕ) → length xs ≡ length ys → IsSome (header_at xs at)
    → ((i : ℕ) → at ≤ i → i < at + size_at xs at → get_or xs i 0 ≡ get_or ys i 0) → object_in xs at ≡ object_in ys at
object_in-same xs ys at long some same =
    let two = size-two xs at some in
    let header = header-same xs ys at (same at (omega arith) (omega (arith, two))) (same (at + 1) (omega arith) (omega (arith, two))) in
    parts-same xs ys at (size_at xs at) long same ∙ ap (λ n. take n (drop at ys)) (size-same xs ys at long header)

-- and stands there in both regions, or in neither
pub object_at-same : (l m : Land) (at : ℕ) → starts_at m at ≡ starts_at l at → (starts_at l at ≡ true → object_in m.words at ≡ object_in l.words at) → object_at m at ≡ object_at l at
object_at-same l m at starts same = ap (λ b. cond b (Some (object_in m.words at)) None) starts ∙ by (starts_at l at) refl
  where
    by : (b : Bool) → starts_at l at ≡ b → cond b (Some (object_in m.words at)) None ≡ cond b (Some (object_in l.words at)) None
    by true starts = ap Some (same starts)
    by false starts = refl

-- a region is one by its words, its starts and what was given out
pub IsLand-same : (l m : Land) → m.words ≡ l.words → m.starts ≡ l.starts → m.used ≡ l.used → IsLand l → IsLand m
IsLand-same l m words starts used land = record {
  laid = subst (λ us. Laid m.words 0 m.starts us) (sym used)
      (subst (λ ss. Laid m.words 0 ss l.used) (sym starts) (subst (λ ws. Laid ws 0 l.starts l.used) (sym words) land.laid));
  within = omega (arith, land.within, used, ap (λ (ws : List ℕ). length ws) words);
}

-- An object is written.

module _ (words : List ℕ) (at : ℕ) (object : List ℕ) (is : IsObject (length words) object) (fits : at + length object ≤ length words) where
  two : 2 ≤ length object
  two = omega (arith, size_by-two (length words) (header_in object) is.header, is.size)

  -- its header stands there
  pub header-stands : header_at (overwrite words at object) at ≡ header_in object
  header-stands =
      let here : at + 0 ≡ at = omega arith in
      let one = ap (λ i. get_or (overwrite words at object) i 0) (sym here) ∙ overwrite-inside words at object 0 fits (omega (arith, two)) in
      let next = overwrite-inside words at object 1 fits (omega (arith, two)) in
      ap (λ w. header_of w (get_or (overwrite words at object) (at + 1) 0)) one ∙ ap (header_of (get_or object 0 0)) next

  -- it is as long as it was
  pub size-stands : size_at (overwrite words at object) at ≡ length object
  unfolding size_at
  size-stands =
      ap (λ n. size_by n (header_at (overwrite words at object) at)) (length-overwrite words at object fits)
      ∙ (ap (size_by (length words)) header-stands ∙ is.size)

  -- and all its words are there
  pub object-stands : object_in (overwrite words at object) at ≡ object
  object-stands = ap (λ n. take n (drop at (overwrite words at object))) size-stands ∙ part-written words at object fits

-- An object is placed.

module _ (l : Land) (object : List ℕ) (land : IsLand l) (is : IsObject (length l.words) object) (fits : l.used + length object ≤ length l.words) where
  long : length (overwrite l.words l.used object) ≡ length l.words
  long = length-overwrite l.words l.used object fits

  -- its header stands where it is placed
  pub header-placed : header_at (overwrite l.words l.used object) l.used ≡ header_in object
  header-placed = header-stands l.words l.used object is fits

  pub IsLand-placed : IsLand (with_object l object)
  IsLand-placed = record {
    laid = laid-more (overwrite l.words l.used object) 0 l.starts l.used (l.used + length object)
        (laid-same l.words (overwrite l.words l.used object) 0 l.starts l.used (sym long)
        (λ s among within. header-same l.words (overwrite l.words l.used object) s
        (sym (overwrite-before l.words l.used object s fits (omega arith)))
        (sym (overwrite-before l.words l.used object (s + 1) fits (omega arith)))) land.laid)
        (subst IsSome (sym header-placed) is.header) (ap (λ n. l.used + n) (size-stands l.words l.used object is fits));
    within = omega (arith, fits, long);
  }

  pub object-placed : Updated (object_at l) (object_at (with_object l object)) l.used (Some object)
  object-placed = record { here = here; elsewhere = elsewhere }
    where
      starts : (at : ℕ) → starts_at (with_object l object) at ≡ (starts_at l at || (eqb l.used at || false))
      starts at = list_any-append (λ s. eqb s at) l.starts (l.used ∷ [])

      last : (b c : Bool) → c ≡ true → (b || (c || false)) ≡ true
      last true c e = refl
      last false true e = refl
      last false false e = absurd (false≢true e)

      others : (b c : Bool) → c ≡ false → (b || (c || false)) ≡ b
      others true c e = refl
      others false true e = absurd (false≢true (sym e))
      others false false e = refl

      here : object_at (with_object l object) l.used ≡ Some object
      here = ap (λ b. cond b (Some (object_in (overwrite l.words l.used object) l.used)) None)
          (starts l.used ∙ last (starts_at l l.used) (eqb l.used l.used) (eq-eqb l.used l.used refl))
          ∙ ap Some (object-stands l.words l.used object is fits)

      elsewhere : (other : ℕ) → (other ≡ l.used → ⊥) → object_at (with_object l object) other ≡ object_at l other
      elsewhere other apart = object_at-same l (with_object l object) other
          (starts other ∙ others (starts_at l other) (eqb l.used other) (ne_eqb l.used other (λ e. apart (sym e))))
          (λ among.
          let each = laid-each l.words 0 l.starts l.used other land.laid among in
          sym (object_in-same l.words (overwrite l.words l.used object) other (sym long) each.1
          (λ i from to. sym (overwrite-before l.words l.used object i fits (omega (arith, to, each.2))))))

-- no object starts where the next one goes
pub none-at_used : (l : Land) → IsLand l → object_at l l.used ≡ None
none-at_used l land = by (starts_at l l.used) refl
  where
    by : (b : Bool) → starts_at l l.used ≡ b → cond b (Some (object_in l.words l.used)) None ≡ None
    by true starts =
        let each = laid-each l.words 0 l.starts l.used l.used land.laid starts in
        absurd (omega (arith, each.2, size-two l.words l.used each.1))
    by false starts = refl

-- A word is written.

module _ (l : Land) (offset word : ℕ) (land : IsLand l) where
  -- an object that has no word there stays
  pub object-unwritten : (at : ℕ) → (starts_at l at ≡ true → covers l at offset ≡ false) → object_at (with_word l offset word) at ≡ object_at l at
  object-unwritten at apart = object_at-same l (with_word l offset word) at refl
      (λ among.
      let each = laid-each l.words 0 l.starts l.used at land.laid among in
      sym (object_in-same l.words (set l.words offset word) at (sym (length-set l.words offset word)) each.1
      (λ i from to. sym (get_or-set_other l.words offset i word 0
      (λ e. false≢true (sym (apart among) ∙ covers-inside l at offset (omega (arith, e, from)) (omega (arith, e, to))))))))

  pub IsLand-written : IsBehindHeaders l offset → IsLand (with_word l offset word)
  IsLand-written behind = record {
    laid = laid-same l.words (set l.words offset word) 0 l.starts l.used (sym (length-set l.words offset word))
        (λ s among within. sym (header-same (set l.words offset word) l.words s
        (get_or-set_other l.words offset s word 0 (λ e. (behind s among).0 (sym e)))
        (get_or-set_other l.words offset (s + 1) word 0 (λ e. (behind s among).1 (sym e))))) land.laid;
    within = omega (arith, land.within, length-set l.words offset word);
  }

-- An object is taken away.

pub IsLand-removed : (l : Land) (at : ℕ) → IsLand l → IsLand (without l at)
IsLand-removed l at land = record { laid = laid-fewer l.words (λ s. not (eqb s at)) 0 l.starts l.used land.laid; within = land.within }

pub object-removed : (l : Land) (at : ℕ) → Updated (object_at l) (object_at (without l at)) at None
object-removed l at = record { here = here; elsewhere = elsewhere }
  where
    here : object_at (without l at) at ≡ None
    here = ap (λ b. cond b (Some (object_in l.words at)) None)
        (any-filter_same (λ s. eqb s at) (λ s. not (eqb s at)) false (λ s e. ap not e) l.starts)

    elsewhere : (other : ℕ) → (other ≡ at → ⊥) → object_at (without l at) other ≡ object_at l other
    elsewhere other apart = ap (λ b. cond b (Some (object_in l.words other)) None)
        (any-filter_same (λ s. eqb s other) (λ s. not (eqb s at)) true
        (λ s e. ap not (ne_eqb s at (λ same. apart (sym (eqb-true s other e) ∙ same)))) l.starts)
