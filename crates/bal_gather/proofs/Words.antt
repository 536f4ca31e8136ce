-- The numbers of all regions, as lists by region.
use Rattle.std.proofs.Common.{◌≡◌, ℕ, ◌+◌, ◌<◌, inl, inr, List, [], ◌∷◌, ◌++◌, length, map, get_or, Option, Some, None, refl, ap, sym, ◌∙◌, arith}
use Rattle.std.proofs.lemmas.Bool.{cases_order}
use Rattle.std.proofs.lemmas.List.{get_or-map, get_or_append_left, get_or_push, length-map, map-append}
use Rattle.bal_layout.specs.Addresses.{address_in, offset_of, region_of}
use Rattle.bal_layout.specs.References.{target_of, word_for}
use Rattle.bal_layout.specs.Shape.{Shape}
use Rattle.bal_table.proofs.Lemmas.{address-is, offset-within}
use Rattle.bal_gather.specs.Kept.{TellNumbers}
use Rattle.bal_gather.specs.Lent.{Lent}
use Rattle.bal_gather.specs.Numbers.{number_of}

word-target : (o : Option ℕ) → target_of (word_for o) ≡ o
word-target None = refl
word-target (Some n) = refl

-- a word says one number
pub word-same : (a b : Option ℕ) → word_for a ≡ word_for b → a ≡ b
word-same a b same = sym (word-target a) ∙ (ap target_of same ∙ word-target b)

-- One list more.

module _ {V : Type 0} (items : V → List ℕ) (l : Lent) (lists : List V) (list : V) (region : ℕ) (long : length lists ≡ region)
    (told : TellNumbers l (map items lists) region)
    (next : (o : ℕ) → o < l.table.shape.words → get_or (items list) o 0 ≡ word_for (number_of l (address_in l.table.shape region o))) where
  pub told-more : TellNumbers l (map items (lists ++ list ∷ [])) (region + 1)
  told-more q o less inside = elim (cases_order q region) [
    | inl same ↦ ap (λ (ws : List ℕ). get_or ws o 0) (ap (λ k. get_or (map items (lists ++ list ∷ [])) k []) same ∙ last)
        ∙ (next o inside ∙ ap (λ k. word_for (number_of l (address_in l.table.shape k o))) (sym same))
    | inr other ↦ elim other [
      | inl before ↦ ap (λ (ws : List ℕ). get_or ws o 0) (ap (λ (ls : List (List ℕ)). get_or ls q []) (map-append items lists (list ∷ []))
          ∙ get_or_append_left (map items lists) (items list ∷ []) [] q (omega (arith, before, long, length-map lists items))) ∙ told q o before inside
      | inr behind ↦ absurd (omega (arith, behind, less))
    ]
  ]
    where
      last : get_or (map items (lists ++ list ∷ [])) region [] ≡ items list
      last = ap (λ (ls : List (List ℕ)). get_or ls region []) (map-append items lists (list ∷ [])) ∙ get_or_push (map items lists) (items list) [] region (length-map lists items ∙ long)

-- The number at an address is read where it stands.

pub told-at : {V : Type 0} (items : V → List ℕ) (l : Lent) (s : Shape) (lists : List V) (list : V) (a : ℕ) → s ≡ l.table.shape → 0 < l.table.shape.words
    → region_of s a < l.table.shape.regions → length (map items lists) ≡ l.table.shape.regions → list ≡ get_or lists (region_of s a) list
    → TellNumbers l (map items lists) l.table.shape.regions → get_or (items list) (offset_of s a) 0 ≡ word_for (number_of l a)
told-at items l s lists list a shape some within long read told =
    let q = region_of l.table.shape a in
    let o = offset_of l.table.shape a in
    let here : region_of s a ≡ q = ap (λ (t : Shape). region_of t a) shape in
    let there : get_or (map items lists) (region_of s a) [] ≡ items list
    = get_or-map items lists (region_of s a) list [] (omega (arith, within, long, length-map lists items)) ∙ ap items (sym read) in
    ap (λ (t : Shape). get_or (items list) (offset_of t a) 0) shape
    ∙ (ap (λ (ws : List ℕ). get_or ws o 0) (sym there ∙ ap (λ k. get_or (map items lists) k []) here)
    ∙ (told q o (omega (arith, within, here)) (offset-within l.table.shape a some) ∙ ap (λ b. word_for (number_of l b)) (address-is l.table.shape a)))
