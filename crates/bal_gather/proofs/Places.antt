-- The places of what is gathered ascend.
use Rattle.std.proofs.Common.{◌≡◌, ℕ, ◌*◌, ◌<◌, ◌⊎◌, inl, inr, Bool, true, false, cond, List, [], ◌∷◌, ◌++◌, map, None, Some, refl, ap, sym, subst, arith}
use Rattle.std.specs.Prelude.{is_some}
use Rattle.std.specs.List.{cons_option}
use Rattle.std.proofs.lemmas.Bool.{false≢true}
use Rattle.std.proofs.lemmas.List.{map-append}
use Rattle.bal_base.specs.Bits.{IsAscending, is_member}
use Rattle.bal_base.proofs.Lemmas.{among-cases, among-first, among-later}
use Rattle.bal_layout.specs.Addresses.{card_of}
use Rattle.bal_table.specs.Slots.{card_places, slots_on}
use Rattle.bal_table.specs.Table.{IsTable, Table, slot_place}
use Rattle.bal_table.specs.declared.slots.Slot.{Slot}
use Rattle.bal_table.proofs.Lemmas.{card-ascends, card-both}
use Rattle.bal_gather.specs.Gathered.{IsGathered, places_leading, reference_in, references_on, references_on_all}
use Rattle.bal_gather.specs.Lent.{Lent, is_chosen}
use Rattle.bal_gather.specs.Objects.{number_behind}
use Rattle.bal_gather.specs.declared.outside.Reference.{Reference}

-- Two lists, one behind the other.

member-append : (xs ys : List ℕ) (n : ℕ) → is_member (xs ++ ys) n ≡ true → (is_member xs n ≡ true) ⊎ (is_member ys n ≡ true)
member-append [] ys n among = inr among
member-append (x ∷ xs) ys n among = elim (among-cases x n (xs ++ ys) among) [
  | inl here ↦ inl (subst (λ m. is_member (x ∷ xs) m ≡ true) here (among-first x xs))
  | inr later ↦ elim (member-append xs ys n later) [
    | inl front ↦ inl (among-later x n xs front)
    | inr back ↦ inr back
  ]
]

ascend-append : (xs ys : List ℕ) → IsAscending xs → IsAscending ys → ((x y : ℕ) → is_member xs x ≡ true → is_member ys y ≡ true → x < y) → IsAscending (xs ++ ys)
ascend-append [] ys up more less = more
ascend-append (x ∷ xs) ys up more less = (
  λ n among. elim (member-append xs ys n among) [
    | inl front ↦ up.0 n front
    | inr back ↦ less x n (among-first x xs) back
  ],
  ascend-append xs ys up.1 more (λ m n front back. less m n (among-later x m xs front) back),
)

-- The places of references.

abbrev place : Reference → ℕ
place r = r.place

places-of : (t : Table) (ss : List Slot) → map place (map (reference_in t) ss) ≡ map (λ (s : Slot). slot_place t s.holder s.number) ss
places-of t [] = refl
places-of t (s ∷ ss) = ap (λ (xs : List ℕ). slot_place t s.holder s.number ∷ xs) (places-of t ss)

module _ (l : Lent) (table : IsTable l.table) where
  -- those on a card ascend, and lie there
  on-card : (card : ℕ) → IsAscending (map place (references_on l card)) × ((p : ℕ) → is_member (map place (references_on l card)) p ≡ true → card_of p ≡ card)
  on-card card = by (is_chosen l (64 * card))
    where
      by : (b : Bool) → IsAscending (map place (map (reference_in l.table) (cond b [] (slots_on l.table card))))
          × ((p : ℕ) → is_member (map place (map (reference_in l.table) (cond b [] (slots_on l.table card)))) p ≡ true → card_of p ≡ card)
      by true = (tt, λ p among. absurd (false≢true among))
      by false =
          let same : card_places l.table card ≡ map place (map (reference_in l.table) (slots_on l.table card)) = sym (places-of l.table (slots_on l.table card)) in (
            subst IsAscending same (card-ascends l.table card table),
            λ p among. ((card-both l.table card p table).0 (subst (λ (xs : List ℕ). is_member xs p ≡ true) (sym same) among)).1.1,
          )

  -- those on ascending cards too
  on-cards : (cards : List ℕ) → IsAscending cards
      → IsAscending (map place (references_on_all l cards)) × ((p : ℕ) → is_member (map place (references_on_all l cards)) p ≡ true → is_member cards (card_of p) ≡ true)
  on-cards [] up = (tt, λ p among. absurd (false≢true among))
  on-cards (card ∷ cards) up =
      let here = on-card card in
      let rest = on-cards cards up.1 in
      let front = map place (references_on l card) in
      let back = map place (references_on_all l cards) in
      let same : map place (references_on_all l (card ∷ cards)) ≡ front ++ back = map-append place (references_on l card) (references_on_all l cards) in (
        subst IsAscending (sym same) (ascend-append front back here.0 rest.0 (λ x y one two. behind x y (here.1 x one) (up.0 (card_of y) (rest.1 y two)))),
        λ p among. elim (member-append front back p (subst (λ (xs : List ℕ). is_member xs p ≡ true) same among)) [
          | inl one ↦ subst (λ c. is_member (card ∷ cards) c ≡ true) (sym (here.1 p one)) (among-first card cards)
          | inr two ↦ among-later card (card_of p) cards (rest.1 p two)
        ],
      )
    where
      behind : (x y : ℕ) → card_of x ≡ card → card < card_of y → x < y
      behind x y on less = omega (arith, on, less)

  -- and of those the ones that lead to objects
  leading-was : (rs : List Reference) (p : ℕ) → is_member (places_leading l rs) p ≡ true → is_member (map place rs) p ≡ true
  leading-was [] p among = absurd (false≢true among)
  leading-was (r ∷ rs) p among = by (λ later. leading-was rs p later) (is_some (number_behind l r.word)) among
    where
      by : (is_member (places_leading l rs) p ≡ true → is_member (map place rs) p ≡ true) → (b : Bool)
          → is_member (cons_option (cond b (Some r.place) None) (places_leading l rs)) p ≡ true → is_member (r.place ∷ map place rs) p ≡ true
      by rest false among = among-later r.place p (map place rs) (rest among)
      by rest true among = elim (among-cases r.place p (places_leading l rs) among) [
        | inl here ↦ subst (λ q. is_member (r.place ∷ map place rs) q ≡ true) here (among-first r.place (map place rs))
        | inr later ↦ among-later r.place p (map place rs) (rest later)
      ]

  leading-ascend : (rs : List Reference) → IsAscending (map place rs) → IsAscending (places_leading l rs)
  leading-ascend [] up = tt
  leading-ascend (r ∷ rs) up = by (leading-ascend rs up.1) (is_some (number_behind l r.word))
    where
      by : IsAscending (places_leading l rs) → (b : Bool) → IsAscending (cons_option (cond b (Some r.place) None) (places_leading l rs))
      by rest false = rest
      by rest true = (λ p among. up.0 p (leading-was rs p among), rest)

  pub gathered-ascend : (roots held places : List ℕ) → IsGathered l roots held places → IsAscending places
  gathered-ascend roots held places g =
      subst IsAscending (sym g.are_places) (leading-ascend (references_on_all l g.cards) (on-cards g.cards g.ascending).0)
