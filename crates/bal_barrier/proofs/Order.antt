-- Notes come by ascending places of their slots.
use Rattle.std.proofs.Common.{◌≡◌, ℕ, ◌<◌, ◌≤◌, ◌⊎◌, inl, inr, Bool, true, false, cond, List, [], ◌∷◌, ◌++◌, map, Option, Some, None, refl, ap, sym, subst, arith}
use Rattle.std.specs.Prelude.{slice_get}
use Rattle.std.proofs.lemmas.Bool.{false≢true}
use Rattle.std.proofs.lemmas.List.{map-append}
use Rattle.bal_base.specs.Bits.{IsAscending, IsNextFrom, is_member}
use Rattle.bal_base.proofs.Lemmas.{among-cases, among-first, among-later}
use Rattle.bal_layout.specs.Addresses.{card_of}
use Rattle.bal_layout.specs.Regions.{region_at}
use Rattle.bal_remember.specs.Remembered.{remembers}
use Rattle.bal_layout.specs.declared.region_state.RegionState.{RegionState}
use Rattle.bal_table.specs.Slots.{slots_on}
use Rattle.bal_table.specs.Table.{IsTable, Table, slot_place}
use Rattle.bal_table.specs.declared.slots.Slot.{Slot}
use Rattle.bal_table.proofs.Lemmas.{card-ascends, card-both}
use Rattle.bal_barrier.specs.Flush.{note_into, note_of, noted_places, notes_of, place_of, region_into, slots_of, with_notes}
use Rattle.bal_barrier.specs.declared.note.Note.{Note}

-- Numbers that ascend.

append-cases : (xs ys : List ℕ) (n : ℕ) → is_member (xs ++ ys) n ≡ true → (is_member xs n ≡ true) ⊎ (is_member ys n ≡ true)
append-cases [] ys n among = inr among
append-cases (x ∷ xs) ys n among = elim (among-cases x n (xs ++ ys) among) [
  | inl here ↦ inl (subst (λ k. is_member (x ∷ xs) k ≡ true) here (among-first x xs))
  | inr later ↦ elim (append-cases xs ys n later) [ inl front ↦ inl (among-later x n xs front) | inr back ↦ inr back ]
]

append-front : (xs ys : List ℕ) (n : ℕ) → is_member xs n ≡ true → is_member (xs ++ ys) n ≡ true
append-front [] ys n among = absurd (false≢true among)
append-front (x ∷ xs) ys n among = elim (among-cases x n xs among) [
  | inl here ↦ subst (λ k. is_member (x ∷ (xs ++ ys)) k ≡ true) here (among-first x (xs ++ ys))
  | inr later ↦ among-later x n (xs ++ ys) (append-front xs ys n later)
]

-- those of a list, and greater ones after them
ascending-append : (xs ys : List ℕ) → IsAscending xs → IsAscending ys → ((x y : ℕ) → is_member xs x ≡ true → is_member ys y ≡ true → x < y) → IsAscending (xs ++ ys)
ascending-append [] ys first second less = second
ascending-append (x ∷ xs) ys first second less = (
  λ n among. elim (append-cases xs ys n among) [
    | inl front ↦ first.0 n front
    | inr back ↦ less x n (among-first x xs) back
  ],
  ascending-append xs ys first.1 second (λ m n front back. less m n (among-later x m xs front) back),
)

-- a front of them
pub ascending-front : (xs ys : List ℕ) → IsAscending (xs ++ ys) → IsAscending xs
ascending-front [] ys all = tt
ascending-front (x ∷ xs) ys all = (λ n among. all.0 n (append-front xs ys n among), ascending-front xs ys all.1)

-- The slots on cards that ascend.

abbrev places : Table → List Slot → List ℕ
places t ss = map (place_of t) ss

abbrev pub AreOn : Table → List ℕ → List ℕ → Type 0
AreOn t cards ps = IsAscending ps × ((p : ℕ) → is_member ps p ≡ true → is_member cards (card_of p) ≡ true)

slots-ascend : (t : Table) (cards : List ℕ) → IsTable t → IsAscending cards → AreOn t cards (places t (slots_of t cards))
slots-ascend t [] table ascend = (tt, λ p among. absurd (false≢true among))
slots-ascend t (c ∷ cs) table ascend =
    let here : List ℕ = places t (slots_on t c) in
    let later : List ℕ = places t (slots_of t cs) in
    let rest = slots-ascend t cs table ascend.1 in
    let on : (p : ℕ) → is_member here p ≡ true → card_of p ≡ c = λ p among. ((card-both t c p table).0 among).1.1 in
    subst (AreOn t (c ∷ cs)) (sym (map-append (place_of t) (slots_on t c) (slots_of t cs))) (
      ascending-append here later (card-ascends t c table) rest.0
          (λ p r front back. omega (arith, ascend.0 (card_of r) (rest.1 r back), on p front)),
      λ p among. elim (append-cases here later p among) [
        | inl front ↦ subst (λ k. is_member (c ∷ cs) k ≡ true) (sym (on p front)) (among-first c cs)
        | inr back ↦ among-later c (card_of p) cs (rest.1 p back)
      ],
    )

-- The slots that are noted.

abbrev AreOf : List ℕ → List ℕ → Type 0
AreOf ps qs = IsAscending qs × ((p : ℕ) → is_member qs p ≡ true → is_member ps p ≡ true)

notes-ascend : (limit : ℕ) (t : Table) (regions : List RegionState) (ss : List Slot) → IsAscending (places t ss)
    → AreOf (places t ss) (noted_places t (notes_of limit t regions ss))
notes-ascend limit t regions [] ascend = (tt, λ p among. among)
notes-ascend limit t regions (s ∷ ss) ascend =
    let now = note_of t regions s in
    let rest : List Note = notes_of limit t (with_notes limit regions now) ss in
    let after = notes-ascend limit t (with_notes limit regions now) ss ascend.1 in
    subst (AreOf (places t (s ∷ ss))) (sym (map-append (λ (n : Note). slot_place t n.holder n.slot) now rest))
    (by rest after (region_into t s))
  where
    none : (rest : List Note) → AreOf (places t ss) (noted_places t rest) → AreOf (places t (s ∷ ss)) (noted_places t rest)
    none rest after = (after.0, λ p among. among-later (place_of t s) p (places t ss) (after.1 p among))

    one : (rest : List Note) → AreOf (places t ss) (noted_places t rest) → (q : ℕ) (b : Bool)
        → AreOf (places t (s ∷ ss)) (noted_places t (cond b [] (record { region = q; card = card_of (place_of t s); holder = s.holder; slot = s.number } ∷ [])) ++ noted_places t rest)
    one rest after q true = none rest after
    one rest after q false = (
      (λ n among. ascend.0 n (after.1 n among), after.0),
      λ p among. elim (among-cases (place_of t s) p (noted_places t rest) among) [
        | inl here ↦ subst (λ k. is_member (places t (s ∷ ss)) k ≡ true) here (among-first (place_of t s) (places t ss))
        | inr later ↦ among-later (place_of t s) p (places t ss) (after.1 p later)
      ],
    )

    by : (rest : List Note) → AreOf (places t ss) (noted_places t rest) → (o : Option ℕ) → AreOf (places t (s ∷ ss)) (noted_places t (note_into t regions s o) ++ noted_places t rest)
    by rest after None = none rest after
    by rest after (Some q) = one rest after q (remembers (region_at regions q).remembered (card_of (place_of t s)))

-- a flush of cards that ascend notes slots by ascending place
pub notes-ordered : (limit : ℕ) (t : Table) (regions : List RegionState) (cards : List ℕ) → IsTable t → IsAscending cards
    → IsAscending (noted_places t (notes_of limit t regions (slots_of t cards)))
notes-ordered limit t regions cards table ascend = (notes-ascend limit t regions (slots_of t cards) (slots-ascend t cards table ascend).0).0

-- The next dirty card.

-- the least member from a number on, below which there is none, is the first
pub next-first : (xs : List ℕ) (from : ℕ) (o : Option ℕ) → IsAscending xs → ((n : ℕ) → is_member xs n ≡ true → from ≤ n) → IsNextFrom xs from o → slice_get xs 0 ≡ o
next-first [] from None ascend all next = refl
next-first [] from (Some s) ascend all next = absurd (false≢true next.0)
next-first (x ∷ xs) from None ascend all next = absurd (omega (arith, all x (among-first x xs), next x (among-first x xs)))
next-first (x ∷ xs) from (Some s) ascend all next = elim (among-cases x s xs next.0) [
  | inl here ↦ ap Some here
  | inr later ↦ absurd (omega (arith, ascend.0 s later, next.2 x (among-first x xs) (all x (among-first x xs))))
]
