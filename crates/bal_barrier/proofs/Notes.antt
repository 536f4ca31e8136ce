-- What regions remember after notes.
use Rattle.std.proofs.Common.{◌≡◌, ℕ, ◌<◌, ◌≤◌, inl, inr, Bool, true, false, cond, List, [], ◌∷◌, ◌++◌, length, set, Option, Some, None, refl, ap, sym, ◌∙◌, arith, append_assoc, length-append, get_or-set_other, get_or-set_same, length-set}
use Rattle.std.specs.Prelude.{nat_lt}
use Rattle.std.proofs.lemmas.Bool.{cases_lt}
use Rattle.std.proofs.lemmas.List.{append-nil, set-get_or, set_past}
use Rattle.bal_base.specs.Bits.{is_member, with_member}
use Rattle.bal_base.proofs.Lemmas.{member-with}
use Rattle.bal_layout.specs.Addresses.{card_of}
use Rattle.bal_layout.specs.Regions.{free_region, region_at}
use Rattle.bal_remember.specs.Remembered.{Remembered, cards, overflowed, remembers, with_card}
use Rattle.bal_layout.specs.declared.region_state.RegionState.{RegionState}
use Rattle.bal_words.proofs.Lemmas.{same-or}
use Rattle.bal_table.specs.Table.{Table}
use Rattle.bal_table.specs.declared.slots.Slot.{Slot}
use Rattle.bal_barrier.specs.Flush.{note_into, note_of, notes_of, place_of, region_into, with_note, with_notes, with_states}
use Rattle.bal_barrier.specs.declared.note.Note.{Note}

-- One list.

-- what was remembered still is
remembers-kept : (limit k card : ℕ) (r : Remembered) → remembers r card ≡ true → remembers (with_card limit k r) card ≡ true
remembers-kept limit k card overflowed h = refl
remembers-kept limit k card (cards cs) h = by (is_member cs k) (nat_lt (length cs) limit)
  where
    by : (b c : Bool) → remembers (cond b (cards cs) (cond c (cards (with_member k cs)) overflowed)) card ≡ true
    by true c = h
    by false true = (member-with k card cs).1 (inr h)
    by false false = refl

-- and so is the card that was noted
remembers-own : (limit card : ℕ) (r : Remembered) → remembers (with_card limit card r) card ≡ true
remembers-own limit card overflowed = refl
remembers-own limit card (cards cs) = by (is_member cs card) refl (nat_lt (length cs) limit)
  where
    by : (b : Bool) → is_member cs card ≡ b → (c : Bool) → remembers (cond b (cards cs) (cond c (cards (with_member card cs)) overflowed)) card ≡ true
    by true is c = is
    by false is true = (member-with card card cs).1 (inl refl)
    by false is false = refl

-- a card that is remembered changes nothing
with_card-known : (limit card : ℕ) (r : Remembered) → remembers r card ≡ true → with_card limit card r ≡ r
with_card-known limit card overflowed h = refl
with_card-known limit card (cards cs) h = ap (λ b. cond b (cards cs) (cond (nat_lt (length cs) limit) (cards (with_member card cs)) overflowed)) h

-- The lists of all regions.

-- the state of a region that has noted a card
abbrev pub noting : ℕ → ℕ → RegionState → RegionState
noting limit card r = record r { remembered = with_card limit card r.remembered }

noting-keeps : (limit k card q at : ℕ) (regions : List RegionState) → remembers (region_at regions q).remembered card ≡ true
    → remembers (region_at (set regions at (noting limit k (region_at regions at))) q).remembered card ≡ true
noting-keeps limit k card q at regions h = elim (same-or q at) [
  | inr other ↦ ap (λ (s : RegionState). remembers s.remembered card) (get_or-set_other regions at q (noting limit k (region_at regions at)) free_region other) ∙ h
  | inl here ↦ elim (cases_lt at (length regions)) [
    | inr past ↦ ap (λ (rs : List RegionState). remembers (region_at rs q).remembered card) (set_past regions at (noting limit k (region_at regions at)) past) ∙ h
    | inl within ↦
        ap (λ j. remembers (region_at (set regions at (noting limit k (region_at regions at))) j).remembered card) here
        ∙ (ap (λ (s : RegionState). remembers s.remembered card) (get_or-set_same regions at (noting limit k (region_at regions at)) free_region within)
        ∙ remembers-kept limit k card (region_at regions at).remembered (ap (λ j. remembers (region_at regions j).remembered card) (sym here) ∙ h))
  ]
]

pub notes-keep : (limit : ℕ) (regions : List RegionState) (notes : List Note) (q card : ℕ) → remembers (region_at regions q).remembered card ≡ true
    → remembers (region_at (with_notes limit regions notes) q).remembered card ≡ true
notes-keep limit regions [] q card h = h
notes-keep limit regions (n ∷ ns) q card h = notes-keep limit (with_note limit regions n) ns q card (noting-keeps limit n.card card q n.region regions h)

-- there are as many regions
pub notes-length : (limit : ℕ) (regions : List RegionState) (notes : List Note) → length (with_notes limit regions notes) ≡ length regions
notes-length limit regions [] = refl
notes-length limit regions (n ∷ ns) = notes-length limit (with_note limit regions n) ns ∙ length-set regions n.region (noting limit n.card (region_at regions n.region))

-- Notes after others.

pub with_notes-append : (limit : ℕ) (regions : List RegionState) (ms ns : List Note) → with_notes limit regions (ms ++ ns) ≡ with_notes limit (with_notes limit regions ms) ns
with_notes-append limit regions [] ns = refl
with_notes-append limit regions (m ∷ ms) ns = with_notes-append limit (with_note limit regions m) ms ns

pub notes_of-append : (limit : ℕ) (t : Table) (regions : List RegionState) (xs ys : List Slot)
    → notes_of limit t regions (xs ++ ys) ≡ notes_of limit t regions xs ++ notes_of limit t (with_notes limit regions (notes_of limit t regions xs)) ys
notes_of-append limit t regions [] ys = refl
notes_of-append limit t regions (x ∷ xs) ys =
    let now = note_of t regions x in
    let then = with_notes limit regions now in
    ap (λ (l : List Note). now ++ l) (notes_of-append limit t then xs ys)
    ∙ (sym (append_assoc now (notes_of limit t then xs) (notes_of limit t (with_notes limit then (notes_of limit t then xs)) ys))
    ∙ ap (λ (rs : List RegionState). (now ++ notes_of limit t then xs) ++ notes_of limit t rs ys) (sym (with_notes-append limit regions now (notes_of limit t then xs))))

pub notes_of-one : (limit : ℕ) (t : Table) (regions : List RegionState) (s : Slot) → notes_of limit t regions (s ∷ []) ≡ note_of t regions s
notes_of-one limit t regions s = append-nil (note_of t regions s)

-- the notes depend on the words alone, and on what is remembered
pub notes_of-states : (limit : ℕ) (t : Table) (others regions : List RegionState) (ss : List Slot)
    → notes_of limit (record t { regions = others }) regions ss ≡ notes_of limit t regions ss
notes_of-states limit t others regions [] = refl
notes_of-states limit t others regions (s ∷ ss) =
    ap (λ (l : List Note). note_of t regions s ++ l) (notes_of-states limit t others (with_notes limit regions (note_of t regions s)) ss)

notes_of-more : (limit : ℕ) (t : Table) (regions : List RegionState) (xs : List Slot) (s : Slot)
    → notes_of limit t regions (xs ++ s ∷ []) ≡ notes_of limit t regions xs ++ note_of t (with_notes limit regions (notes_of limit t regions xs)) s
notes_of-more limit t regions xs s =
    notes_of-append limit t regions xs (s ∷ [])
    ∙ ap (λ (l : List Note). notes_of limit t regions xs ++ l) (notes_of-one limit t (with_notes limit regions (notes_of limit t regions xs)) s)

-- there is at most one for each slot
one-few : (t : Table) (regions : List RegionState) (s : Slot) → length (note_of t regions s) ≤ 1
one-few t regions s = by (region_into t s)
  where
    few : (one : Note) (b : Bool) → length (cond b [] (one ∷ [])) ≤ 1
    few one true = omega arith
    few one false = omega arith

    by : (o : Option ℕ) → length (note_into t regions s o) ≤ 1
    by None = omega arith
    by (Some q) = few (record { region = q; card = card_of (place_of t s); holder = s.holder; slot = s.number }) (remembers (region_at regions q).remembered (card_of (place_of t s)))

pub notes-few : (limit : ℕ) (t : Table) (regions : List RegionState) (ss : List Slot) → length (notes_of limit t regions ss) ≤ length ss
notes-few limit t regions [] = omega arith
notes-few limit t regions (s ∷ ss) =
    let now = note_of t regions s in
    omega (arith, length-append now (notes_of limit t (with_notes limit regions now) ss), one-few t regions s, notes-few limit t (with_notes limit regions now) ss)

-- some slots were flushed, and then one more
pub flushed-more : (limit : ℕ) (t u v : Table) (ss more : List Slot) (s : Slot) (before then after : List Note) → more ≡ ss ++ s ∷ []
    → then ≡ before ++ notes_of limit t t.regions ss → u ≡ with_states t (with_notes limit t.regions (notes_of limit t t.regions ss))
    → after ≡ then ++ note_of u u.regions s → v ≡ with_states u (with_notes limit u.regions (note_of u u.regions s))
    → (after ≡ before ++ notes_of limit t t.regions more) × (v ≡ with_states t (with_notes limit t.regions (notes_of limit t t.regions more)))
flushed-more limit t u v ss more s before then after cut notes table one now =
    let ms = notes_of limit t t.regions ss in
    let rs = with_notes limit t.regions ms in
    let n : List Note = note_of t rs s in
    let whole : notes_of limit t t.regions more ≡ ms ++ n = ap (notes_of limit t t.regions) cut ∙ notes_of-more limit t t.regions ss s in
    let same : note_of u u.regions s ≡ n = ap (λ (w : Table). note_of w w.regions s) table in (
      one ∙ (ap (λ (l : List Note). then ++ l) same ∙ (ap (λ (l : List Note). l ++ n) notes ∙ (append_assoc before ms n ∙ ap (λ (l : List Note). before ++ l) (sym whole)))),
      now ∙ (ap (λ (l : List Note). with_states u (with_notes limit u.regions l)) same
          ∙ (ap (λ (w : Table). with_states w (with_notes limit w.regions n)) table
          ∙ ap (with_states t) (sym (with_notes-append limit t.regions ms n) ∙ ap (with_notes limit t.regions) (sym whole)))),
    )

-- One slot.

-- the region of its reference notes the card, and the lists are those after its note
module _ (limit : ℕ) (t : Table) (regions : List RegionState) (s : Slot) (q : ℕ) (into : region_into t s ≡ Some q) where
  abbrev card : ℕ
  card = card_of (place_of t s)

  abbrev one : List Note
  one = record { region = q; card = card; holder = s.holder; slot = s.number } ∷ []

  known : remembers (region_at regions q).remembered card ≡ true → note_of t regions s ≡ []
  known h =
      ap (note_into t regions s) into
      ∙ ap (λ b. cond b [] one) h

  fresh : remembers (region_at regions q).remembered card ≡ false → note_of t regions s ≡ one
  fresh h =
      ap (note_into t regions s) into
      ∙ ap (λ b. cond b [] one) h

  -- the state of its region is another one
  pub states-noted : set regions q (noting limit card (region_at regions q)) ≡ with_notes limit regions (note_of t regions s)
  states-noted = by (remembers (region_at regions q).remembered card) refl
    where
      by : (b : Bool) → remembers (region_at regions q).remembered card ≡ b → set regions q (noting limit card (region_at regions q)) ≡ with_notes limit regions (note_of t regions s)
      by true h =
          ap (λ (r : Remembered). set regions q (record (region_at regions q) { remembered = r })) (with_card-known limit card (region_at regions q).remembered h)
          ∙ (set-get_or regions q free_region ∙ sym (ap (with_notes limit regions) (known h)))
      by false h = sym (ap (with_notes limit regions) (fresh h))

  -- it remembers the card
  pub own-remembered : q < length regions → remembers (region_at (with_notes limit regions (note_of t regions s)) q).remembered card ≡ true
  own-remembered within =
      ap (λ (rs : List RegionState). remembers (region_at rs q).remembered card) (sym states-noted)
      ∙ (ap (λ (r : RegionState). remembers r.remembered card) (get_or-set_same regions q (noting limit card (region_at regions q)) free_region within)
      ∙ remembers-own limit card (region_at regions q).remembered)
