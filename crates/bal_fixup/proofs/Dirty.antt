-- Cards become dirty in turn, for some slots and then for others.
use Rattle.std.proofs.Common.{◌≡◌, ◌<◌, ℕ, ◌⊎◌, inl, inr, List, Option, None, Some, length, refl, ap, sym, subst, ◌∙◌, arith}
use Rattle.std.specs.Prelude.{◌↔◌, IsTrue, slice_get}
use Rattle.std.proofs.lemmas.Option.{same_Some}
use Rattle.bal_base.specs.Bits.{is_member, with_member}
use Rattle.bal_base.proofs.Lemmas.{member-with}
use Rattle.bal_cards.specs.Cards.{Cards, with_dirty}
use Rattle.bal_fixup.specs.Dirtied.{BecameDirty, HasReference}
use Rattle.bal_layout.specs.Addresses.{card_of}
use Rattle.bal_table.specs.Slots.{IsSlot}
use Rattle.bal_table.specs.Table.{IsTable, Table, refs_in, slot_place, things_of, word_at}
use Rattle.bal_table.proofs.Lemmas.{slot-lies_at, thing-slot}
use Rattle.bal_words.specs.Things.{Thing}

-- Sets of cards.

-- a set has these cards beside those that it had
abbrev pub Gains : List ℕ → List ℕ → (ℕ → Type 0) → Type 0
Gains old new Which = (card : ℕ) → IsTrue (is_member new card) ↔ (IsTrue (is_member old card) ⊎ Which card)

gains-none : (cards : List ℕ) (Which : ℕ → Type 0) → ((card : ℕ) → Which card → ⊥) → Gains cards cards Which
gains-none cards Which none card = (inl, back)
  where
    back : IsTrue (is_member cards card) ⊎ Which card → IsTrue (is_member cards card)
    back (inl before) = before
    back (inr has) = absurd (none card has)

gains-one : (cards : List ℕ) (own : ℕ) (Which : ℕ → Type 0) → Which own → ((card : ℕ) → Which card → own ≡ card) → Gains cards (with_member own cards) Which
gains-one cards own Which has same card = (there, back)
  where
    there : IsTrue (is_member (with_member own cards) card) → IsTrue (is_member cards card) ⊎ Which card
    there among = elim ((member-with own card cards).0 among) [ inl here ↦ inr (subst Which here has) | inr before ↦ inl before ]

    back : IsTrue (is_member cards card) ⊎ Which card → IsTrue (is_member (with_member own cards) card)
    back (inl before) = (member-with own card cards).1 (inr before)
    back (inr is) = (member-with own card cards).1 (inl (same card is))

-- some, and then some more
gains-then : (a b c : List ℕ) (First Second Both : ℕ → Type 0) → Gains a b First → Gains b c Second
    → ((card : ℕ) → First card → Both card) → ((card : ℕ) → Second card → Both card) → ((card : ℕ) → Both card → First card ⊎ Second card) → Gains a c Both
gains-then a b c First Second Both one two first second split card = (there, back)
  where
    there : IsTrue (is_member c card) → IsTrue (is_member a card) ⊎ Both card
    there among = elim ((two card).0 among) [
      | inr has ↦ inr (second card has)
      | inl between ↦ elim ((one card).0 between) [ inl before ↦ inl before | inr has ↦ inr (first card has) ]
    ]

    back : IsTrue (is_member a card) ⊎ Both card → IsTrue (is_member c card)
    back (inl before) = (two card).1 (inl ((one card).1 (inl before)))
    back (inr has) = elim (split card has) [ inl here ↦ (two card).1 (inl ((one card).1 (inr here))) | inr here ↦ (two card).1 (inr here) ]

-- Both sets at once.

pub became-none : (c : Cards) (Which : ℕ → Type 0) → ((card : ℕ) → Which card → ⊥) → BecameDirty c c Which
became-none c Which none = record { shape = refl; list = gains-none c.list Which none; mark = gains-none c.mark Which none }

pub became-then : (c d e : Cards) (First Second Both : ℕ → Type 0) → BecameDirty c d First → BecameDirty d e Second
    → ((card : ℕ) → First card → Both card) → ((card : ℕ) → Second card → Both card) → ((card : ℕ) → Both card → First card ⊎ Second card) → BecameDirty c e Both
became-then c d e First Second Both one two first second split = record {
  shape = two.shape ∙ one.shape;
  list = gains-then c.list d.list e.list First Second Both one.list two.list first second split;
  mark = gains-then c.mark d.mark e.mark First Second Both one.mark two.mark first second split;
}

pub became-same : (c d : Cards) (Which Others : ℕ → Type 0) → BecameDirty c d Which → ((card : ℕ) → Which card → Others card)
    → ((card : ℕ) → Others card → Which card) → BecameDirty c d Others
became-same c d Which Others dirty to from =
    became-then c d d Which (λ card. ⊥) Others dirty (became-none d (λ card. ⊥) (λ card none. none)) to (λ card none. absurd none) (λ card has. inl (from card has))

-- Slots.

module _ (t : Table) where
  abbrev Of : (ℕ → ℕ → Type 0) → ℕ → Type 0
  Of Slots card = HasReference t Slots card

  -- the same reference, in a slot that is told in another way
  told : (First Second : ℕ → ℕ → Type 0) (card : ℕ) (has : Of First card) → Second has.holder has.number → Of Second card
  told First Second card has one =
      record { holder = has.holder; number = has.number; place = has.place; slot = has.slot; filled = has.filled; on = has.on; one = one }

  pub dirty-none : (c : Cards) (Slots : ℕ → ℕ → Type 0) → ((a i : ℕ) → Slots a i → ⊥) → BecameDirty c c (Of Slots)
  dirty-none c Slots none = became-none c (Of Slots) (λ card has. none has.holder has.number has.one)

  pub dirty-same : (c d : Cards) (Slots Others : ℕ → ℕ → Type 0) → BecameDirty c d (Of Slots) → ((a i : ℕ) → Slots a i → Others a i)
      → ((a i p : ℕ) → IsSlot t a i p → Others a i → Slots a i) → BecameDirty c d (Of Others)
  dirty-same c d Slots Others dirty to from =
      became-same c d (Of Slots) (Of Others) dirty (λ card has. told Slots Others card has (to has.holder has.number has.one))
      (λ card has. told Others Slots card has (from has.holder has.number has.place has.slot has.one))

  pub dirty-then : (c d e : Cards) (First Second Both : ℕ → ℕ → Type 0) → BecameDirty c d (Of First) → BecameDirty d e (Of Second)
      → ((a i : ℕ) → First a i → Both a i) → ((a i : ℕ) → Second a i → Both a i) → ((a i p : ℕ) → IsSlot t a i p → Both a i → First a i ⊎ Second a i)
      → BecameDirty c e (Of Both)
  dirty-then c d e First Second Both one two first second split =
      became-then c d e (Of First) (Of Second) (Of Both) one two (λ card has. told First Both card has (first has.holder has.number has.one))
      (λ card has. told Second Both card has (second has.holder has.number has.one)) apart
    where
      apart : (card : ℕ) → Of Both card → Of First card ⊎ Of Second card
      apart card has = elim (split has.holder has.number has.place has.slot has.one) [
        | inl here ↦ inl (told Both First card has here)
        | inr here ↦ inr (told Both Second card has here)
      ]

  -- One slot.

  -- each reference has one
  pub slot-there : (a i : ℕ) → IsTable t → i < length (refs_in (things_of t a)) → IsSlot t a i (slot_place t a i)
  slot-there a i table within = by (things_of t a) refl within
    where
      by : (o : Option Thing) → things_of t a ≡ o → i < length (refs_in o) → IsSlot t a i (slot_place t a i)
      by None is less = absurd (omega (arith, less))
      by (Some x) is less = thing-slot t a i x table is less

  module _ (a i : ℕ) where
    abbrev pub Here : ℕ → ℕ → Type 0
    Here holder number = (holder ≡ a) × (number ≡ i)

    place : (card : ℕ) (has : Of Here card) → slot_place t a i ≡ has.place
    place card has = ap (λ h. slot_place t h i) (sym has.one.0) ∙ (ap (slot_place t has.holder) (sym has.one.1) ∙ has.slot.at)

    pub slot-null : (c : Cards) → word_at t (slot_place t a i) ≡ 0 → BecameDirty c c (Of Here)
    slot-null c null = became-none c (Of Here) (λ card has. has.filled (subst (λ p. word_at t p ≡ 0) (place card has) null))

    pub slot-dirty : (c d : Cards) → IsSlot t a i (slot_place t a i) → (word_at t (slot_place t a i) ≡ 0 → ⊥)
        → d ≡ with_dirty (card_of (slot_place t a i)) c → BecameDirty c d (Of Here)
    slot-dirty c d slot filled is = subst (λ (x : Cards). BecameDirty c x (Of Here)) (sym is) (record {
      shape = refl;
      list = gains-one c.list own (Of Here) has same;
      mark = gains-one c.mark own (Of Here) has same;
    })
      where
        own : ℕ
        own = card_of (slot_place t a i)

        has : Of Here own
        has = record { holder = a; number = i; place = slot_place t a i; slot = slot; filled = filled; on = refl; one = (refl, refl) }

        same : (card : ℕ) → Of Here card → own ≡ card
        same card x = ap card_of (place card x) ∙ x.on

-- the slots of a table whose references have other words, but are null where they were
pub dirty-moved : (t u : Table) (c d : Cards) (Slots : ℕ → ℕ → Type 0) → BecameDirty c d (HasReference u Slots)
    → ((a i p : ℕ) → Slots a i → IsSlot u a i p → IsSlot t a i p × (word_at t p ≡ word_at u p))
    → ((a i p : ℕ) → Slots a i → IsSlot t a i p → IsSlot u a i p × (word_at u p ≡ word_at t p)) → BecameDirty c d (HasReference t Slots)
dirty-moved t u c d Slots dirty to from = became-same c d (HasReference u Slots) (HasReference t Slots) dirty
    (λ card has. let same = to has.holder has.number has.place has.one has.slot in record {
      holder = has.holder;
      number = has.number;
      place = has.place;
      slot = same.0;
      filled = λ null. has.filled (sym same.1 ∙ null);
      on = has.on;
      one = has.one;
    })
    (λ card has. let same = from has.holder has.number has.place has.one has.slot in record {
      holder = has.holder;
      number = has.number;
      place = has.place;
      slot = same.0;
      filled = λ null. has.filled (sym same.1 ∙ null);
      on = has.on;
      one = has.one;
    })

-- the reference in a slot of an object that is the same in two tables
pub word-same : (t u : Table) (a i p : ℕ) → IsTable t → IsTable u → things_of u a ≡ things_of t a → IsSlot t a i p → IsSlot u a i p → word_at u p ≡ word_at t p
word-same t u a i p one two same here there =
    let x = slot-lies_at t a i p one here in
    let y = slot-lies_at u a i p two there in
    let thing : y.thing ≡ x.thing = same_Some y.thing x.thing (sym y.is ∙ (same ∙ x.is)) in
    same_Some (word_at u p) (word_at t p) (sym y.read ∙ (ap (λ (z : Thing). slice_get z.refs i) thing ∙ x.read))
