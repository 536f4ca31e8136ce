-- Cards become dirty in turn, for some slots and then for others.
use Rattle.std.proofs.Common.{◌≡◌, ℕ, ◌⊎◌, inl, inr, Option, refl, ap, ◌∙◌}
use Rattle.std.specs.Prelude.{IsTrue}
use Rattle.bal_base.specs.Bits.{is_member}
use Rattle.bal_cards.specs.Cards.{Cards}
use Rattle.bal_table.specs.Slots.{IsSlot}
use Rattle.bal_table.specs.Table.{Table}
use Rattle.bal_rebuild.specs.Crossings.{HasCrossing, HasCrossingOf}
use Rattle.bal_rebuild.specs.Rebuilt.{AreDirtied}

-- the cards have their shape still
pub dirtied-shape : (c d : Cards) (Which : ℕ → Type 0) → AreDirtied c d Which → d.shape ≡ c.shape
dirtied-shape c d Which dirtied = ap (λ (x : Cards). x.shape) dirtied.rest

module _ (t : Table) (into : Option ℕ) where
  abbrev Of : (ℕ → ℕ → Type 0) → ℕ → Type 0
  Of Slots card = HasCrossingOf t into Slots card

  -- for no slots none does
  pub dirtied-none : (c : Cards) (Slots : ℕ → ℕ → Type 0) → ((a i : ℕ) → Slots a i → ⊥) → AreDirtied c c (Of Slots)
  dirtied-none c Slots none = record { rest = refl; each = λ card. (inl, back card) }
    where
      back : (card : ℕ) → IsTrue (is_member c.list card) ⊎ Of Slots card → IsTrue (is_member c.list card)
      back card (inl before) = before
      back card (inr has) = absurd (none has.crossing.holder has.crossing.number has.one)

  -- for the same slots, said in another way, the same do
  pub dirtied-same : (c d : Cards) (Slots Others : ℕ → ℕ → Type 0) → AreDirtied c d (Of Slots) → ((a i : ℕ) → Slots a i → Others a i)
      → ((a i p : ℕ) → IsSlot t a i p → Others a i → Slots a i) → AreDirtied c d (Of Others)
  dirtied-same c d Slots Others dirtied to from = record { rest = dirtied.rest; each = λ card. (there card, back card) }
    where
      there : (card : ℕ) → IsTrue (is_member d.list card) → IsTrue (is_member c.list card) ⊎ Of Others card
      there card among = elim ((dirtied.each card).0 among) [
        | inl before ↦ inl before
        | inr has ↦ inr (record { crossing = has.crossing; one = to has.crossing.holder has.crossing.number has.one })
      ]

      back : (card : ℕ) → IsTrue (is_member c.list card) ⊎ Of Others card → IsTrue (is_member d.list card)
      back card (inl before) = (dirtied.each card).1 (inl before)
      back card (inr has) =
          let x = has.crossing in
          (dirtied.each card).1 (inr (record { crossing = x; one = from x.holder x.number x.place x.crosses.slot has.one }))

  -- for some slots and then for others
  pub dirtied-then : (c d e : Cards) (First Second Both : ℕ → ℕ → Type 0) → AreDirtied c d (Of First) → AreDirtied d e (Of Second)
      → ((a i : ℕ) → First a i → Both a i) → ((a i : ℕ) → Second a i → Both a i) → ((a i p : ℕ) → IsSlot t a i p → Both a i → First a i ⊎ Second a i)
      → AreDirtied c e (Of Both)
  dirtied-then c d e First Second Both one two first second split = record {
    rest = two.rest ∙ ap (λ (x : Cards). record x { list = e.list }) one.rest;
    each = λ card. (there card, back card);
  }
    where
      there : (card : ℕ) → IsTrue (is_member e.list card) → IsTrue (is_member c.list card) ⊎ Of Both card
      there card among = elim ((two.each card).0 among) [
        | inr has ↦ inr (record { crossing = has.crossing; one = second has.crossing.holder has.crossing.number has.one })
        | inl between ↦ elim ((one.each card).0 between) [
          | inl before ↦ inl before
          | inr has ↦ inr (record { crossing = has.crossing; one = first has.crossing.holder has.crossing.number has.one })
        ]
      ]

      back : (card : ℕ) → IsTrue (is_member c.list card) ⊎ Of Both card → IsTrue (is_member e.list card)
      back card (inl before) = (two.each card).1 (inl ((one.each card).1 (inl before)))
      back card (inr has) =
          let x = has.crossing in
          elim (split x.holder x.number x.place x.crosses.slot has.one) [
            | inl here ↦ (two.each card).1 (inl ((one.each card).1 (inr (record { crossing = x; one = here }))))
            | inr here ↦ (two.each card).1 (inr (record { crossing = x; one = here }))
          ]

  -- for all slots
  pub dirtied-all : (c d : Cards) (Slots : ℕ → ℕ → Type 0) → AreDirtied c d (Of Slots) → ((a i p : ℕ) → IsSlot t a i p → Slots a i)
      → AreDirtied c d (HasCrossing t into)
  dirtied-all c d Slots dirtied all = record { rest = dirtied.rest; each = λ card. (there card, back card) }
    where
      there : (card : ℕ) → IsTrue (is_member d.list card) → IsTrue (is_member c.list card) ⊎ HasCrossing t into card
      there card among = elim ((dirtied.each card).0 among) [ inl before ↦ inl before | inr has ↦ inr has.crossing ]

      back : (card : ℕ) → IsTrue (is_member c.list card) ⊎ HasCrossing t into card → IsTrue (is_member d.list card)
      back card (inl before) = (dirtied.each card).1 (inl before)
      back card (inr x) = (dirtied.each card).1 (inr (record { crossing = x; one = all x.holder x.number x.place x.crosses.slot }))
