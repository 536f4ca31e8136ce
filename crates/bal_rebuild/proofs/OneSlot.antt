-- The card of one slot becomes dirty if its reference counts.
use Rattle.std.proofs.Common.{◌≡◌, ℕ, ◌⊎◌, inl, inr, List, Option, Some, None, refl, ap, sym, subst, ◌∙◌}
use Rattle.std.specs.Prelude.{IfSome, IsTrue, unwrap_or}
use Rattle.std.proofs.lemmas.Option.{none-some, same_Some}
use Rattle.bal_base.specs.Bits.{is_member, with_member}
use Rattle.bal_base.proofs.Lemmas.{member-with}
use Rattle.bal_cards.specs.Cards.{Cards, with_list_dirty}
use Rattle.bal_layout.specs.Addresses.{card_of, region_of}
use Rattle.bal_table.specs.Slots.{IsSlot}
use Rattle.bal_table.specs.Table.{Table, slot_place}
use Rattle.bal_table.specs.declared.slots.Slot.{Slot}
use Rattle.bal_barrier.specs.Flush.{place_of, region_into}
use Rattle.bal_barrier.proofs.Lemmas.{crosses-into, into-crosses}
use Rattle.bal_rebuild.specs.Crossings.{HasCrossingOf}
use Rattle.bal_rebuild.specs.Rebuilt.{AreDirtied}

-- which regions are meant: one, or any
counts : (into : Option ℕ) (q : ℕ) → unwrap_or into q ≡ q → IfSome into (λ r. q ≡ r)
counts None q is = tt
counts (Some r) q is = sym is

counted : (into : Option ℕ) (q : ℕ) → IfSome into (λ r. q ≡ r) → unwrap_or into q ≡ q
counted None q is = refl
counted (Some r) q is = sym is

module _ (t : Table) (into : Option ℕ) (s : Slot) where
  -- it is this slot
  abbrev pub Here : ℕ → ℕ → Type 0
  Here holder number = (holder ≡ s.holder) × (number ≡ s.number)

  -- the region into which its reference leads is found in it
  into-found : (card : ℕ) (has : HasCrossingOf t into Here card) → region_into t s ≡ Some (region_of t.shape has.crossing.target)
  into-found card has =
      let x = has.crossing in
      let at : ℕ → ℕ → Slot = λ h n. record { holder = h; number = n } in
      let same : at x.holder x.number ≡ s = ap (λ h. at h x.number) has.one.0 ∙ ap (at s.holder) has.one.1 in
      ap (region_into t) (sym same) ∙ into-crosses t x.holder x.number x.place x.target x.crosses

  -- it refers to no other region
  pub slot-inside : (c : Cards) → region_into t s ≡ None → AreDirtied c c (HasCrossingOf t into Here)
  slot-inside c none = record { rest = refl; each = λ card. (inl, back card) }
    where
      back : (card : ℕ) → IsTrue (is_member c.list card) ⊎ HasCrossingOf t into Here card → IsTrue (is_member c.list card)
      back card (inl before) = before
      back card (inr has) = absurd (none-some (region_of t.shape has.crossing.target) (sym none ∙ into-found card has))

  -- it refers to one that is not meant
  pub slot-other : (c : Cards) (q : ℕ) → region_into t s ≡ Some q → (unwrap_or into q ≡ q → ⊥) → AreDirtied c c (HasCrossingOf t into Here)
  slot-other c q is other = record { rest = refl; each = λ card. (inl, back card) }
    where
      back : (card : ℕ) → IsTrue (is_member c.list card) ⊎ HasCrossingOf t into Here card → IsTrue (is_member c.list card)
      back card (inl before) = before
      back card (inr has) =
          let x = has.crossing in
          let region : region_of t.shape x.target ≡ q = same_Some (region_of t.shape x.target) q (sym (into-found card has) ∙ is) in
          absurd (other (counted into q (subst (λ r. IfSome into (λ p. r ≡ p)) region x.leads)))

  -- it refers to one that is meant
  pub slot-dirtied : (c d : Cards) (q : ℕ) → IsSlot t s.holder s.number (place_of t s) → region_into t s ≡ Some q → unwrap_or into q ≡ q
      → d ≡ with_list_dirty (card_of (place_of t s)) c → AreDirtied c d (HasCrossingOf t into Here)
  slot-dirtied c d q slot is meant dirty = record {
    rest = dirty ∙ ap (λ (l : List ℕ). record c { list = l }) (sym list);
    each = λ card. (there card, back card);
  }
    where
      own : ℕ
      own = card_of (place_of t s)

      list : d.list ≡ with_member own c.list
      list = ap (λ (x : Cards). x.list) dirty

      has : HasCrossingOf t into Here own
      has =
          let x = crosses-into t s q slot is in
          record {
            crossing = record {
              holder = s.holder;
              number = s.number;
              place = place_of t s;
              target = x.0;
              crosses = x.1.0;
              leads = subst (λ r. IfSome into (λ p. r ≡ p)) (sym x.1.1) (counts into q meant);
              on = refl;
            };
            one = (refl, refl);
          }

      there : (card : ℕ) → IsTrue (is_member d.list card) → IsTrue (is_member c.list card) ⊎ HasCrossingOf t into Here card
      there card among = elim ((member-with own card c.list).0 (subst (λ (l : List ℕ). IsTrue (is_member l card)) list among)) [
        | inl here ↦ inr (subst (HasCrossingOf t into Here) here has)
        | inr before ↦ inl before
      ]

      place : (card : ℕ) (x : HasCrossingOf t into Here card) → own ≡ card
      place card x =
          ap (λ h. card_of (slot_place t h s.number)) (sym x.one.0)
          ∙ (ap (λ n. card_of (slot_place t x.crossing.holder n)) (sym x.one.1) ∙ (ap card_of x.crossing.crosses.slot.at ∙ x.crossing.on))

      back : (card : ℕ) → IsTrue (is_member c.list card) ⊎ HasCrossingOf t into Here card → IsTrue (is_member d.list card)
      back card (inl before) = subst (λ (l : List ℕ). IsTrue (is_member l card)) (sym list) ((member-with own card c.list).1 (inr before))
      back card (inr x) = subst (λ (l : List ℕ). IsTrue (is_member l card)) (sym list) ((member-with own card c.list).1 (inl (place card x)))
