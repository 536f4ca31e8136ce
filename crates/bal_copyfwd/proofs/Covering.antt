-- References are covered again after a partial collection.
use Rattle.std.proofs.Common.{◌≡◌, ℕ, Bool, true, false, List, refl, ap, sym, subst, ◌∙◌, arith}
use Rattle.std.specs.Prelude.{◌||◌, IsSome, IsTrue, not}
use Rattle.std.proofs.lemmas.Bool.{false≢true}
use Rattle.bal_base.specs.Bits.{is_member}
use Rattle.bal_barrier.specs.Coverage.{AreRemembered, Crosses, IsCovered, remembered_of}
use Rattle.bal_barrier.specs.Flush.{LeadToObjects}
use Rattle.bal_cards.specs.Cards.{Cards}
use Rattle.bal_cards.proofs.Lemmas.{member-filtered}
use Rattle.bal_copyfwd.specs.Covered.{IsCollected, Parts}
use Rattle.bal_copyfwd.proofs.Roles.{object-role}
use Rattle.bal_layout.specs.Addresses.{card_of, region_of}
use Rattle.bal_layout.specs.References.{word_of}
use Rattle.bal_layout.specs.Regions.{is_in, region_of_card, without_cards_of}
use Rattle.bal_layout.specs.Shape.{Shape}
use Rattle.bal_layout.proofs.Lemmas.{card-region}
use Rattle.bal_remember.specs.Remembered.{Remembered, cards, overflowed, remembers}
use Rattle.bal_table.specs.Slots.{IsSlot}
use Rattle.bal_table.specs.Table.{IsTable, Table, remembered_at, things_of, word_at}
use Rattle.bal_table.proofs.Lemmas.{slot-region}
use Rattle.bal_words.specs.Shown.{Finds}

-- a list keeps a card of a region that was not freed
still-remembered : (s : Shape) (freed : List ℕ) (r : Remembered) (card : ℕ) → is_in (region_of_card s card) freed ≡ false → IsTrue (remembers r card)
    → IsTrue (remembers (without_cards_of s freed r) card)
still-remembered s freed (cards cs) card out among = member-filtered (λ k. not (is_in (region_of_card s k) freed)) cs card among (ap not out)
still-remembered s freed overflowed card out among = refl

module _ (t v : Table) (d : Cards) (p : Parts) (table : IsTable t) (all : AreRemembered t) (found : LeadToObjects t) (c : IsCollected t v d p) where
  -- a reference outside that was not gathered leads where it led, and the region there remembers it
  stays : (holder number place target : ℕ) → Crosses v holder number place target → is_in (region_of t.shape holder) p.survivors ≡ false
      → is_in place p.places ≡ false → IsTrue (remembers (remembered_of v target) (card_of place))
  stays holder number place target x out apart =
      let old = c.outside holder number place x.slot out in
      let leads : word_at t place ≡ word_of target = sym (c.words holder number place x.slot out apart) ∙ x.leads in
      let s : v.shape ≡ t.shape = c.shape in
      let before : Crosses t holder number place target = record {
        slot = old.0;
        leads = leads;
        apart = λ same. x.apart (ap (λ (s : Shape). region_of s holder) s ∙ (same ∙ ap (λ (s : Shape). region_of s target) (sym s)));
      } in
      let finds : IsSome (things_of t target) = subst (Finds (things_of t)) leads (found.each holder number place old.0) in
      let home : region_of t.shape place ≡ region_of t.shape holder = slot-region t holder number place table old.0 in
      let free : is_in (region_of_card t.shape (card_of place)) p.freed ≡ false =
      ap (λ q. is_in q p.freed) (card-region t.shape place table.shape ∙ home) ∙ not-freed (region_of t.shape holder) old.1 (is_in (region_of t.shape holder) p.freed) refl in
      let lists : remembered_of v target ≡ without_cards_of t.shape p.freed (remembered_at t (region_of t.shape target)) =
      ap (λ (s : Shape). remembered_at v (region_of s target)) s
      ∙ c.lists (region_of t.shape target) (object-role t target table finds) (not-chosen old.0 old.1 leads (is_in (region_of t.shape target) p.chosen) refl) in
      subst (λ (r : Remembered). IsTrue (remembers r (card_of place))) (sym lists)
      (still-remembered t.shape p.freed (remembered_at t (region_of t.shape target)) (card_of place) free (all.each holder number place target before))
    where
      not-freed : (q : ℕ) → is_in q p.chosen ≡ false → (b : Bool) → is_in q p.freed ≡ b → b ≡ false
      not-freed q other false is = refl
      not-freed q other true is = absurd (false≢true (sym other ∙ c.freed q is))

      not-chosen : IsSlot t holder number place → is_in (region_of t.shape holder) p.chosen ≡ false → word_at t place ≡ word_of target
          → (b : Bool) → is_in (region_of t.shape target) p.chosen ≡ b → b ≡ false
      not-chosen slot other leads false is = refl
      not-chosen slot other leads true is = absurd (false≢true (sym apart ∙ c.gathered holder number place target slot other leads is))

  pub covered : IsCovered v d
  covered = record { each = λ holder number place target x. by holder number place target x (is_in (region_of t.shape holder) p.survivors) refl (is_in place p.places) refl }
    where
      left : (a b : Bool) → IsTrue a → IsTrue (a || b)
      left true b h = refl
      left false b h = absurd (false≢true h)

      right : (a b : Bool) → IsTrue b → IsTrue (a || b)
      right true b h = refl
      right false b h = h

      filled : (place target : ℕ) → word_at v place ≡ word_of target → word_at v place ≡ 0 → ⊥
      filled place target leads null = omega (arith, leads, null)

      by : (holder number place target : ℕ) → Crosses v holder number place target → (b : Bool) → is_in (region_of t.shape holder) p.survivors ≡ b
          → (e : Bool) → is_in place p.places ≡ e → IsTrue (is_member d.list (card_of place) || remembers (remembered_of v target) (card_of place))
      by holder number place target x true lies e is =
          left (is_member d.list (card_of place)) _ (c.survived holder number place x.slot lies (filled place target x.leads))
      by holder number place target x false out true is = left (is_member d.list (card_of place)) _ (c.placed place is)
      by holder number place target x false out false is = right (is_member d.list (card_of place)) _ (stays holder number place target x out is)
