-- Freeing a region keeps the references between the others covered.
use Rattle.std.proofs.Common.{◌≡◌, ℕ, ◌+◌, ◌*◌, ◌/◌, ◌<◌, inl, inr, true, false, not, cond, eqb, List, [], ◌∷◌, length, Some, refl, ap, sym, subst, ◌∙◌, arith}
use Rattle.std.specs.Prelude.{◌||◌}
use Rattle.std.specs.List.{list_any}
use Rattle.std.proofs.Math.Nat.{div-div-eq-div-mul}
use Rattle.std.proofs.lemmas.Bool.{cases_lt, eqb-true, false≢true, ne_eqb}
use Rattle.std.proofs.lemmas.List.{get_or_past}
use Rattle.std.proofs.lemmas.Option.{none-some}
use Rattle.bal_base.specs.Bits.{is_member}
use Rattle.bal_cards.specs.Cards.{Cards, cards_outside, without_region}
use Rattle.bal_cards.proofs.Lemmas.{member-filtered}
use Rattle.bal_layout.specs.Addresses.{card_of, region_of}
use Rattle.bal_layout.specs.References.{word_of}
use Rattle.bal_layout.specs.Regions.{free_region, freed, is_in, region_at, region_of_card, without_cards_of}
use Rattle.bal_layout.specs.Shape.{IsShape, Shape, is_region_size, region_sizes}
use Rattle.bal_layout.specs.declared.region_state.RegionState.{RegionState}
use Rattle.bal_layout.proofs.Lemmas.{freed-is}
use Rattle.bal_remember.specs.Remembered.{Remembered, cards, overflowed, remembers}
use Rattle.bal_words.proofs.Lemmas.{same-or}
use Rattle.bal_table.specs.Changes.{with_freed}
use Rattle.bal_table.specs.Slots.{IsSlot}
use Rattle.bal_table.specs.Table.{IsTable, Table}
use Rattle.bal_table.proofs.Lemmas.{IsTable-freed, seen, seen-refs, slot-thing, thing-beside, thing-gone, word-region}
use Rattle.bal_barrier.specs.Coverage.{Crosses, IsCovered, IsUnreferenced, remembered_of}
use Rattle.bal_barrier.proofs.Covering.{or-cases, still}
use Rattle.bal_barrier.proofs.References.{crosses, has-same, refers}

-- The region of a card.

abbrev IsWhole : ℕ → Type 0
IsWhole words = words ≡ 64 * (words / 64)

abbrev AreWhole : List ℕ → Type 0
AreWhole [] = Unit {0}
AreWhole (n ∷ ns) = IsWhole n × AreWhole ns

one-whole : (sizes : List ℕ) (words : ℕ) → list_any (λ size. eqb size words) sizes ≡ true → AreWhole sizes → IsWhole words
one-whole [] words is whole = absurd (false≢true is)
one-whole (n ∷ ns) words is whole = elim (or-cases (eqb n words) (list_any (λ size. eqb size words) ns) is) [
  | inl here ↦ subst IsWhole (eqb-true n words here) whole.0
  | inr later ↦ one-whole ns words later whole.1
]

-- a region has a whole number of cards
whole-cards : (words : ℕ) → is_region_size words ≡ true → IsWhole words
whole-cards words is = one-whole region_sizes words is (refl, (refl, (refl, (refl, (refl, (refl, (refl, (refl, (refl, tt)))))))))

-- a card is one of its addresses' region
pub card-region : (s : Shape) (p : ℕ) → IsShape s → region_of_card s (card_of p) ≡ region_of s p
card-region s p shape =
    let whole = whole-cards s.words shape.power_of_two in
    div-div-eq-div-mul p 64 (s.words / 64) ∙ ap (λ n. p / n) (sym whole)

-- a slot lies in its object's region
slot-region : (t : Table) (a i p : ℕ) → IsTable t → IsSlot t a i p → region_of t.shape p ≡ region_of t.shape a
slot-region t a i p table slot =
    let x = slot-thing t a i p table slot in
    let z = seen t a x.0 table x.1.0 in
    ap (region_of t.shape) (sym slot.at) ∙ word-region t a (2 + i) z.object table z.is (omega (arith, z.size, seen-refs t a x.0 z, x.1.1))

-- Lists that lose the region's cards.

keeps-card : (s : Shape) (q card : ℕ) (r : Remembered) → (region_of_card s card ≡ q → ⊥) → remembers r card ≡ true → remembers (without_cards_of s (q ∷ []) r) card ≡ true
keeps-card s q card overflowed other h = refl
keeps-card s q card (cards cs) other h =
    member-filtered (λ c. not (is_in (region_of_card s c) (q ∷ []))) cs card h
    (ap (λ b. not (b || false)) (ne_eqb q (region_of_card s card) (λ e. other (sym e))))

freed-keeps : (s : Shape) (q k card : ℕ) (regions : List RegionState) → (k ≡ q → ⊥) → (region_of_card s card ≡ q → ⊥)
    → remembers (region_at regions k).remembered card ≡ true → remembers (region_at (freed s (q ∷ []) regions) k).remembered card ≡ true
freed-keeps s q k card regions apart other h = elim (cases_lt k (length regions)) [
  | inl within ↦
      ap (λ (r : RegionState). remembers r.remembered card) (freed-is s (q ∷ []) regions k free_region within)
      ∙ (ap (λ b. remembers (cond (b || false) free_region (record (region_at regions k) { remembered = without_cards_of s (q ∷ []) (region_at regions k).remembered })).remembered card)
      (ne_eqb q k (λ e. apart (sym e)))
      ∙ keeps-card s q card (region_at regions k).remembered other h)
  | inr past ↦ absurd (false≢true (ap (λ (r : RegionState). remembers r.remembered card) (sym (get_or_past regions k free_region past)) ∙ h))
]

pub covered-freed : (t : Table) (c : Cards) (q : ℕ) → IsTable t → q < t.shape.regions → (t.current ≡ Some q → ⊥) → c.shape ≡ t.shape → IsUnreferenced t q → IsCovered t c
    → IsCovered (with_freed t q) (without_region q c)
covered-freed t c q table within current shape none covered = record { each = each }
  where
    each : (a i p b : ℕ) → Crosses (with_freed t q) a i p b
        → (is_member (cards_outside c.shape q c.list) (card_of p) || remembers (remembered_of (with_freed t q) b) (card_of p)) ≡ true
    each a i p b crossing =
        let r = refers (with_freed t q) a i p b (IsTable-freed t q table within current) crossing in
        elim (same-or (region_of t.shape a) q) [
          | inl here ↦ absurd (none-some r.thing (sym (thing-gone t q a table within here) ∙ r.is))
          | inr other ↦
              let x = crosses t a i p b table (has-same t (with_freed t q) a i p (word_of b) (thing-beside t q a other) r) crossing.apart in
              let outside : region_of_card t.shape (card_of p) ≡ q → ⊥ = λ e. other (sym (slot-region t a i p table x.slot) ∙ (sym (card-region t.shape p table.shape) ∙ e)) in
              still c (without_region q c) (remembered_of t b) (remembered_of (with_freed t q) b) (card_of p)
              (λ listed. member-filtered (λ card. not (eqb (region_of_card c.shape card) q)) c.list (card_of p) listed
              (ap not (ne_eqb (region_of_card c.shape (card_of p)) q (λ e. outside (ap (λ (s : Shape). region_of_card s (card_of p)) (sym shape) ∙ e)))))
              (freed-keeps t.shape q (region_of t.shape b) (card_of p) t.regions (λ e. none a i p b x e) outside)
              (covered.each a i p b x)
        ]
