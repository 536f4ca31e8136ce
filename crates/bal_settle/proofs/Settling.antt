-- While regions are settled, one after the other: what is left to settle.
use Rattle.std.proofs.Common.{◌≡◌, ℕ, ◌<◌, ◌≤◌, inl, inr, Bool, true, false, cond, List, [], ◌∷◌, length, drop, take, Some, refl, ap, sym, subst, ◌∙◌, arith}
use Rattle.std.specs.Prelude.{IsSome, nat_eq}
use Rattle.bal_base.proofs.Lemmas.{among-cases, among-first, among-later}
use Rattle.bal_cards.specs.Cards.{Cards, without_region}
use Rattle.bal_layout.specs.Addresses.{IsAddress, region_of}
use Rattle.bal_layout.specs.Regions.{is_in, is_object}
use Rattle.bal_layout.specs.Shape.{Shape}
use Rattle.bal_sweep.specs.InPlace.{AreOf}
use Rattle.bal_sweep.proofs.Lemmas.{swept-outside}
use Rattle.bal_table.specs.Changes.{with_freed}
use Rattle.bal_table.specs.Table.{IsTable, Table, things_of}
use Rattle.bal_table.proofs.Lemmas.{object-within, seen, thing-beside}
use Rattle.bal_words.specs.Things.{Thing}
use Rattle.bal_words.proofs.Lemmas.{there}
use Rattle.bal_settle.specs.Settled.{MaySettle, marked_in}
use Rattle.bal_settle.specs.Settling.{AreFirst, IsSettling, all_cards_settled, all_settled, cards_settled, with_kept, with_region_settled}
use Rattle.bal_settle.proofs.Ascending.{drop-ascends, in-drop, in-take, not-later, take-ascends}
use Rattle.bal_settle.proofs.Chosen.{current-same, role-beside, shape-same}
use Rattle.bal_settle.proofs.Parts.{part-behind, part-front}

-- objects of other regions stay
things-stay : (own : List ℕ) (u : Table) (q a : ℕ) → (region_of u.shape a ≡ q → ⊥) → things_of (with_region_settled own u q) a ≡ things_of u a
things-stay own u q a other = by (nat_eq (length own) 0)
  where
    by : (b : Bool) → things_of (cond b (with_freed u q) (with_kept own u q)) a ≡ things_of u a
    by true = thing-beside u q a other
    by false = swept-outside u q own a other

-- other regions have the same parts of two lists
all-rest : (s : Shape) (qs ms ns : List ℕ) (u : Table) → u.shape ≡ s → ((p : ℕ) → is_in p qs ≡ true → marked_in s p ms ≡ marked_in s p ns)
    → all_settled qs ms u ≡ all_settled qs ns u
all-rest s [] ms ns u same each = refl
all-rest s (p ∷ ps) ms ns u same each =
    ap (λ (m : List ℕ). all_settled ps ms (with_region_settled m u p))
    (ap (λ (h : Shape). marked_in h p ms) same ∙ (each p (among-first p ps) ∙ sym (ap (λ (h : Shape). marked_in h p ns) same)))
    ∙ all-rest s ps ms ns (with_region_settled (marked_in u.shape p ns) u p) (shape-same (marked_in u.shape p ns) u p ∙ same)
    (λ r among. each r (among-later p r ps among))

cards-rest : (s : Shape) (qs ms ns : List ℕ) (d : Cards) → ((p : ℕ) → is_in p qs ≡ true → marked_in s p ms ≡ marked_in s p ns)
    → all_cards_settled s qs ms d ≡ all_cards_settled s qs ns d
cards-rest s [] ms ns d each = refl
cards-rest s (p ∷ ps) ms ns d each =
    ap (λ (m : List ℕ). all_cards_settled s ps ms (cards_settled m d p)) (each p (among-first p ps))
    ∙ cards-rest s ps ms ns (cards_settled (marked_in s p ns) d p) (λ r among. each r (among-later p r ps among))

cards-same : (own : List ℕ) (d : Cards) (q : ℕ) → (cards_settled own d q).shape ≡ d.shape
cards-same own d q = by (nat_eq (length own) 0)
  where
    by : (b : Bool) → (cond b (without_region q d) d).shape ≡ d.shape
    by true = refl
    by false = refl

module _ (u : Table) (table : IsTable u) (left rest : List ℕ) (may : MaySettle u left rest) where
  -- each marked object has an address
  pub marked-within : (a : ℕ) → is_in a rest ≡ true → IsAddress u.shape a
  marked-within a among = by (there (things_of u a) (may.objects a among))
    where
      by : (x : Thing) × (things_of u a ≡ Some x) → IsAddress u.shape a
      by x = let s = seen u a x.0 table x.1 in (object-within u a s.object table s.is).0

module _ (u : Table) (table : IsTable u) (q : ℕ) (qs rest : List ℕ) (may : MaySettle u (q ∷ qs) rest) where
  -- none lies in a lower region
  pub marked-from : (a : ℕ) → is_in a rest ≡ true → q ≤ region_of u.shape a
  marked-from a among = elim (among-cases q (region_of u.shape a) qs (may.inside a among)) [
    | inl here ↦ omega (arith, here)
    | inr later ↦ let less : q < region_of u.shape a = may.ascending.0 (region_of u.shape a) later in omega (arith, less)
  ]

  module _ (k : ℕ) (first : AreFirst u.shape q rest k) where
    pub own-of : AreOf u q (take k rest)
    own-of = record {
      ascending = take-ascends k rest may.in_order;
      objects = λ a among. may.objects a (in-take k rest a among);
      region = first.front;
    }

    abbrev v : Table
    v = with_region_settled (take k rest) u q

    may-next : MaySettle v qs (drop k rest)
    may-next = record {
      ascending = may.ascending.1;
      regions = λ p among.
          let old = may.regions p (among-later q p qs among) in
          let own = may.regions q (among-first q qs) in (
            subst (λ (h : Shape). p < h.regions) (sym (shape-same (take k rest) u q)) old.0,
            ap is_object (role-beside (take k rest) u q p (λ e. false-true (sym (not-later q qs may.ascending) ∙ subst (λ r. is_in r qs ≡ true) e among))
                (omega (arith, own.0, table.regions)) (omega (arith, old.0, table.regions))) ∙ old.1,
          );
      in_order = drop-ascends k rest may.in_order;
      objects = λ a among. subst IsSome (sym (things-stay (take k rest) u q a (first.behind a among))) (may.objects a (in-drop k rest a among));
      inside = λ a among. subst (λ (h : Shape). is_in (region_of h a) qs ≡ true) (sym (shape-same (take k rest) u q))
          (elim (among-cases q (region_of u.shape a) qs (may.inside a (in-drop k rest a among))) [
            | inl here ↦ absurd (first.behind a among (sym here))
            | inr later ↦ later
          ]);
    }
      where
        false-true : false ≡ true → ⊥
        false-true e = absurd (omega (arith, ap (λ b. cond {A = ℕ} b 1 0) e))

    pub settling-next : (chosen marked : List ℕ) (t : Table) (c d : Cards) → IsSettling chosen marked t c (q ∷ qs) rest u d
        → (w : Table) (e : Cards) (own others : List ℕ) → own ≡ take k rest → others ≡ drop k rest
        → w ≡ with_region_settled own u q → e ≡ cards_settled own d q → IsSettling chosen marked t c qs others w e
    settling-next chosen marked t c d i w e own others front back now clean =
        subst (λ o. IsSettling chosen marked t c qs o w e) (sym back)
        (subst (λ x. IsSettling chosen marked t c qs (drop k rest) x e) (sym (now ∙ ap (λ o. with_region_settled o u q) front))
        (subst (λ x. IsSettling chosen marked t c qs (drop k rest) (with_region_settled (take k rest) u q) x) (sym (clean ∙ ap (λ o. cards_settled o d q) front))
        (record {
          may = may-next;
          current = current-same (take k rest) u q ∙ i.current;
          shape = shape-same (take k rest) u q ∙ i.shape;
          cards_shape = cards-same (take k rest) d q ∙ i.cards_shape;
          table = all-rest u.shape qs (drop k rest) rest (with_region_settled (take k rest) u q) (shape-same (take k rest) u q) apart
              ∙ (ap (λ (m : List ℕ). all_settled qs rest (with_region_settled m u q)) (sym (part-front u.shape q rest k first)) ∙ i.table);
          cards = subst (λ (h : Shape). all_cards_settled h qs (drop k rest) (cards_settled (take k rest) d q) ≡ all_cards_settled h (q ∷ qs) rest d) i.shape
              (cards-rest u.shape qs (drop k rest) rest (cards_settled (take k rest) d q) apart
              ∙ ap (λ (m : List ℕ). all_cards_settled u.shape qs rest (cards_settled m d q)) (sym (part-front u.shape q rest k first)))
              ∙ i.cards;
        })))
      where
        apart : (p : ℕ) → is_in p qs ≡ true → marked_in u.shape p (drop k rest) ≡ marked_in u.shape p rest
        apart p among = part-behind u.shape q rest k first p (λ e. omega (arith, e, may.ascending.0 p among))
