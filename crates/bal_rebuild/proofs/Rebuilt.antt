-- References between regions stay covered, or are covered, once lists are built anew.
use Rattle.std.proofs.Common.{◌≡◌, ℕ, inl, inr, Some, None, [], set, refl, ap, subst, ◌∙◌, get_or-set_other}
use Rattle.std.specs.Prelude.{◌↔◌, ◌||◌, IsTrue, map}
use Rattle.std.proofs.lemmas.Bool.{false≢true, or_left}
use Rattle.bal_base.specs.Bits.{is_member}
use Rattle.bal_cards.specs.Cards.{Cards}
use Rattle.bal_layout.specs.Addresses.{card_of, region_of}
use Rattle.bal_layout.specs.Regions.{free_region, region_at}
use Rattle.bal_layout.specs.declared.region_state.RegionState.{RegionState}
use Rattle.bal_remember.specs.Remembered.{cards, remembers}
use Rattle.bal_words.proofs.Lemmas.{same-or}
use Rattle.bal_table.specs.Changes.{with_remembered}
use Rattle.bal_table.specs.Table.{Table}
use Rattle.bal_barrier.specs.Coverage.{Crosses, IsCovered, remembered_of}
use Rattle.bal_barrier.proofs.Lemmas.{crosses-states, still}
use Rattle.bal_rebuild.specs.Crossings.{HasCrossing}
use Rattle.bal_rebuild.specs.Rebuilt.{AreDirtied, all_flushed, with_empty_list, with_empty_lists}

-- one list is empty, and the cards are dirty from which references lead into its region
pub covered-one : (t : Table) (c d : Cards) (q : ℕ) → AreDirtied c d (HasCrossing t (Some q)) → IsCovered t c → IsCovered (with_remembered t q (cards [])) d
covered-one t c d q dirtied covered = record { each = each }
  where
    emptied : RegionState
    emptied = record (region_at t.regions q) { remembered = cards [] }

    u : Table
    u = with_remembered t q (cards [])

    each : (a i p b : ℕ) → Crosses u a i p b → IsTrue (is_member d.list (card_of p) || remembers (remembered_of u b) (card_of p))
    each a i p b crossing =
        let x = crosses-states t (set t.regions q emptied) t.current a i p b crossing in
        elim (same-or (region_of t.shape b) q) [
          | inl here ↦
              or_left (is_member d.list (card_of p)) (remembers (remembered_of u b) (card_of p))
              ((dirtied.each (card_of p)).1 (inr (record { holder = a; number = i; place = p; target = b; crosses = x; leads = here; on = refl })))
          | inr other ↦
              still c d (remembered_of t b) (remembered_of u b) (card_of p) (λ listed. (dirtied.each (card_of p)).1 (inl listed))
              (λ known. ap (λ (r : RegionState). remembers r.remembered (card_of p)) (get_or-set_other t.regions q (region_of t.shape b) emptied free_region other) ∙ known)
              (covered.each a i p b x)
        ]

-- all lists are empty, and all cards are dirty from which references lead into other regions
pub covered-all : (t : Table) (c d : Cards) → AreDirtied c d (HasCrossing t None) → IsCovered (with_empty_lists t) d
covered-all t c d dirtied = record {
  each = λ a i p b crossing.
      let x = crosses-states t (map with_empty_list t.regions) t.current a i p b crossing in
      or_left (is_member d.list (card_of p)) (remembers (remembered_of (with_empty_lists t) b) (card_of p))
      ((dirtied.each (card_of p)).1 (inr (record { holder = a; number = i; place = p; target = b; crosses = x; leads = tt; on = refl })));
}

-- where no card was dirty, just those are dirty that have become so
pub just-dirtied : (c d e : Cards) (Which : ℕ → Type 0) → d ≡ all_flushed c → AreDirtied d e Which → (card : ℕ) → IsTrue (is_member e.list card) ↔ Which card
just-dirtied c d e Which clean dirtied card = (there, λ has. (dirtied.each card).1 (inr has))
  where
    there : IsTrue (is_member e.list card) → Which card
    there among = elim ((dirtied.each card).0 among) [
      | inl before ↦ absurd (false≢true (subst (λ (x : Cards). IsTrue (is_member x.list card)) clean before))
      | inr has ↦ has
    ]
