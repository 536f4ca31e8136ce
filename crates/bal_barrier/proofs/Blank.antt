-- An object that refers to nothing covers and uncovers nothing, wherever it is placed.
use Rattle.std.proofs.Common.{◌≡◌, ℕ, inl, inr, replicate, Some, ap, sym, subst, ◌∙◌, arith}
use Rattle.std.specs.Prelude.{IsTrue, ◌||◌}
use Rattle.bal_base.specs.Bits.{is_member}
use Rattle.bal_cards.specs.Cards.{Cards}
use Rattle.bal_layout.specs.Addresses.{card_of, region_of}
use Rattle.bal_layout.specs.References.{word_of}
use Rattle.bal_layout.specs.Regions.{region_at}
use Rattle.bal_layout.specs.Shape.{Shape}
use Rattle.bal_remember.specs.Remembered.{Remembered, remembers}
use Rattle.bal_words.specs.Things.{Thing, Updated}
use Rattle.bal_words.proofs.Lemmas.{same-or}
use Rattle.bal_table.specs.Table.{IsTable, Table, things_of}
use Rattle.bal_barrier.specs.Coverage.{Crosses, IsCovered, remembered_of}
use Rattle.bal_barrier.proofs.References.{crosses, has-null, has-same, refers}

pub covered-blank : (t u : Table) (c : Cards) (a n : ℕ) (x : Thing) → IsTable t → IsTable u → u.shape ≡ t.shape
    → Updated (things_of t) (things_of u) a (Some x) → x.refs ≡ replicate n 0
    → ((q : ℕ) → (region_at u.regions q).remembered ≡ (region_at t.regions q).remembered) → IsCovered t c → IsCovered u c
covered-blank t u c a n x table new shape change blank lists covered = record { each = each }
  where
    each : (h i p b : ℕ) → Crosses u h i p b → IsTrue (is_member c.list (card_of p) || remembers (remembered_of u b) (card_of p))
    each h i p b crossing =
        let r = refers u h i p b new crossing in
        elim (same-or h a) [
          | inl here ↦ absurd (omega (arith, has-null u h i p (word_of b) n x (ap (things_of u) here ∙ change.here) blank r))
          | inr other ↦
              let before = covered.each h i p b (crosses t h i p b table (has-same t u h i p (word_of b) (change.elsewhere h other) r)
              (λ e. crossing.apart (subst (λ (s : Shape). region_of s h ≡ region_of s b) (sym shape) e))) in
              let list : remembered_of u b ≡ remembered_of t b = lists (region_of u.shape b) ∙ ap (λ (s : Shape). (region_at t.regions (region_of s b)).remembered) shape in
              subst (λ (m : Remembered). IsTrue (is_member c.list (card_of p) || remembers m (card_of p))) (sym list) before
        ]
