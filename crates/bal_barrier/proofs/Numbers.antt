-- A number that is written covers and uncovers nothing.
use Rattle.std.proofs.Common.{◌≡◌, ℕ, ◌<◌, inl, inr, length, Some, ap, sym, ◌∙◌}
use Rattle.std.specs.Prelude.{IsTrue, ◌||◌, slice_get}
use Rattle.std.proofs.lemmas.Option.{same_Some}
use Rattle.bal_base.specs.Bits.{is_member}
use Rattle.bal_cards.specs.Cards.{Cards}
use Rattle.bal_layout.specs.Addresses.{card_of}
use Rattle.bal_layout.specs.References.{word_of}
use Rattle.bal_remember.specs.Remembered.{remembers}
use Rattle.bal_words.specs.Things.{Thing, with_value}
use Rattle.bal_words.proofs.Lemmas.{same-or}
use Rattle.bal_table.specs.Changes.{with_word_at}
use Rattle.bal_table.specs.Table.{IsTable, Table, things_of, value_place}
use Rattle.bal_table.proofs.Lemmas.{IsTable-written, number-lies, thing-numbered}
use Rattle.bal_barrier.specs.Coverage.{Crosses, IsCovered, remembered_of}
use Rattle.bal_barrier.proofs.References.{Has, crosses, has-same, refers}

pub covered-number : (t : Table) (c : Cards) (h n number : ℕ) (x : Thing) → IsTable t → things_of t h ≡ Some x → n < length x.values
    → IsCovered t c → IsCovered (with_word_at t (value_place t h n) number) c
covered-number t c h n number x table is within covered = record { each = each }
  where
    u : Table
    u = with_word_at t (value_place t h n) number

    before : (a i p b : ℕ) → Has u a i p (word_of b) → Has t a i p (word_of b)
    before a i p b r =
        let change = thing-numbered t h n number x table is within in
        elim (same-or a h) [
          | inr other ↦ has-same t u a i p (word_of b) (change.elsewhere a other) r
          | inl here ↦
              let same : r.thing ≡ with_value n number x = same_Some r.thing (with_value n number x) (sym r.is ∙ (ap (things_of u) here ∙ change.here)) in
              record { thing = x; is = ap (things_of t) here ∙ is; reads = ap (λ (y : Thing). slice_get y.refs i) (sym same) ∙ r.reads; at = r.at }
        ]

    each : (a i p b : ℕ) → Crosses u a i p b → IsTrue (is_member c.list (card_of p) || remembers (remembered_of u b) (card_of p))
    each a i p b crossing =
        let lies = number-lies t h n x table is within in
        let r = refers u a i p b (IsTable-written t (value_place t h n) number table lies.0 lies.1) crossing in
        covered.each a i p b (crosses t a i p b table (before a i p b r) crossing.apart)
