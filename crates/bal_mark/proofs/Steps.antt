-- Words are marked by one after the other.
use Rattle.std.proofs.Common.{◌≡◌, ℕ, ◌+◌, ◌<◌, ◌≤◌, ◌^◌, List, length, get_or, take, ap, sym, subst, ◌∙◌}
use Rattle.std.specs.Prelude.{All, IfSome}
use Rattle.std.proofs.lemmas.List.Elements.{All-take}
use Rattle.std.proofs.lemmas.List.Sums.{fold_more}
use Rattle.std.proofs.lemmas.Option.{get_or_from_slice_get}
use Rattle.bal_layout.specs.References.{target_of}
use Rattle.bal_table.specs.Marks.{Marked}
use Rattle.bal_table.specs.Table.{IsTable, Table, refs_in, slot_place, things_of, word_at}
use Rattle.bal_table.proofs.Lemmas.{reference-there}
use Rattle.bal_words.specs.Shown.{Finds}
use Rattle.bal_mark.specs.Marking.{AreMarksOf, MayBeMarked, with_all_led, with_led}
use Rattle.bal_mark.proofs.Room.{all-led-marks, may-mark, word-limit}

-- a slot's word is the object's reference
pub slot-word : (t : Table) (a slot place : ℕ) → IsTable t → slot < length (refs_in (things_of t a)) → place ≡ slot_place t a slot
    → word_at t place ≡ get_or (refs_in (things_of t a)) slot 0
slot-word t a slot place table within at =
    ap (word_at t) at ∙ sym (get_or_from_slice_get (refs_in (things_of t a)) slot (word_at t (slot_place t a slot)) 0 (reference-there t a slot table within).2)

-- so many of the words were gone over, and the next one is this
module _ (t : Table) (m now : Marked) (words : List ℕ) (i word : ℕ) (so_far : now ≡ with_all_led m (take i words)) (within : i < length words) (is : word ≡ get_or words i 0) where
  -- what it leads to may be marked
  module _ (marks : AreMarksOf t m) (found : All (Finds (things_of t)) words) where
    finds : Finds (things_of t) word
    finds = subst (Finds (things_of t)) (sym is) (found i 0 within)

    pub next-limit : word ≤ 2 ^ 32
    next-limit = word-limit t word marks.table finds

    pub next-may : IfSome (target_of word) (MayBeMarked now)
    next-may = may-mark t now word
        (subst (AreMarksOf t) (sym so_far) (all-led-marks t (take i words) m marks (All-take (Finds (things_of t)) i words found))) finds

  -- and then one more was gone over
  pub next-led : (after : Marked) → after ≡ with_led now word → after ≡ with_all_led m (take (i + 1) words)
  next-led after led = led ∙ (ap (λ (k : Marked). with_led k word) so_far ∙ (ap (with_led (with_all_led m (take i words))) is ∙ sym (fold_more with_led m words i 0 within)))
