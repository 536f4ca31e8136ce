-- How marked addresses are kept, at each of the changes.
use Rattle.std.proofs.Common.{◌≡◌, ℕ, ◌+◌, ◌/◌, ◌^◌, ◌<◌, ◌≤◌, false, List, [], ◌∷◌, ◌++◌, length, Some, ap, sym, subst, ◌∙◌, arith}
use Rattle.std.proofs.lemmas.Bool.{false≢true}
use Rattle.std.proofs.lemmas.Option.{slice_get_within}
use Rattle.std.specs.Prelude.{slice_get}
use Rattle.std.specs.List.{IsDistinct}
use Rattle.bal_base.specs.Bits.{Members, is_member, with_member}
use Rattle.bal_base.specs.Items.{Seq}
use Rattle.bal_layout.specs.Regions.{is_in}
use Rattle.bal_table.specs.Marks.{IsMarked, Marked, no_marks}
use Rattle.bal_table.specs.KeptMarks.{AreKept, marked_of}
use Rattle.bal_table.specs.declared.marks.Marks.TheInside.{Inside}
use Rattle.bal_table.proofs.Marking.{IsMarked-more, address-new, bits-more, marked-few, one-more}

-- nothing is marked
IsMarked-none : (words : ℕ) → words < 2 ^ 32 → IsMarked (no_marks words)
unfolding IsDistinct
IsMarked-none words few = record { apart = tt; taken = omega arith; within = λ a among. absurd (false≢true among); few = few }

pub AreKept-none : (words : ℕ) (bits : Members) (order : Seq ℕ) → words < 2 ^ 32 → bits.members ≡ [] → order.list ≡ [] → words ≤ bits.room → words / 2 ≤ order.spare
    → AreKept (record { words = words; bits = bits; order = order; taken = 0 })
AreKept-none words bits order few none empty room spare = record {
  marked = subst (λ (o : List ℕ). IsMarked (record { words = words; order = o; taken = 0 })) (sym empty) (IsMarked-none words few);
  each = λ n. ap (λ (ms : List ℕ). is_member ms n) none ∙ ap (is_in n) (sym empty);
  bits = room;
  room = omega (arith, spare);
}

-- one more is
pub AreKept-more : (a : Inside) → AreKept a → (address : ℕ) (bits : Members) (order : Seq ℕ) → address < a.words → is_in address a.order.list ≡ false
    → bits.members ≡ with_member address a.bits.members → a.bits.room ≤ bits.room → order.list ≡ a.order.list ++ address ∷ [] → order.spare + 1 ≡ a.order.spare
    → AreKept (record { words = a.words; bits = bits; order = order; taken = a.taken })
AreKept-more a kept address bits order within new members room list spare = record {
  marked = subst (λ (o : List ℕ). IsMarked (record (marked_of a) { order = o })) (address-new a.order.list address new ∙ sym list)
      (IsMarked-more (marked_of a) address kept.marked within);
  each = λ n. ap (λ (ms : List ℕ). is_member ms n) members ∙ (bits-more a.bits.members a.order.list address kept.each n ∙ ap (is_in n) (sym list));
  bits = let old = kept.bits in omega (arith, old, room);
  room = let old = kept.room in omega (arith, old, spare, ap (λ (l : List ℕ). length l) list, one-more a.order.list address);
}

-- one is taken out of the queue
pub IsMarked-taken : (m : Marked) → IsMarked m → (address : ℕ) → slice_get m.order m.taken ≡ Some address → IsMarked (record m { taken = m.taken + 1 })
IsMarked-taken m is address here = record {
  apart = is.apart;
  taken = omega (arith, slice_get_within m.order m.taken address here);
  within = is.within;
  few = is.few;
}

pub taken-below : (m : Marked) → IsMarked m → (address : ℕ) → slice_get m.order m.taken ≡ Some address → m.taken < m.words
taken-below m is address here = omega (arith, slice_get_within m.order m.taken address here, marked-few m is)
