-- From one object of a region to the next.
use Rattle.std.proofs.Common.{◌≡◌, ℕ, ◌+◌, ◌-◌, ◌*◌, ◌<◌, ◌≤◌, ◌⊎◌, inl, inr, true, List, [], length, Option, Some, None, refl, ap, sym, subst, ◌∙◌, arith}
use Rattle.std.specs.Prelude.{option_map}
use Rattle.std.specs.Option.{option_or}
use Rattle.std.proofs.Math.Nat.{div-lt_iff_lt-mul}
use Rattle.std.proofs.lemmas.Bool.{cases_lt}
use Rattle.std.proofs.lemmas.Option.{none-some, same_Some}
use Rattle.bal_layout.specs.Addresses.{IsAddress, address_in, offset_of, region_of}
use Rattle.bal_words.specs.Things.{Thing}
use Rattle.bal_words.proofs.Lemmas.{mapped-from, there}
use Rattle.bal_region.specs.Land.{IsLand, Land, first_from, holder_of, object_in, starts_at}
use Rattle.bal_region.proofs.Lemmas.{first-is, first-none, holder-is, laid-each, object-starts, object-there, size-seen, size-two}
use Rattle.bal_table.specs.Slots.{IsSlot, slot_at, slot_in, slots_between}
use Rattle.bal_table.specs.declared.slots.Slot.{Slot}
use Rattle.bal_table.specs.Table.{IsTable, Table, holder_at, land_at, object_from, objects_of, refs_in, things_of, values_in}
use Rattle.bal_table.proofs.Held.{held-by, holder-has, object-thing}
use Rattle.bal_table.proofs.Places.{address-is, behind-offset, behind-region}
use Rattle.bal_table.proofs.Seen.{objects-at, seen, seen-refs, seen-values, start-inside}
use Rattle.bal_table.proofs.SlotWords.{word-within}
use Rattle.bal_table.proofs.SlotPlaces.{between-none, slot-lies_at, slot_at-is, slot_at-there, thing-slot}

-- In one region.

-- where no object has the word at an offset, none has one behind it before the next object starts
land-gap : (l : Land) (o p : ℕ) → IsLand l → holder_of l o ≡ None → o ≤ p → ((s : ℕ) → starts_at l s ≡ true → o ≤ s → p < s) → holder_of l p ≡ None
land-gap l o p land none from before = by (holder_of l p) refl
  where
    held : (s : ℕ) → holder_of l p ≡ Some s → ⊥
    held s is =
        let holds = (holder-is l s p land).0 is in
        elim (cases_lt s o) [
          | inl less ↦ none-some s (sym none ∙ (holder-is l s o land).1 (holds.0, (holds.1.0, omega (arith, less), omega (arith, from, holds.1.2))))
          | inr more ↦ omega (arith, before s (object-starts l s holds.0 holds.1.0).0 more, holds.1.1)
        ]

    by : (h : Option ℕ) → holder_of l p ≡ h → h ≡ None
    by None is = refl
    by (Some s) is = absurd (held s is)

-- In the table.

mapped-none : {X Y : Type 0} (f : X → Y) (o : Option X) → option_map f o ≡ None → o ≡ None
mapped-none f None is = refl
mapped-none f (Some x) is = absurd (none-some (f x) (sym is))

-- where no object has the word at an address, none has one behind it in that region before the next object starts
table-gap : (t : Table) (p q : ℕ) → IsTable t → IsAddress t.shape p → holder_at t p ≡ None → p ≤ q → region_of t.shape q ≡ region_of t.shape p
    → ((s : ℕ) → starts_at (land_at t (region_of t.shape p)) s ≡ true → offset_of t.shape p ≤ s → offset_of t.shape q < s) → holder_at t q ≡ None
table-gap t p q table address none from same before =
    let s = t.shape in
    let r = region_of s p in
    let some : 0 < s.words = omega (arith, table.shape.fewest_words) in
    let land = (table.each r ((div-lt_iff_lt-mul some).1 address)).land in
    let here = mapped-none (address_in s r) (holder_of (land_at t r) (offset_of s p)) none in
    let behind : offset_of s p ≤ offset_of s q = omega (arith, address-is s p, address-is s q, ap (λ n. n * s.words) same, from) in
    ap (λ n. option_map (address_in s n) (holder_of (land_at t n) (offset_of s q))) same
    ∙ ap (option_map (address_in s r)) (land-gap (land_at t r) (offset_of s p) (offset_of s q) land here behind before)

-- what is known of the object from an address on: where it lies, and that no object has a word before it
pub record IsFrom (t : Table) (p a : ℕ) : Type 0 where
  pub object : List ℕ
  pub is : objects_of t a ≡ Some object
  pub ends : p < a + length object
  pub gap : (q : ℕ) → p ≤ q → q < a → holder_at t q ≡ None

-- it has the word
from-held : (t : Table) (p a : ℕ) → IsTable t → holder_at t p ≡ Some a → IsFrom t p a
from-held t p a table is =
    let has = holder-has t p a table is in
    record { object = has.0; is = has.1.0; ends = has.1.2; gap = λ q from before. absurd (omega (arith, has.1.1)) }

-- or is the next one
from-next : (t : Table) (p a : ℕ) → IsTable t → IsAddress t.shape p → holder_at t p ≡ None
    → option_map (address_in t.shape (region_of t.shape p)) (first_from (land_at t (region_of t.shape p)) (offset_of t.shape p)) ≡ Some a → IsFrom t p a
from-next t p a table address none is =
    let s = t.shape in
    let r = region_of s p in
    let l = land_at t r in
    let some : 0 < s.words = omega (arith, table.shape.fewest_words) in
    let within : r < s.regions = (div-lt_iff_lt-mul some).1 address in
    let region = table.each r within in
    let found = mapped-from (address_in s r) (first_from l (offset_of s p)) a is in
    let at = found.0 in
    let first = (first-is l (offset_of s p) at region.land).0 found.1.0 in
    let object = object-there l at first.0 in
    let two = size-two l.words at (laid-each l.words 0 l.starts l.used at region.land.laid first.0).1 in
    let begins = start-inside t r at table within first.0 in
    let ahead : (q : ℕ) → p ≤ q → q < a → offset_of s p + (q - p) < at = λ q from before. omega (arith, address-is s p, found.1.1) in
    let inside : (q : ℕ) → p ≤ q → q < a → offset_of s p + (q - p) < s.words = λ q from before. omega (arith, ahead q from before, begins) in
    let on : (q : ℕ) → p ≤ q → p + (q - p) ≡ q = λ q from. omega arith in
    record {
      object = object_in l.words at;
      is = subst (λ b. objects_of t b ≡ Some (object_in l.words at)) found.1.1 (objects-at t r at begins ∙ object);
      ends = omega (arith, address-is s p, found.1.1, first.1, two, size-seen l at region.land (object_in l.words at) object);
      gap = λ q from before.
          table-gap t p q table address none from (ap (region_of s) (sym (on q from)) ∙ behind-region s p (q - p) (inside q from before))
          (λ u starts later. omega (arith, first.2 u starts later, ahead q from before, ap (offset_of s) (on q from), behind-offset s p (q - p) (inside q from before)));
    }

-- the object from an address on is one of these
pub from-some : (t : Table) (p a : ℕ) → IsTable t → IsAddress t.shape p → object_from t p ≡ Some a → IsFrom t p a
from-some t p a table address is = by (holder_at t p) refl is
  where
    by : (h : Option ℕ) → holder_at t p ≡ h
        → option_or h (option_map (address_in t.shape (region_of t.shape p)) (first_from (land_at t (region_of t.shape p)) (offset_of t.shape p))) ≡ Some a → IsFrom t p a
    by None none is = from-next t p a table address none is
    by (Some b) held is = from-held t p a table (held ∙ is)

-- and if there is none, no object has a word from there on in that region
pub from-none : (t : Table) (p q : ℕ) → IsTable t → IsAddress t.shape p → object_from t p ≡ None → p ≤ q → region_of t.shape q ≡ region_of t.shape p → holder_at t q ≡ None
from-none t p q table address is from same = by (holder_at t p) refl is
  where
    by : (h : Option ℕ) → holder_at t p ≡ h
        → option_or h (option_map (address_in t.shape (region_of t.shape p)) (first_from (land_at t (region_of t.shape p)) (offset_of t.shape p))) ≡ None → holder_at t q ≡ None
    by (Some b) held is = absurd (none-some b (sym is))
    by None none is =
        let last = mapped-none (address_in t.shape (region_of t.shape p)) (first_from (land_at t (region_of t.shape p)) (offset_of t.shape p)) is in
        table-gap t p q table address none from same
        (λ u starts later. absurd (omega (arith, first-none (land_at t (region_of t.shape p)) (offset_of t.shape p) u last starts)))

-- The words of one object.

-- an object has a word for each of its references and numbers, after its header and its name
pub object-size : (t : Table) (a : ℕ) (object : List ℕ) → IsTable t → objects_of t a ≡ Some object
    → length object ≡ 2 + length (refs_in (things_of t a)) + length (values_in (things_of t a))
object-size t a object table is =
    let x = there (things_of t a) (object-thing t a object table is) in
    let s = seen t a x.0 table x.1 in
    let same : s.object ≡ object = same_Some s.object object (sym s.is ∙ is) in
    omega (
      arith,
      ap (λ (o : List ℕ). length o) same,
      s.size,
      seen-refs t a x.0 s,
      seen-values t a x.0 s,
      ap (λ (o : Option Thing). length (refs_in o)) x.1,
      ap (λ (o : Option Thing). length (values_in o)) x.1,
    )

module _ (t : Table) (a : ℕ) (object : List ℕ) (table : IsTable t) (is : objects_of t a ≡ Some object) where
  -- each reference has a slot
  pub slot-here : (p : ℕ) → a + 2 ≤ p → p < a + 2 + length (refs_in (things_of t a)) → slot_at t p ≡ Some (record { holder = a; number = p - (a + 2) })
  slot-here p from to =
      let x = there (things_of t a) (object-thing t a object table is) in
      let within : p - (a + 2) < length x.0.refs = omega (arith, ap (λ (o : Option Thing). length (refs_in o)) x.1) in
      let place : a + (2 + (p - (a + 2))) ≡ p = omega arith in
      slot_at-there t a (p - (a + 2)) p table (subst (IsSlot t a (p - (a + 2))) place (thing-slot t a (p - (a + 2)) x.0 table x.1 within))

  -- and no other word is one
  pub slot-not : (p : ℕ) → a ≤ p → p < a + length object → (p < a + 2) ⊎ (a + 2 + length (refs_in (things_of t a)) ≤ p) → slot_at t p ≡ None
  slot-not p from to other = by (slot_at t p) refl
    where
      slot : (s : Slot) → IsSlot t s.holder s.number p → ⊥
      slot s lies =
          let known = slot-lies_at t s.holder s.number p table lies in
          let same : s.holder ≡ a = same_Some s.holder a (sym known.held ∙ held-by t a p table (object, (is, from, to))) in
          let refs : length (refs_in (things_of t a)) ≡ length known.thing.refs = ap (λ (o : Option Thing). length (refs_in o)) (ap (things_of t) (sym same) ∙ known.is) in
          elim other [ inl before ↦ omega (arith, lies.at, same) | inr behind ↦ omega (arith, lies.at, same, refs, known.within) ]

      by : (o : Option Slot) → slot_at t p ≡ o → o ≡ None
      by None none = refl
      by (Some s) found = absurd (slot s (slot_at-is t p s table found))

-- The slots of the object from an address on.

-- its references lie behind its header, and end where its numbers begin; it ends behind that address, and in the heap. No
-- other word from there to its end is a slot
pub record IsRun (t : Table) (p a refs values : ℕ) : Type 0 where
  pub ends : p < a + (2 + refs + values)
  pub inside : a + (2 + refs + values) ≤ t.shape.regions * t.shape.words
  pub before : (q : ℕ) → p ≤ q → q < a + 2 → slot_at t q ≡ None
  pub slot : (q : ℕ) → a + 2 ≤ q → q < a + 2 + refs → slot_at t q ≡ Some (record { holder = a; number = q - (a + 2) })
  pub behind : (q : ℕ) → a + 2 + refs ≤ q → q < a + (2 + refs + values) → slot_at t q ≡ None

pub run : (t : Table) (p a refs values : ℕ) → IsTable t → IsAddress t.shape p → object_from t p ≡ Some a → refs ≡ length (refs_in (things_of t a))
    → values ≡ length (values_in (things_of t a)) → IsRun t p a refs values
run t p a refs values table address is rs vs =
    let one = from-some t p a table address is in
    let size = object-size t a one.object table one.is in
    record {
      ends = omega (arith, one.ends, size);
      inside = omega (arith, size, word-within t a (length one.object - 1) one.object table one.is (omega (arith, size)));
      before = λ q from less. elim (cases_lt q a) [
        | inl gap ↦ ap (slot_in t q) (one.gap q from gap)
        | inr more ↦ slot-not t a one.object table one.is q more (omega (arith, size)) (inl less)
      ];
      slot = λ q from less. slot-here t a one.object table one.is q from (omega arith);
      behind = λ q from less. slot-not t a one.object table one.is q (omega arith) (omega (arith, size)) (inr (omega arith));
    }

-- where no object is from an address on, there are no slots up to an end in that region
pub run-none : (t : Table) (p end : ℕ) → IsTable t → IsAddress t.shape p → object_from t p ≡ None
    → ((q : ℕ) → p ≤ q → q < end → region_of t.shape q ≡ region_of t.shape p) → slots_between t p end ≡ []
run-none t p end table address is region =
    between-none t p end (λ q from to. ap (slot_in t q) (from-none t p q table address is from (region q from to)))
