-- What a written word leaves as it was: where objects start, and where their slots lie.
use Rattle.std.proofs.Common.{◌≡◌, ℕ, ◌+◌, ◌-◌, ◌<◌, ◌≤◌, ◌⊎◌, inl, inr, List, length, set, Option, Some, None, refl, ap, sym, subst, ◌∙◌, arith}
use Rattle.std.specs.Prelude.{◌↔◌, IsTrue, option_and_then, option_map}
use Rattle.std.proofs.lemmas.Bool.{cases_lt}
use Rattle.std.proofs.lemmas.Nat.{div_below}
use Rattle.std.proofs.lemmas.Option.{none-some}
use Rattle.bal_layout.specs.Addresses.{IsAddress, address_in, offset_of, region_of}
use Rattle.bal_layout.specs.declared.header.Header.{Header}
use Rattle.bal_words.specs.Pieces.{header_in}
use Rattle.bal_words.specs.Things.{Updated}
use Rattle.bal_words.proofs.Lemmas.{header-kept, same-or}
use Rattle.bal_region.specs.Changes.{with_word}
use Rattle.bal_region.specs.Land.{holder_of, object_at, starts_at}
use Rattle.bal_region.proofs.Lemmas.{object-outside, object-starts, object-written}
use Rattle.bal_table.specs.Changes.{MayBeWritten, with_land, with_word_at}
use Rattle.bal_table.specs.Slots.{IsSlot}
use Rattle.bal_table.specs.Table.{IsTable, Table, holder_at, land_at, objects_of, slot_place}
use Rattle.bal_table.proofs.Held.{holder-has}
use Rattle.bal_table.proofs.Lifted.{objects-beside, objects-lifted, objects-there}
use Rattle.bal_table.proofs.Places.{address-is}
use Rattle.bal_table.proofs.Seen.{object-land, object-region}
use Rattle.bal_table.proofs.SlotWords.{word-inside, word-offset, word-region}

-- a word that is written in an object, after its name, is another of its words, and no other object is touched
pub object-written_at : (t : Table) (a k word : ℕ) (object : List ℕ) → IsTable t → objects_of t a ≡ Some object → 2 ≤ k → k < length object
    → Updated (objects_of t) (objects_of (with_word_at t (a + k) word)) a (Some (set object k word))
object-written_at t a k word object table is two within =
    let q = region_of t.shape a in
    let at = offset_of t.shape a in
    let change = object-written (land_at t q) at k object (object-land t a object table is) is two within word in
    let lifted = objects-lifted t q (with_word (land_at t q) (at + k) word) at (Some (set object k word))
    (omega (arith, table.lands, object-region t a object table is)) (omega (arith, word-inside t a k object table is within)) change in
    let there : with_word_at t (a + k) word ≡ with_land t q (with_word (land_at t q) (at + k) word) =
    ap (λ r. with_land t r (with_word (land_at t r) (offset_of t.shape (a + k)) word)) (word-region t a k object table is within)
    ∙ ap (λ o. with_land t q (with_word (land_at t q) o word)) (word-offset t a k object table is within) in
    subst (λ (u : Table). Updated (objects_of t) (objects_of u) a (Some (set object k word))) (sym there)
    (subst (λ b. Updated (objects_of t) (objects_of (with_land t q (with_word (land_at t q) (at + k) word))) b (Some (set object k word))) (address-is t.shape a) lifted)

-- a word of no object is no object's after it is written
object-free : (t : Table) (p word a : ℕ) → IsTable t → IsAddress t.shape p → holder_at t p ≡ None → objects_of (with_word_at t p word) a ≡ objects_of t a
object-free t p word a table address none = by (same-or (region_of t.shape a) (region_of t.shape p))
  where
    within : region_of t.shape p < t.shape.regions
    within = div_below p t.shape.words t.shape.regions (omega (arith, table.shape.fewest_words)) address

    unheld : (o : Option ℕ) → option_map (address_in t.shape (region_of t.shape p)) o ≡ None → o ≡ None
    unheld None is = refl
    unheld (Some s) is = absurd (none-some (address_in t.shape (region_of t.shape p) s) (sym is))

    by : (region_of t.shape a ≡ region_of t.shape p) ⊎ (region_of t.shape a ≡ region_of t.shape p → ⊥) → objects_of (with_word_at t p word) a ≡ objects_of t a
    by (inl here) =
        let l = land_at t (region_of t.shape p) in
        let m = with_word l (offset_of t.shape p) word in
        objects-there t (region_of t.shape p) m a (omega (arith, within, table.lands)) here
        ∙ (object-outside l (offset_of t.shape p) word (offset_of t.shape a) (table.each (region_of t.shape p) within).land (unheld (holder_of l (offset_of t.shape p)) none)
        ∙ ap (λ r. object_at (land_at t r) (offset_of t.shape a)) (sym here))
    by (inr other) = objects-beside t (region_of t.shape p) (with_word (land_at t (region_of t.shape p)) (offset_of t.shape p) word) a other

-- the header of what starts at an address
abbrev pub header_of_object : Table → ℕ → Option Header
header_of_object t a = option_and_then header_in (objects_of t a)

-- each header stays
header-stays : (t : Table) (p word a : ℕ) → IsTable t → IsAddress t.shape p → MayBeWritten t p → header_of_object (with_word_at t p word) a ≡ header_of_object t a
header-stays t p word a table address may = by (holder_at t p) refl
  where
    inside : (b k : ℕ) (object : List ℕ) → b + k ≡ p → objects_of t b ≡ Some object → k < length object → 2 ≤ k
    inside b k object place is within =
        let starts = (object-starts (land_at t (region_of t.shape b)) (offset_of t.shape b) object is).0 in
        let region : region_of t.shape p ≡ region_of t.shape b = ap (region_of t.shape) (sym place) ∙ word-region t b k object table is within in
        let offset : offset_of t.shape p ≡ offset_of t.shape b + k = ap (offset_of t.shape) (sym place) ∙ word-offset t b k object table is within in
        let apart = may (offset_of t.shape b) (subst (λ r. IsTrue (starts_at (land_at t r) (offset_of t.shape b))) (sym region) starts) in
        elim (cases_lt k 2) [
          | inr two ↦ two
          | inl less ↦ elim (cases_lt k 1) [
            | inl none ↦ absurd (apart.0 (omega (arith, offset, none)))
            | inr one ↦ absurd (apart.1 (omega (arith, offset, one, less)))
          ]
        ]

    held : (b k : ℕ) (object : List ℕ) → b + k ≡ p → objects_of t b ≡ Some object → k < length object → header_of_object (with_word_at t p word) a ≡ header_of_object t a
    held b k object place is within =
        let two = inside b k object place is within in
        let change = subst (λ r. Updated (objects_of t) (objects_of (with_word_at t r word)) b (Some (set object k word))) place (object-written_at t b k word object table is two within) in
        elim (same-or a b) [
          | inl same ↦ ap (λ c. header_of_object (with_word_at t p word) c) same
              ∙ (ap (option_and_then header_in) change.here
              ∙ (header-kept object k word two ∙ (sym (ap (option_and_then header_in) is) ∙ ap (header_of_object t) (sym same))))
          | inr other ↦ ap (option_and_then header_in) (change.elsewhere a other)
        ]

    by : (o : Option ℕ) → holder_at t p ≡ o → header_of_object (with_word_at t p word) a ≡ header_of_object t a
    by None none = ap (option_and_then header_in) (object-free t p word a table address none)
    by (Some b) is =
        let has = holder-has t p b table is in
        held b (p - b) has.0 (omega (arith, has.1.1)) has.1.0 (omega (arith, has.1.1, has.1.2))

-- a slot is told by a header
slot-header : (t : Table) (a i p : ℕ) → IsSlot t a i p → (h : Header) × ((header_of_object t a ≡ Some h) × (i < h.refs))
slot-header t a i p s = (s.header, (ap (option_and_then header_in) s.is ∙ s.read, s.within))

header-slot : (t : Table) (a i p : ℕ) (h : Header) → header_of_object t a ≡ Some h → i < h.refs → slot_place t a i ≡ p → IsSlot t a i p
header-slot t a i p h is within at = by (objects_of t a) refl is
  where
    by : (o : Option (List ℕ)) → objects_of t a ≡ o → option_and_then header_in o ≡ Some h → IsSlot t a i p
    by None none is = absurd (none-some h is)
    by (Some object) known is = record { object = object; header = h; is = known; read = is; within = within; at = at }

-- so all slots stay where they are
pub slots-stay : (t : Table) (p word a i q : ℕ) → IsTable t → IsAddress t.shape p → MayBeWritten t p → IsSlot (with_word_at t p word) a i q ↔ IsSlot t a i q
slots-stay t p word a i q table address may = (
  λ s.
      let found = slot-header (with_word_at t p word) a i q s in
      header-slot t a i q found.0 (sym (header-stays t p word a table address may) ∙ found.1.0) found.1.1 s.at,
  λ s.
      let found = slot-header t a i q s in
      header-slot (with_word_at t p word) a i q found.0 (header-stays t p word a table address may ∙ found.1.0) found.1.1 s.at,
)
