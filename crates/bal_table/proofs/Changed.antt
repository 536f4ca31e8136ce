-- Which objects of a table a change touches.
use Rattle.std.proofs.Common.{◌≡◌, ℕ, ◌+◌, ◌<◌, ◌≤◌, inl, inr, List, length, set, map, Option, Some, None, refl, ap, sym, subst, ◌∙◌, arith}
use Rattle.std.specs.Prelude.{option_and_then}
use Rattle.std.specs.List.{range_with_len}
use Rattle.std.proofs.lemmas.Bool.{cases_lt}
use Rattle.std.proofs.lemmas.List.{get_or_past}
use Rattle.std.proofs.lemmas.List.FromFn.{get_or-map-range_with_len, length-map-range_with_len}
use Rattle.bal_layout.specs.Addresses.{address_in, offset_of, region_of}
use Rattle.bal_layout.specs.Shape.{IsShape, Shape}
use Rattle.bal_words.specs.Things.{Thing, Updated, blank_thing, with_ref, with_value}
use Rattle.bal_words.proofs.Lemmas.{header-kept, piece-numbered, piece-referred}
use Rattle.bal_region.specs.Changes.{blank_words, empty_land, with_object, without}
use Rattle.bal_region.specs.Land.{IsObject, Land, object_at}
use Rattle.bal_region.proofs.Lemmas.{none-at_used, object-placed, object-removed}
use Rattle.bal_table.specs.Changes.{empty_table, with_freed, with_new, with_placed, with_word_at, without_object}
use Rattle.bal_table.specs.Table.{IsPiece, IsTable, Table, land_at, objects_of, slot_place, thing_in, things_of, value_place}
use Rattle.bal_table.proofs.Lifted.{objects-beside, objects-lifted, objects-there, things-lifted, things-same}
use Rattle.bal_table.proofs.Pieces.{IsObject-piece, length-piece, object-two, thing-blank, thing-in}
use Rattle.bal_table.proofs.Places.{address-is, offset-within}
use Rattle.bal_table.proofs.Seen.{object-region, objects-at, seen, seen-refs, seen-values, value-place}
use Rattle.bal_table.proofs.Written.{object-written_at}

-- A word is written.

-- a word that is written after an object's name is written in that object
thing-written : (t : Table) (a k word : ℕ) (object : List ℕ) → IsTable t → objects_of t a ≡ Some object → 2 ≤ k → k < length object
    → Updated (things_of t) (things_of (with_word_at t (a + k) word)) a (thing_in (set object k word))
thing-written t a k word object table is two within =
    let change = object-written_at t a k word object table is two within in
    record {
      here = ap (option_and_then thing_in) change.here;
      elsewhere = λ other apart. things-same t (with_word_at t (a + k) word) other (change.elsewhere other apart);
    }

-- where a reference lies, it is that reference
pub thing-referred : (t : Table) (a slot word : ℕ) (x : Thing) → IsTable t → things_of t a ≡ Some x → slot < length x.refs
    → Updated (things_of t) (things_of (with_word_at t (slot_place t a slot) word)) a (Some (with_ref slot word x))
thing-referred t a slot word x table is within =
    let s = seen t a x table is in
    let refs = seen-refs t a x s in
    let words = set s.object (2 + slot) word in
    let now : thing_in words ≡ Some (with_ref slot word x) =
    thing-in words s.header (header-kept s.object (2 + slot) word (omega arith) ∙ s.read) s.whole
    ∙ ap Some (piece-referred s.header s.object slot word (omega (arith, within, refs)) ∙ ap (with_ref slot word) s.thing) in
    subst (Updated (things_of t) (things_of (with_word_at t (slot_place t a slot) word)) a) now
    (thing-written t a (2 + slot) word s.object table s.is (omega arith) (omega (arith, within, refs, s.size)))

-- where a number lies, it is that number
pub thing-numbered : (t : Table) (a slot number : ℕ) (x : Thing) → IsTable t → things_of t a ≡ Some x → slot < length x.values
    → Updated (things_of t) (things_of (with_word_at t (value_place t a slot) number)) a (Some (with_value slot number x))
thing-numbered t a slot number x table is within =
    let s = seen t a x table is in
    let values = seen-values t a x s in
    let words = set s.object (2 + s.header.refs + slot) number in
    let now : thing_in words ≡ Some (with_value slot number x) =
    thing-in words s.header (header-kept s.object (2 + s.header.refs + slot) number (omega arith) ∙ s.read) s.whole
    ∙ ap Some (piece-numbered s.header s.object slot number (omega (arith, within, values)) ∙ ap (with_value slot number) s.thing) in
    subst (λ p. Updated (things_of t) (things_of (with_word_at t p number)) a (Some (with_value slot number x))) (sym (value-place t a slot x s is))
    (subst (Updated (things_of t) (things_of (with_word_at t (a + (2 + s.header.refs + slot)) number)) a) now
    (thing-written t a (2 + s.header.refs + slot) number s.object table s.is (omega arith) (omega (arith, within, values, s.size))))

-- An object is placed.

-- where the next object goes, none starts
pub thing-free : (t : Table) (q : ℕ) → IsTable t → q < t.shape.regions → (land_at t q).used < t.shape.words
    → things_of t (address_in t.shape q (land_at t q).used) ≡ None
thing-free t q table within room =
    ap (option_and_then thing_in) (objects-at t q (land_at t q).used room ∙ none-at_used (land_at t q) (table.each q within).land)

-- there starts one that is placed, and no other is touched
pub object-appended : (t : Table) (q : ℕ) (object : List ℕ) → IsObject t.shape.words object → IsTable t → q < t.shape.regions
    → (land_at t q).used + length object ≤ t.shape.words
    → Updated (objects_of t) (objects_of (with_placed t q object)) (address_in t.shape q (land_at t q).used) (Some object)
object-appended t q object is table within fits =
    let region = table.each q within in
    let room = subst (λ n. IsObject n object) (sym region.words) is in
    objects-lifted t q (with_object (land_at t q) object) (land_at t q).used (Some object) (omega (arith, within, table.lands))
    (omega (arith, fits, object-two t.shape.words object is)) (object-placed (land_at t q) object region.land room (omega (arith, fits, region.words)))

-- and a new one
pub thing-placed : (t : Table) (q first second words : ℕ) (p : IsPiece t.shape first second words) → IsTable t → q < t.shape.regions
    → (land_at t q).used + words ≤ t.shape.words
    → Updated (things_of t) (things_of (with_new t q first second words)) (address_in t.shape q (land_at t q).used)
    (Some (blank_thing p.header.name p.header.kind p.header.refs p.header.values))
thing-placed t q first second words p table within fits =
    let object = blank_words first second words in
    let is = IsObject-piece t.shape first second words p t.shape.words refl in
    let change = object-appended t q object is table within (omega (arith, fits, length-piece t.shape first second words p)) in
    record {
      here = ap (option_and_then thing_in) change.here ∙ thing-blank t.shape first second words p;
      elsewhere = λ other apart. things-same t (with_new t q first second words) other (change.elsewhere other apart);
    }

-- An object is taken away.

-- none starts there any more, and no other is touched
pub thing-removed : (t : Table) (a : ℕ) (x : Thing) → IsTable t → things_of t a ≡ Some x → Updated (things_of t) (things_of (without_object t a)) a None
thing-removed t a x table is =
    let s = seen t a x table is in
    let q = region_of t.shape a in
    let at = offset_of t.shape a in
    let lifted = things-lifted t q (without (land_at t q) at) at None
    (omega (arith, table.lands, object-region t a s.object table s.is)) (offset-within t.shape a (omega (arith, table.shape.fewest_words)))
    (object-removed (land_at t q) at) in
    subst (λ b. Updated (things_of t) (things_of (without_object t a)) b None) (address-is t.shape a) lifted

-- A region is given back.

-- none of its objects starts any more
pub thing-gone : (t : Table) (q a : ℕ) → IsTable t → q < t.shape.regions → region_of t.shape a ≡ q → things_of (with_freed t q) a ≡ None
thing-gone t q a table within here =
    ap (option_and_then thing_in) (objects-there t q (empty_land q t.shape.words) a (omega (arith, within, table.lands)) here)

-- those of the other regions do
pub thing-beside : (t : Table) (q a : ℕ) → (region_of t.shape a ≡ q → ⊥) → things_of (with_freed t q) a ≡ things_of t a
thing-beside t q a other = things-same t (with_freed t q) a (objects-beside t q (empty_land q t.shape.words) a other)

-- An empty table.

-- nothing starts anywhere
pub thing-none : (s : Shape) (a : ℕ) → IsShape s → things_of (empty_table s) a ≡ None
thing-none s a shape = ap (option_and_then thing_in) (elim (cases_lt q s.regions) [
  | inl within ↦ ap at (get_or-map-range_with_len land 0 s.regions q q (empty_land 0 0) within (omega arith))
  | inr past ↦ ap at (get_or_past (map land (range_with_len 0 s.regions)) q (empty_land 0 0) (omega (arith, past, length-map-range_with_len land 0 s.regions)))
])
  where
    q : ℕ
    q = region_of s a

    land : ℕ → Land
    land p = empty_land p s.words

    at : Land → Option (List ℕ)
    at l = object_at l (offset_of s a)
