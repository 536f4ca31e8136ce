-- A table of which one object is moved to another region.
use Rattle.std.proofs.Common.{◌≡◌, ℕ, ◌+◌, ◌<◌, inl, inr, List, length, set, Some, None, ap, sym, subst, ◌∙◌, arith, length-set, get_or-set_other, get_or-set_same}
use Rattle.std.specs.Prelude.{option_and_then}
use Rattle.std.proofs.lemmas.Option.{same_Some}
use Rattle.bal_layout.specs.Addresses.{address_in, offset_of, region_of}
use Rattle.bal_layout.specs.declared.header.Header.{Header}
use Rattle.bal_words.specs.Moved.{Relocated}
use Rattle.bal_words.specs.Pieces.{header_in}
use Rattle.bal_words.specs.Things.{Thing, Updated}
use Rattle.bal_words.proofs.Lemmas.{same-or, there}
use Rattle.bal_region.specs.Changes.{empty_land, with_object, without}
use Rattle.bal_region.specs.Land.{IsObject, Land}
use Rattle.bal_region.proofs.Lemmas.{object-removed, object-seen, object-starts}
use Rattle.bal_table.specs.Changes.{MayCarry, object_words, with_carried, with_placed}
use Rattle.bal_table.specs.Table.{IsTable, MayStart, Table, land_at, objects_of, thing_in, things_of}
use Rattle.bal_table.proofs.Changed.{object-appended, thing-free}
use Rattle.bal_table.proofs.Lifted.{objects-lifted, things-same}
use Rattle.bal_table.proofs.Pieces.{object-two}
use Rattle.bal_table.proofs.Places.{address-is, address-region, offset-within}
use Rattle.bal_table.proofs.Seen.{Seen, object-region, seen}
use Rattle.bal_table.proofs.Tables.{IsTable-appended, IsTable-removed}

-- the words of an object are those from its address on
pub words-found : (t : Table) (a : ℕ) (object : List ℕ) → objects_of t a ≡ Some object → object_words t a ≡ object
words-found t a object is = (object-starts (land_at t (region_of t.shape a)) (offset_of t.shape a) object is).1

module _ (t : Table) (from q : ℕ) (table : IsTable t) (may : MayCarry t from q) where
  abbrev r : ℕ
  r = region_of t.shape from

  abbrev object : List ℕ
  object = object_words t from

  abbrev placed : Table
  placed = with_placed t q object

  abbrev to : ℕ
  to = address_in t.shape q (land_at t q).used

  thing : (x : Thing) × (things_of t from ≡ Some x)
  thing = there (things_of t from) may.object

  what : Seen t from thing.0
  what = seen t from thing.0 table thing.1

  found : object_words t from ≡ what.object
  found = words-found t from what.object what.is

  stands : objects_of t from ≡ Some object
  stands = what.is ∙ ap Some (sym found)

  own : r < t.shape.regions
  own = object-region t from what.object table what.is

  is : IsObject t.shape.words object
  is =
      let region = table.each r own in
      subst (λ n. IsObject n object) region.words (object-seen (land_at t r) (offset_of t.shape from) region.land object stands).1

  may-start : (h : Header) → header_in object ≡ Some h → MayStart t.shape h
  may-start h read = subst (MayStart t.shape) (same_Some what.header h (sym what.read ∙ (ap header_in (sym found) ∙ read))) what.may

  room : (land_at t q).used < t.shape.words
  room = omega (arith, may.fits, object-two t.shape.words object is)

  pub IsTable-carried : IsTable (with_carried t from q)
  IsTable-carried = IsTable-removed placed from (IsTable-appended t q object is may-start table may.within may.objects may.fits)

  -- its new address is one of the other region
  pub carried-region : region_of t.shape (address_in t.shape q (land_at t q).used) ≡ q
  carried-region = address-region t.shape q (land_at t q).used room

  apart : to ≡ from → ⊥
  apart same = may.other (sym (ap (region_of t.shape) same) ∙ carried-region)

  -- before, none started there
  pub carried-free : things_of t (address_in t.shape q (land_at t q).used) ≡ None
  carried-free = thing-free t q table may.within room

  appended : Updated (objects_of t) (objects_of placed) to (Some object)
  appended = object-appended t q object is table may.within may.fits

  inside : r < length (set t.lands q (with_object (land_at t q) object))
  inside = omega (arith, own, table.lands, length-set t.lands q (with_object (land_at t q) object))

  left : Updated (objects_of placed) (objects_of (with_carried t from q)) from None
  left =
      let at = offset_of t.shape from in
      subst (λ b. Updated (objects_of placed) (objects_of (with_carried t from q)) b None) (address-is t.shape from)
      (objects-lifted placed r (without (land_at placed r) at) at None inside (offset-within t.shape from (omega (arith, table.shape.fewest_words))) (object-removed (land_at placed r) at))

  -- it starts with its words at its new place
  pub words-carried : objects_of (with_carried t from q) (address_in t.shape q (land_at t q).used) ≡ objects_of t from
  words-carried = left.elsewhere to apart ∙ (appended.here ∙ sym stands)

  -- and nothing else is changed
  pub thing-carried : Relocated (things_of t) (things_of (with_carried t from q)) from (address_in t.shape q (land_at t q).used)
  thing-carried = record {
    here = ap (option_and_then thing_in) words-carried;
    gone = λ _. ap (option_and_then thing_in) left.here;
    elsewhere = λ b not_from not_to. things-same t (with_carried t from q) b (left.elsewhere b not_from ∙ appended.elsewhere b not_to);
  }

  -- so many words more are given out there
  pub used-there : (land_at (with_carried t from q) q).used ≡ (land_at t q).used + length (object_words t from)
  used-there =
      ap (λ (l : Land). l.used) (get_or-set_other (set t.lands q (with_object (land_at t q) object)) r q (without (land_at placed r) (offset_of t.shape from)) (empty_land 0 0) (λ e. may.other (sym e))
      ∙ get_or-set_same t.lands q (with_object (land_at t q) object) (empty_land 0 0) (omega (arith, may.within, table.lands)))

  -- and as many as before in all other regions
  pub used-elsewhere : (p : ℕ) → (p ≡ q → ⊥) → (land_at (with_carried t from q) p).used ≡ (land_at t p).used
  used-elsewhere p other = elim (same-or p r) [
    | inl same ↦ subst (λ n. (land_at (with_carried t from q) n).used ≡ (land_at t n).used) (sym same)
        (ap (λ (l : Land). l.used) (get_or-set_same (set t.lands q (with_object (land_at t q) object)) r (without (land_at placed r) (offset_of t.shape from)) (empty_land 0 0) inside)
        ∙ ap (λ (l : Land). l.used) (get_or-set_other t.lands q r (with_object (land_at t q) object) (empty_land 0 0) may.other))
    | inr apart ↦
        ap (λ (l : Land). l.used) (get_or-set_other (set t.lands q (with_object (land_at t q) object)) r p (without (land_at placed r) (offset_of t.shape from)) (empty_land 0 0) apart
        ∙ get_or-set_other t.lands q p (with_object (land_at t q) object) (empty_land 0 0) other)
  ]
