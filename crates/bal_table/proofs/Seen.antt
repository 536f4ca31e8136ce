-- The objects of a table, by their addresses.
use Rattle.std.proofs.Common.{◌≡◌, ℕ, ◌+◌, ◌*◌, ◌<◌, ◌≤◌, inl, inr, true, List, [], length, drop, Option, Some, None, refl, ap, sym, subst, ◌∙◌, arith, length-take, length-drop}
use Rattle.std.specs.Prelude.{IsSome, option_and_then, option_map}
use Rattle.std.proofs.lemmas.Bool.{cases_lt, cases_order}
use Rattle.std.proofs.lemmas.List.{get_or_past}
use Rattle.std.proofs.lemmas.Option.{none-some, same_Some}
use Rattle.std.proofs.Math.Nat.{mul-le-mul_right}
use Rattle.bal_layout.specs.Addresses.{IsAddress, address_in, offset_of, region_of}
use Rattle.bal_layout.specs.Header.{size_in, size_of_parts}
use Rattle.bal_layout.specs.Shape.{largest_of}
use Rattle.bal_layout.specs.declared.header.Header.{Header}
use Rattle.bal_layout.specs.declared.name.Kind.TheVariants.{Spine}
use Rattle.bal_words.specs.Pieces.{header_in, piece, thing_of}
use Rattle.bal_words.specs.Things.{Thing}
use Rattle.bal_words.proofs.Lemmas.{mapped-from, there}
use Rattle.bal_region.specs.Changes.{empty_land}
use Rattle.bal_region.specs.Land.{IsLand, Land, header_at, object_at, object_in, size_at, size_by, starts_at}
use Rattle.bal_region.proofs.Lemmas.{IsObject-seen, header-seen, laid-each, object-seen, object-starts, object-there, objects-apart, size-seen, size-two}
use Rattle.bal_table.specs.Table.{IsTable, MayStart, Table, land_at, objects_of, refs_in, thing_in, things_of, value_place}
use Rattle.bal_table.proofs.Pieces.{size-piece, thing-in}
use Rattle.bal_table.proofs.Places.{address-is, address-offset, address-region, address-within, offset-within}

-- at the address of a region and an offset starts what starts at that offset of the region
pub objects-at : (t : Table) (q at : ℕ) → at < t.shape.words → objects_of t (address_in t.shape q at) ≡ object_at (land_at t q) at
objects-at t q at within =
    ap (λ r. object_at (land_at t r) (offset_of t.shape (address_in t.shape q at))) (address-region t.shape q at within)
    ∙ ap (object_at (land_at t q)) (address-offset t.shape q at within)

-- an object starts at a word of its region
pub start-inside : (t : Table) (q at : ℕ) → IsTable t → q < t.shape.regions → starts_at (land_at t q) at ≡ true → at < t.shape.words
start-inside t q at table within starts =
    let l = land_at t q in
    let region = table.each q within in
    let each = laid-each l.words 0 l.starts l.used at region.land.laid starts in
    omega (arith, each.2, size-two l.words at each.1, region.land.within, region.words)

-- where an object starts there, it is a thing
pub start-address : (t : Table) (q at : ℕ) → IsTable t → q < t.shape.regions → starts_at (land_at t q) at ≡ true → IsSome (things_of t (address_in t.shape q at))
start-address t q at table within starts =
    let l = land_at t q in
    let region = table.each q within in
    let inside = start-inside t q at table within starts in
    let header = there (header_in (object_in l.words at)) (IsObject-seen l at region.land starts).header in
    subst (λ o. IsSome (option_and_then thing_in o)) (sym (objects-at t q at inside ∙ object-there l at starts))
    (subst (λ o. IsSome (option_map (λ (h : Header). thing_of h (object_in l.words at) []) o)) (sym header.1) refl)

-- where an object starts, there is a region
pub object-region : (t : Table) (a : ℕ) (object : List ℕ) → IsTable t → objects_of t a ≡ Some object → region_of t.shape a < t.shape.regions
object-region t a object table is = elim (cases_lt (region_of t.shape a) t.shape.regions) [
  | inl within ↦ within
  | inr past ↦ absurd (none-some object
      (sym (ap (λ (l : Land). object_at l (offset_of t.shape a)) (get_or_past t.lands (region_of t.shape a) (empty_land 0 0) (omega (arith, past, table.lands)))) ∙ is))
]

-- the region of an object is one
pub object-land : (t : Table) (a : ℕ) (object : List ℕ) → IsTable t → objects_of t a ≡ Some object → IsLand (land_at t (region_of t.shape a))
object-land t a object table is = (table.each (region_of t.shape a) (object-region t a object table is)).land

-- an object ends among the words that its region has given out
pub object-ends : (t : Table) (a : ℕ) (object : List ℕ) → IsTable t → objects_of t a ≡ Some object
    → (offset_of t.shape a + length object ≤ (land_at t (region_of t.shape a)).used) × ((land_at t (region_of t.shape a)).used ≤ t.shape.words)
object-ends t a object table is =
    let region = table.each (region_of t.shape a) (object-region t a object table is) in
    ((object-seen (land_at t (region_of t.shape a)) (offset_of t.shape a) region.land object is).2, omega (arith, region.land.within, region.words))

-- it lies among the words of the heap, and its end is one of them
pub object-within : (t : Table) (a : ℕ) (object : List ℕ) → IsTable t → objects_of t a ≡ Some object
    → IsAddress t.shape a × (a + length object ≤ address_in t.shape (region_of t.shape a) (land_at t (region_of t.shape a)).used)
object-within t a object table is = (
  address-within t.shape a (omega (arith, table.shape.fewest_words)) (object-region t a object table is),
  omega (arith, address-is t.shape a, (object-ends t a object table is).0),
)

-- each object ends before the next one, in its region or in a later one
pub apart : (t : Table) (a b : ℕ) (object other : List ℕ) → IsTable t → objects_of t a ≡ Some object → objects_of t b ≡ Some other → a < b → a + length object ≤ b
apart t a b object other table one two less = elim (cases_order (region_of t.shape a) (region_of t.shape b)) [
  | inl same ↦
      let there : object_at (land_at t (region_of t.shape a)) (offset_of t.shape b) ≡ Some other = ap (λ q. object_at (land_at t q) (offset_of t.shape b)) same ∙ two in
      let before : offset_of t.shape a < offset_of t.shape b = omega (arith, less, start a, start b, ap (λ q. q * t.shape.words) same) in
      omega (
        arith,
        start a,
        start b,
        ap (λ q. q * t.shape.words) same,
        objects-apart (land_at t (region_of t.shape a)) (offset_of t.shape a) (offset_of t.shape b) object other (object-land t a object table one) one there before,
      )
  | inr other ↦ elim other [
    | inl before ↦ omega (arith, start a, start b, next a b before, object-ends t a object table one)
    | inr behind ↦ absurd (omega (arith, less, start a, start b, next b a behind, offset-within t.shape b (omega (arith, table.shape.fewest_words))))
  ]
]
  where
    start : (c : ℕ) → region_of t.shape c * t.shape.words + offset_of t.shape c ≡ c
    start c = address-is t.shape c

    next : (c d : ℕ) → region_of t.shape c < region_of t.shape d → region_of t.shape c * t.shape.words + t.shape.words ≤ region_of t.shape d * t.shape.words
    next c d h = omega (arith, mul-le-mul_right {m = region_of t.shape c + 1} {n = region_of t.shape d} t.shape.words (omega (arith, h)))

-- what is seen of an object that starts at an address: its words, and the header that they begin with, as it stands in its
-- region
pub record Seen (t : Table) (a : ℕ) (x : Thing) : Type 0 where
  pub object : List ℕ
  pub header : Header
  pub is : objects_of t a ≡ Some object
  pub read : header_in object ≡ Some header
  pub may : MayStart t.shape header
  pub whole : header.kind ≡ Spine → ⊥
  pub thing : piece header object ≡ x
  pub size : length object ≡ 2 + header.refs + header.values
  pub there : header_at (land_at t (region_of t.shape a)).words (offset_of t.shape a) ≡ Some header

-- an object of a table begins with a header that isn't a spine's, and has a word for each of its slots
header-whole : (t : Table) (a : ℕ) (object : List ℕ) (h : Header) → IsTable t → objects_of t a ≡ Some object → header_in object ≡ Some h
    → MayStart t.shape h × (length object ≡ 2 + h.refs + h.values) × (header_at (land_at t (region_of t.shape a)).words (offset_of t.shape a) ≡ Some h)
unfolding size_at
header-whole t a object h table is read =
    let q = region_of t.shape a in
    let at = offset_of t.shape a in
    let region = table.each q (object-region t a object table is) in
    let starts = object-starts (land_at t q) at object is in
    let each = laid-each (land_at t q).words 0 (land_at t q).starts (land_at t q).used at region.land.laid starts.0 in
    let header = sym (header-seen (land_at t q).words at (size_at (land_at t q).words at) (size-two (land_at t q).words at each.1)) ∙ (ap header_in starts.1 ∙ read) in
    let may = region.pieces at h starts.0 header in (
      may,
      sym (size-seen (land_at t q) at region.land object is)
          ∙ (ap (size_by (length (land_at t q).words)) header ∙ size-piece (length (land_at t q).words) h may.piece),
      header,
    )

-- each thing is seen so
pub seen : (t : Table) (a : ℕ) (x : Thing) → IsTable t → things_of t a ≡ Some x → Seen t a x
seen t a x table is = by (objects_of t a) refl is
  where
    from : (object : List ℕ) → objects_of t a ≡ Some object → (h : Header) → header_in object ≡ Some h → thing_in object ≡ Some x → Seen t a x
    from object known h read is =
        let found = header-whole t a object h table known read in
        record {
          object = object;
          header = h;
          is = known;
          read = read;
          may = found.0;
          whole = found.0.piece;
          thing = same_Some (piece h object) x (sym (thing-in object h read found.0.piece) ∙ is);
          size = found.1;
          there = found.2;
        }

    by : (o : Option (List ℕ)) → objects_of t a ≡ o → option_and_then thing_in o ≡ Some x → Seen t a x
    by None known is = absurd (none-some x is)
    by (Some object) known is =
        let read = mapped-from (λ (h : Header). thing_of h object []) (header_in object) x is in
        from object known read.0 read.1.0 is

-- it has as many references as its header says
pub seen-refs : (t : Table) (a : ℕ) (x : Thing) (s : Seen t a x) → length x.refs ≡ s.header.refs
seen-refs t a x s = sym (ap (λ (y : Thing). length y.refs) s.thing) ∙ omega (arith, length-take s.header.refs (drop 2 s.object), length-drop 2 s.object, s.size)

-- and as many numbers
pub seen-values : (t : Table) (a : ℕ) (x : Thing) (s : Seen t a x) → length x.values ≡ s.header.values
seen-values t a x s = sym (ap (λ (y : Thing). length y.values) s.thing)
    ∙ omega (arith, length-take s.header.values (drop (2 + s.header.refs) s.object), length-drop (2 + s.header.refs) s.object, s.size)

-- so that its numbers begin after them
pub value-place : (t : Table) (a slot : ℕ) (x : Thing) (s : Seen t a x) → things_of t a ≡ Some x → value_place t a slot ≡ a + (2 + s.header.refs + slot)
value-place t a slot x s is = ap (λ n. a + (2 + n + slot)) (ap (λ (o : Option Thing). length (refs_in o)) is ∙ seen-refs t a x s)

-- it has as many words as its kind and its slots take, and no more than the largest may have
pub object-sized : (t : Table) (a : ℕ) (x : Thing) → IsTable t → things_of t a ≡ Some x
    → (object : List ℕ) × (objects_of t a ≡ Some object) × (length object ≡ size_of_parts t.shape.words x.kind (length x.refs) (length x.values)) × (length object ≤ largest_of t.shape)
object-sized t a x table is =
    let s = seen t a x table is in
    let size = size-piece t.shape.words s.header s.whole in
    let kind : s.header.kind ≡ x.kind = ap (λ (y : Thing). y.kind) s.thing in
    let parts : size_in t.shape.words s.header ≡ size_of_parts t.shape.words x.kind (length x.refs) (length x.values) =
    ap (λ k. size_of_parts t.shape.words k s.header.refs s.header.values) kind
    ∙ (ap (λ n. size_of_parts t.shape.words x.kind n s.header.values) (sym (seen-refs t a x s))
    ∙ ap (size_of_parts t.shape.words x.kind (length x.refs)) (sym (seen-values t a x s))) in
    (s.object, s.is, s.size ∙ (sym size ∙ parts), omega (arith, s.size, size, s.may.small))
