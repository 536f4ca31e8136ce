-- Where the slots of an object lie.
use Rattle.std.proofs.Common.{◌≡◌, ℕ, ◌+◌, ◌<◌, ◌≤◌, inl, inr, List, length, get_or, take, drop, cond, Option, Some, None, refl, ap, sym, subst, ◌∙◌, arith, length-drop, length-take}
use Rattle.std.specs.Prelude.{nat_lt, option_map, slice_get}
use Rattle.std.proofs.lemmas.Bool.{cases_lt, le-ltb, lt-ltb}
use Rattle.std.proofs.lemmas.List.{get_or-drop, get_or-take}
use Rattle.std.proofs.lemmas.Option.{none-some, same_Some, slice_get-get_or}
use Rattle.bal_layout.specs.Addresses.{IsAddress, address_in, offset_of, region_of}
use Rattle.bal_words.specs.Things.{Thing}
use Rattle.bal_region.specs.Land.{IsBehindHeaders, Land, holder_of, size_at}
use Rattle.bal_region.proofs.Lemmas.{IsBehindHeaders-inside, holder-is, object-starts, size-seen}
use Rattle.bal_table.specs.Changes.{MayBeWritten}
use Rattle.bal_table.specs.Table.{IsTable, Table, holder_at, land_at, objects_of, refs_in, slot_place, things_of, value_found, value_place, values_in, word_at}
use Rattle.bal_table.proofs.Places.{address-is, address-within, behind-offset, behind-region}
use Rattle.bal_table.proofs.Seen.{object-ends, object-land, object-region, seen, seen-refs, seen-values, value-place}

-- A word of an object, after its header and its name.

module _ (t : Table) (a k : ℕ) (object : List ℕ) (table : IsTable t) (is : objects_of t a ≡ Some object) (within : k < length object) where
  abbrev l : Land
  l = land_at t (region_of t.shape a)

  abbrev at : ℕ
  at = offset_of t.shape a

  -- it is a word of the object's region
  pub word-inside : at + k < t.shape.words
  word-inside = omega (arith, object-ends t a object table is, within)

  -- that is where its address lies
  pub word-region : region_of t.shape (a + k) ≡ region_of t.shape a
  word-region = behind-region t.shape a k word-inside

  -- so many words after the object's start
  pub word-offset : offset_of t.shape (a + k) ≡ at + k
  word-offset = behind-offset t.shape a k word-inside

  -- it is a word of the heap
  pub word-within : IsAddress t.shape (a + k)
  word-within = address-within t.shape (a + k) (omega (arith, table.shape.fewest_words)) (omega (arith, word-region, object-region t a object table is))

  -- no object has its header or its name there
  word-behind : 2 ≤ k → MayBeWritten t (a + k)
  word-behind two =
      subst (λ r. IsBehindHeaders (land_at t r) (offset_of t.shape (a + k))) (sym word-region)
      (subst (IsBehindHeaders l) (sym word-offset) (IsBehindHeaders-inside l at k object (object-land t a object table is) is two within))

  -- it is read from the object's words
  word-read : word_at t (a + k) ≡ get_or object k 0
  word-read =
      let size = size-seen l at (object-land t a object table is) object is in
      ap (λ r. get_or (land_at t r).words (offset_of t.shape (a + k)) 0) word-region
      ∙ (ap (λ o. get_or l.words o 0) word-offset
      ∙ (sym (get_or-drop at l.words k 0)
      ∙ (sym (get_or-take (size_at l.words at) (drop at l.words) k 0 (omega (arith, within, size)))
      ∙ ap (λ (o : List ℕ). get_or o k 0) (object-starts l at object is).1)))

  -- and it is a word of no other object
  pub word-held : holder_at t (a + k) ≡ Some a
  word-held =
      let held = (holder-is l at (at + k) (object-land t a object table is)).1 (object, (is, omega arith, omega (arith, within))) in
      ap (λ r. option_map (address_in t.shape r) (holder_of (land_at t r) (offset_of t.shape (a + k)))) word-region
      ∙ (ap (λ o. option_map (address_in t.shape (region_of t.shape a)) (holder_of l o)) word-offset
      ∙ (ap (option_map (address_in t.shape (region_of t.shape a))) held
      ∙ ap Some (address-is t.shape a)))

-- an element of a part of a list
part-read : (words : List ℕ) (from size slot : ℕ) → slot < size → from + size ≤ length words → slice_get (take size (drop from words)) slot ≡ Some (get_or words (from + slot) 0)
part-read words from size slot within inside =
    slice_get-get_or (take size (drop from words)) slot 0 (omega (arith, within, inside, length-take size (drop from words), length-drop from words))
    ∙ ap Some (get_or-take size (drop from words) slot 0 within ∙ get_or-drop from words slot 0)

-- a slot of the object that starts at the first address, one of these, lies at the second
abbrev pub LiesAt : Table → ℕ → ℕ → List ℕ → ℕ → Type 0
LiesAt t a slot items place = IsAddress t.shape place × MayBeWritten t place × (slice_get items slot ≡ Some (word_at t place)) × (holder_at t place ≡ Some a)

-- a slot that is a word of an object after its header and its name
slot-lies : (t : Table) (a k slot : ℕ) (object items : List ℕ) → IsTable t → objects_of t a ≡ Some object → 2 ≤ k → k < length object
    → slice_get items slot ≡ Some (get_or object k 0) → LiesAt t a slot items (a + k)
slot-lies t a k slot object items table is two within read = (
  word-within t a k object table is within,
  word-behind t a k object table is within two,
  read ∙ ap Some (sym (word-read t a k object table is within)),
  word-held t a k object table is within,
)

-- a reference lies in its slot's place
pub reference-lies : (t : Table) (a slot : ℕ) (x : Thing) → IsTable t → things_of t a ≡ Some x → slot < length x.refs → LiesAt t a slot x.refs (slot_place t a slot)
reference-lies t a slot x table is within =
    let s = seen t a x table is in
    let refs = seen-refs t a x s in
    slot-lies t a (2 + slot) slot s.object x.refs table s.is (omega arith) (omega (arith, within, refs, s.size))
    (ap (λ (y : Thing). slice_get y.refs slot) (sym s.thing)
    ∙ part-read s.object 2 s.header.refs slot (omega (arith, within, refs)) (omega (arith, s.size)))

-- and so does a number
pub number-lies : (t : Table) (a slot : ℕ) (x : Thing) → IsTable t → things_of t a ≡ Some x → slot < length x.values → LiesAt t a slot x.values (value_place t a slot)
number-lies t a slot x table is within =
    let s = seen t a x table is in
    let values = seen-values t a x s in
    subst (LiesAt t a slot x.values) (sym (value-place t a slot x s is))
    (slot-lies t a (2 + s.header.refs + slot) slot s.object x.values table s.is (omega arith) (omega (arith, within, values, s.size))
    (ap (λ (y : Thing). slice_get y.values slot) (sym s.thing)
    ∙ part-read s.object (2 + s.header.refs) s.header.values slot (omega (arith, within, values)) (omega (arith, s.size))))

-- what has a reference there is an object, and the reference lies in its slot's place
pub reference-there : (t : Table) (a slot : ℕ) → IsTable t → slot < length (refs_in (things_of t a)) → LiesAt t a slot (refs_in (things_of t a)) (slot_place t a slot)
reference-there t a slot table within = by (things_of t a) refl within
  where
    by : (o : Option Thing) → things_of t a ≡ o → slot < length (refs_in o) → LiesAt t a slot (refs_in o) (slot_place t a slot)
    by None is within = absurd (omega (arith, within))
    by (Some x) is within = reference-lies t a slot x table is within

-- and so does a number
pub number-there : (t : Table) (a slot : ℕ) → IsTable t → slot < length (values_in (things_of t a)) → LiesAt t a slot (values_in (things_of t a)) (value_place t a slot)
number-there t a slot table within = by (things_of t a) refl within
  where
    by : (o : Option Thing) → things_of t a ≡ o → slot < length (values_in o) → LiesAt t a slot (values_in o) (value_place t a slot)
    by None is within = absurd (omega (arith, within))
    by (Some x) is within = number-lies t a slot x table is within

-- Slots that are looked for.

-- a slot is found, where the object has it
pub value-found : (t : Table) (a slot : ℕ) → slot < length (values_in (things_of t a)) → value_found t a slot ≡ Some (value_place t a slot)
value-found t a slot within = ap (λ b. cond b (Some (value_place t a slot)) None) (lt-ltb slot (length (values_in (things_of t a))) within)

-- what was found is that of a slot below a number
pub found-below : (slot n at place : ℕ) → cond (nat_lt slot n) (Some at) None ≡ Some place → (slot < n) × (at ≡ place)
found-below slot n at place found = elim (cases_lt slot n) [
  | inl less ↦ (less, same_Some at place (sym (ap (λ b. cond b (Some at) None) (lt-ltb slot n less)) ∙ found))
  | inr past ↦ absurd (none-some place (sym (ap (λ b. cond b (Some at) None) (le-ltb slot n past)) ∙ found))
]

-- where none was found, the slot is not below it
pub missing-past : (slot n at : ℕ) → cond (nat_lt slot n) (Some at) None ≡ None → n ≤ slot
missing-past slot n at missing = elim (cases_lt slot n) [
  | inl less ↦ absurd (none-some at (sym missing ∙ ap (λ b. cond b (Some at) None) (lt-ltb slot n less)))
  | inr past ↦ past
]

pub value_found-is : (t : Table) (a slot place : ℕ) → value_found t a slot ≡ Some place → (slot < length (values_in (things_of t a))) × (value_place t a slot ≡ place)
value_found-is t a slot place = found-below slot (length (values_in (things_of t a))) (value_place t a slot) place

pub value_found-none : (t : Table) (a slot : ℕ) → value_found t a slot ≡ None → length (values_in (things_of t a)) ≤ slot
value_found-none t a slot = missing-past slot (length (values_in (things_of t a))) (value_place t a slot)
