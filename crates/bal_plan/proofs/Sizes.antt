-- What an object of a table takes, and where it lies.
use Rattle.std.proofs.Common.{◌≡◌, ℕ, ◌+◌, ◌*◌, ◌/◌, ◌<◌, ◌≤◌, List, length, drop, Some, refl, ap, sym, ◌∙◌, arith, length-drop, length-take}
use Rattle.std.proofs.lemmas.Option.{same_Some}
use Rattle.bal_layout.specs.Addresses.{offset_of, region_of}
use Rattle.bal_layout.specs.Header.{size_of_parts}
use Rattle.bal_layout.specs.declared.name.Kind.{Kind}
use Rattle.bal_layout.specs.declared.name.Kind.TheVariants.{Plain, Array, Spine}
use Rattle.bal_table.specs.Table.{IsTable, Table, objects_of, things_of}
use Rattle.bal_table.proofs.Lemmas.{address-is, apart, object-region, object-within, seen, seen-refs}
use Rattle.bal_words.specs.Things.{Thing}
use Rattle.bal_words.proofs.Lemmas.{there}
use Rattle.bal_plan.specs.Plan.{IsObject, words_at, words_of_thing}

-- in one piece it has a word for each slot
piece-size : (room refs values : ℕ) (k : Kind) → (k ≡ Spine → ⊥) → size_of_parts room k refs values ≡ 2 + refs + values
piece-size room refs values Plain whole = refl
piece-size room refs values Array whole = refl
piece-size room refs values Spine whole = absurd (whole refl)

pub record IsSized (t : Table) (a : ℕ) : Type 0 where
  pub object : List ℕ
  pub is : objects_of t a ≡ Some object
  pub long : length object ≡ words_at t a
  pub address : a < t.shape.regions * t.shape.words
  pub region : region_of t.shape a < t.shape.regions
  pub inside : offset_of t.shape a + words_at t a ≤ t.shape.words
  pub two : 2 ≤ words_at t a
  pub small : words_at t a ≤ t.shape.words / 8

pub sized : (t : Table) (a : ℕ) → IsTable t → IsObject t a → IsSized t a
sized t a table object = by (there (things_of t a) object)
  where
    by : (x : Thing) × (things_of t a ≡ Some x) → IsSized t a
    by found =
        let x = found.0 in
        let s = seen t a x table found.1 in
        let values : length x.values ≡ s.header.values = sym (ap (λ (y : Thing). length y.values) s.thing)
        ∙ omega (arith, length-take s.header.values (drop (2 + s.header.refs) s.object), length-drop (2 + s.header.refs) s.object, s.size) in
        let whole : x.kind ≡ Spine → ⊥ = λ e. s.whole (ap (λ (y : Thing). y.kind) s.thing ∙ e) in
        let words : words_at t a ≡ length s.object = ap (words_of_thing t.shape.words) found.1
        ∙ (piece-size t.shape.words (length x.refs) (length x.values) x.kind whole ∙ omega (arith, values, seen-refs t a x s, s.size)) in
        let region = object-region t a s.object table s.is in
        let within = object-within t a s.object table s.is in
        let land = table.each (region_of t.shape a) region in
        record {
          object = s.object;
          is = s.is;
          long = sym words;
          address = within.0;
          region = region;
          inside = omega (arith, address-is t.shape a, within.1, land.land.within, land.words, words);
          two = omega (arith, words, s.size);
          small = omega (arith, words, s.size, s.may.small, piece-size t.shape.words s.header.refs s.header.values s.header.kind s.whole);
        }

-- its words are those that are read there
pub read-words : (t : Table) (a : ℕ) (object : List ℕ) → IsTable t → IsObject t a → objects_of t a ≡ Some object → length object ≡ words_at t a
read-words t a object table is read =
    let s = sized t a table is in
    ap (λ (o : List ℕ). length o) (same_Some object s.object (sym read ∙ s.is)) ∙ s.long

-- each ends before the next begins
pub ends-before : (t : Table) (a b : ℕ) → IsTable t → IsObject t a → IsObject t b → a < b → a + words_at t a ≤ b
ends-before t a b table one two less =
    let s = sized t a table one in
    let u = sized t b table two in
    omega (arith, s.long, apart t a b s.object u.object table s.is u.is less)
