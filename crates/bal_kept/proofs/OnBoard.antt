-- What the world of an evacuation says of an object is what the board says.
use Rattle.std.proofs.Common.{◌≡◌, ℕ, ◌+◌, ◌≤◌, Bool, cond, IsTrue, List, length, drop, Some, refl, ap, sym, subst, ◌∙◌, arith, length-take}
use Rattle.std.specs.Prelude.{slice_index}
use Rattle.std.proofs.lemmas.Bool.{le-leb}
use Rattle.std.proofs.lemmas.List.{length-map}
use Rattle.bal_core.specs.World.{At, age_of, size_of}
use Rattle.bal_gather.specs.Lent.{Lent}
use Rattle.bal_kept.specs.Collected.{world_from}
use Rattle.bal_kept.proofs.Named.{IsGiven, numbered}
use Rattle.bal_kept.proofs.Worlds.{name-numbered, number-aged, number-sized}
use Rattle.bal_layout.specs.Header.{IsHeaderOf, MayHaveValues, header_of, size_of_parts}
use Rattle.bal_layout.specs.Regions as regions
use Rattle.bal_layout.specs.Regions.{is_in, region_at}
use Rattle.bal_layout.specs.Shape.{Shape, largest_of}
use Rattle.bal_layout.specs.Sizes.{leaves_for}
use Rattle.bal_layout.specs.declared.geometry.Want.{Want}
use Rattle.bal_layout.specs.declared.header.Header.{Header}
use Rattle.bal_layout.specs.declared.name.Kind.{Kind}
use Rattle.bal_layout.specs.declared.name.Kind.TheVariants.{Plain, Array, Spine}
use Rattle.bal_layout.specs.declared.name.Name.{Name}
use Rattle.bal_layout.specs.declared.region_state.RegionState.{RegionState}
use Rattle.bal_meet.specs.Decode.{placed_at}
use Rattle.bal_meet.proofs.Lemmas.{object-shown}
use Rattle.bal_model.specs.Entries.{Spot}
use Rattle.bal_model.specs.Sizes as sizes
use Rattle.bal_model.specs.declared.config.Config.{Config}
use Rattle.bal_rules.specs.Board.{Board, Placed, place_of, words_of, words_of_object}
use Rattle.bal_table.specs.Table.{IsTable, Table, objects_of, things_of}
use Rattle.bal_table.proofs.Lemmas.{seen}
use Rattle.bal_words.specs.Shown.{kind_seen, name_behind, object_of}
use Rattle.bal_words.specs.Things.{Thing, Things}

-- How many words an object takes.

-- one in a single piece takes as many in the plain graph
in-piece : (s : Shape) (kind : Kind) (refs values : ℕ) → (kind ≡ Spine → ⊥) → (kind ≡ Array → values ≡ 0) → size_of_parts s.words kind refs values ≤ largest_of s
    → (sizes.size_of_kind s (kind_seen kind) refs values).words ≡ size_of_parts s.words kind refs values
in-piece s Plain refs values whole none small = refl
in-piece s Array refs values whole none small =
    let no_values : values ≡ 0 = none refl in
    ap (λ (t : Bool). (cond {A = Want} t (record { words = 2 + refs; leaves = 0 }) (record { words = 2 + leaves_for s refs; leaves = leaves_for s refs })).words)
    (le-leb (2 + refs) (largest_of s) (omega (arith, small, no_values)))
    ∙ omega (arith, no_values)
in-piece s Spine refs values whole none small = absurd (whole refl)

-- what is known of the words of tables, and of headers
abbrev pub AreSized : Type 0
AreSized = (t : Table) (a : ℕ) (x : Thing) → IsTable t → things_of t a ≡ Some x
    → (object : List ℕ) × (objects_of t a ≡ Some object)
    × (length object ≡ size_of_parts t.shape.words x.kind (length x.refs) (length x.values)) × (length object ≤ largest_of t.shape)

abbrev pub HaveLimits : Type 0
HaveLimits = (h : Header) (first second : ℕ) → header_of first second ≡ Some h → IsHeaderOf h first second

module _ (sized : AreSized) (limits : HaveLimits) (t : Table) (a : ℕ) (x : Thing) (table : IsTable t) (is : things_of t a ≡ Some x) where
  -- an array has no numbers
  no-numbers : x.kind ≡ Array → length x.values ≡ 0
  no-numbers array =
      let s = seen t a x table is in
      let h = s.header in
      let kind : h.kind ≡ Array = ap (λ (y : Thing). y.kind) s.thing ∙ array in
      let none : h.values ≡ 0 = by h.kind h.values kind (limits h (slice_index s.object 0) (slice_index s.object 1) s.read).limits.values in
      omega (arith, none, ap (λ (y : Thing). length y.values) s.thing, length-take h.values (drop (2 + h.refs) s.object))
    where
      by : (kind : Kind) (values : ℕ) → kind ≡ Array → MayHaveValues kind values → values ≡ 0
      by Plain values array may = cc
      by Array values array may = may
      by Spine values array may = may

  pub as-large : (things : Things) → (object : List ℕ) × ((objects_of t a ≡ Some object) × ((sizes.size_of t.shape (object_of things x)).words ≡ length object))
  as-large things =
      let s = seen t a x table is in
      let object = sized t a x table is in
      let size : length object.0 ≡ size_of_parts t.shape.words x.kind (length x.refs) (length x.values) = object.2 in
      let small : length object.0 ≤ largest_of t.shape = object.3 in (
        object.0,
        (
          object.1,
          ap (λ n. (sizes.size_of_kind t.shape (kind_seen x.kind) n (length x.values)).words) (length-map x.refs (name_behind things))
              ∙ (in-piece t.shape x.kind (length x.refs) (length x.values) (λ e. s.whole (ap (λ (y : Thing). y.kind) s.thing ∙ e)) no-numbers (omega (arith, size, small))
              ∙ sym size),
        ),
      )

-- An object by its number.

module _ {b : Board} {spot : ℕ → Spot} {l : Lent} {roots held places : List ℕ} (g : IsGiven b spot l roots held places) (pool : List ℕ)
    (sized : AreSized) (limits : HaveLimits) (c : Config) (shape : c.geometry ≡ l.table.shape) (states : b.regions ≡ l.table.regions) where
  pub on-board : (k : ℕ) (n : Name) → At (world_from l held pool).names k n
      → (p : Placed) × (place_of b.present n ≡ Some p) × IsTrue (is_in p.region l.regions)
      × (regions.age_of (region_at b.regions p.region).role ≡ age_of (world_from l held pool) k) × (words_of c b n ≡ size_of (world_from l held pool) k)
  on-board k n at =
      let o = name-numbered g pool k n at in
      let a = o.0 in
      let x : Thing = o.1.0 in
      let there = o.1.1.0 in
      let is : things_of l.table a ≡ Some x = o.1.1.1 in
      let name : x.name ≡ n = o.1.1.2 in
      let found = numbered g k a there in
      let large = as-large sized limits l.table a x g.from.table is (things_of l.table) in
      let words : words_of c b x.name ≡ length large.0 =
      ap (words_of_object c) (object-shown g.from.decodes is).1
      ∙ (ap (λ s. (sizes.size_of s (object_of (things_of l.table) x)).words) shape ∙ large.1.1) in (
        placed_at n (spot a),
        subst (λ m. place_of b.present m ≡ Some (placed_at m (spot a))) name (g.from.decodes.places a x is),
        ap (λ q. is_in q l.regions) (g.from.lies a x is) ∙ found.1.1,
        ap (λ (rs : List RegionState). regions.age_of (region_at rs (spot a).region).role) states
            ∙ (ap (λ q. regions.age_of (region_at l.table.regions q).role) (g.from.lies a x is) ∙ sym (number-aged l held pool k a there)),
        sym (ap (words_of c b) name) ∙ (words ∙ sym (number-sized l held pool k a there large.0 large.1.0)),
      )
