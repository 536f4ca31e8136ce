-- The regions after a packing, by the table and by the board.
use Rattle.std.proofs.Common.{◌≡◌, ℕ, ◌*◌, ◌≤◌, Bool, true, false, cond, not, IsTrue, List, [], ◌∷◌, length, map, Option, refl, ap, ap₂, subst, sym, ◌∙◌, arith}
use Rattle.std.specs.Prelude.{◌==◌, sum}
use Rattle.std.specs.List.{range_with_len, sum_by}
use Rattle.std.proofs.lemmas.Bool.{false≢true}
use Rattle.std.proofs.lemmas.List.Sums.{sum-map}
use Rattle.bal_compact.specs.Compacted.{age_at, greatest, packed_region, region_of_objects}
use Rattle.bal_layout.specs.Addresses.{region_of}
use Rattle.bal_layout.specs.Names.{is_among}
use Rattle.bal_layout.specs.Regions.{age_of, all_regions, free_region, is_in, is_leaf, region_at}
use Rattle.bal_layout.specs.declared.name.Name.{Name}
use Rattle.bal_layout.specs.declared.region_state.RegionState.{RegionState}
use Rattle.bal_layout.specs.declared.region_state.Role.TheVariants.{Object}
use Rattle.bal_meet.specs.Decode.{placed_at}
use Rattle.bal_meet.specs.Heap.{spot_at}
use Rattle.bal_model.specs.declared.config.Config.{Config}
use Rattle.bal_model.specs.declared.event.Packed.{Packed}
use Rattle.bal_plan.specs.Plan.{name_of, objects_into, packed_as, starts_of, told_by_plan, words_at}
use Rattle.bal_remember.specs.Remembered.{cards}
use Rattle.bal_rules.specs.Board.{Board, Placed, is_empty, placed_among, without_names, words_of, words_of_all}
use Rattle.bal_rules.specs.GlobalEvents.{greatest_age, last_packed, names_packed_into, region_after_packing}
use Rattle.bal_rules.specs.MarkEvents.{is_current}
use Rattle.bal_rules.proofs.Lemmas.{each-goes}
use Rattle.bal_table.specs.Table.{Table}
use Rattle.bal_global.specs.Global.{IsOnBoard, heap_by}
use Rattle.bal_global.specs.Cleared.{IsCleared}
use Rattle.bal_global.proofs.Decoded.{IsPlacedAt, each-placed, regions-without}
use Rattle.bal_global.proofs.Garbage.{keeps-not}
use Rattle.bal_global.proofs.Laws.{HeadersAreRead, PathsAreWalks}
use Rattle.bal_global.proofs.Named.{name-told, name_at, told-name}
use Rattle.bal_global.proofs.Numbers.{filter-over, filter-was, map-over, map-same_in}
use Rattle.bal_global.proofs.Packing.{is-left-at, no-leaf, words-left}
use Rattle.bal_global.proofs.Placed.{age_placed, greatest-least, greatest-most, oldest-least, oldest-most}
use Rattle.bal_global.proofs.States.{regions-left, role-left}

-- a region by the names and by the objects that were packed into it
abbrev by_names : Config → Board → Option ℕ → ℕ → List Name → RegionState
by_names c d current q names = cond (is_empty names) free_region (record {
  role = Object (cond (is_current current q) 0 (greatest_age d (placed_among names d.present)));
  used = words_of_all c d names;
  estimate = words_of_all c d names;
  remembered = cards [];
})

module _ (c : Config) (t u : Table) (roots made marked : List ℕ) (dead : List Name) (b : Board) (cleared : IsCleared t u roots marked dead)
    (on : IsOnBoard c t roots made b) (walks : PathsAreWalks) (headers : HeadersAreRead) where
  -- the board without the dead
  abbrev d : Board
  d = without_names c dead b

  regions-are : d.regions ≡ t.regions
  regions-are = regions-without t roots made b on.meets c dead

  -- the age of the region where an object lies that is left
  age-left : (a : ℕ) → is_in a (starts_of u) ≡ true → age_of (region_at d.regions (region_of t.shape a)).role ≡ age_at u a
  age-left a among =
      let o = is-left-at c t u roots made marked dead b cleared on walks headers a among in
      ap (λ (rs : List RegionState). age_of (region_at rs (region_of t.shape a)).role) regions-are
      ∙ sym (ap age_of (role-left marked t u cleared.now cleared.swept a o.thing o.now))

  -- Some of the objects that are left.
  module _ (xs : List ℕ) (those : (a : ℕ) → is_in a xs ≡ true → is_in a (starts_of u) ≡ true) where
    abbrev names : List Name
    names = map (name_at u) xs

    words-same : words_of_all c d names ≡ sum_by (words_at u) xs
    words-same =
        ap sum (map-over (words_of c b) (name_at u) xs ∙ map-same_in (λ a. words_of c b (name_at u a)) (words_at u) xs
        (λ a among. words-left c t u roots made marked dead b cleared on walks headers a (those a among)))
        ∙ sum-map (words_at u) xs

    -- the oldest of the placed ones is no older than the oldest of the objects
    placed-age : (p : Placed) → IsPlacedAt t roots made b on.meets p → IsTrue (is_among p.name names) → age_placed d p ≤ greatest (map (age_at u) xs)
    placed-age p at among =
        let told = told-name (name_at u) xs p.name among in
        let a = told.0 in
        let o = is-left-at c t u roots made marked dead b cleared on walks headers a (those a told.1.0) in
        let named : at.thing.name ≡ o.thing.name = sym (ap (λ (q : Placed). q.name) at.is) ∙ (sym told.1.1 ∙ ap name_of o.now) in
        let same : at.address ≡ a = on.meets.decodes.objects.once at.address a at.thing o.thing at.starts o.before named in
        let region : p.region ≡ region_of t.shape a = ap (λ (q : Placed). q.region) at.is ∙ ap (region_of t.shape) same in
        let age : age_placed d p ≡ age_at u a = ap (λ q. age_of (region_at d.regions q).role) region ∙ age-left a (those a told.1.0) in
        subst (λ n. n ≤ greatest (map (age_at u) xs)) (sym age) (greatest-least (age_at u) xs a told.1.0)

    not-lost : (k : Bool) → true ≡ not k → k ≡ false
    not-lost true e = absurd (false≢true (sym e))
    not-lost false e = refl

    object-age : (a : ℕ) → is_in a xs ≡ true → age_at u a ≤ greatest_age d (placed_among names d.present)
    object-age a among =
        let o = is-left-at c t u roots made marked dead b cleared on walks headers a (those a among) in
        let p : Placed = placed_at o.thing.name (spot_at (heap_by t roots made) a) in
        subst (λ n. n ≤ greatest_age d (placed_among names d.present)) (age-left a (those a among))
        (oldest-least d names dead b.present o.thing.name p (on.meets.decodes.places a o.thing o.before)
        (subst (λ (n : Name). IsTrue (is_among n names)) (ap name_of o.now) (name-told (name_at u) xs a among))
        (not-lost (is_among o.thing.name dead) (sym o.kept ∙ keeps-not t u roots made marked dead b cleared on.meets walks a o.thing o.before)))

    ages-same : greatest_age d (placed_among names d.present) ≡ greatest (map (age_at u) xs)
    ages-same =
        let least = oldest-most d names dead (greatest (map (age_at u) xs)) b.present
        (each-goes (IsPlacedAt t roots made b on.meets) (λ (p : Placed). IsTrue (is_among p.name names) → age_placed d p ≤ greatest (map (age_at u) xs)) placed-age
        b.present (each-placed t roots made b on.meets)) in
        let most = greatest-most (age_at u) (greatest_age d (placed_among names d.present)) xs object-age in
        omega (arith, least, most)

  -- a region has what its objects make it
  region-packed : (current : Option ℕ) (q : ℕ) (xs : List ℕ) → ((a : ℕ) → is_in a xs ≡ true → is_in a (starts_of u) ≡ true)
      → by_names c d current q (map (name_at u) xs) ≡ region_of_objects u current q xs
  region-packed current q [] those = refl
  region-packed current q (a ∷ xs) those =
      ap₂ (λ (age words : ℕ). record { role = Object (cond (is_current current q) 0 age); used = words; estimate = words; remembered = cards [] })
      (ages-same (a ∷ xs) those) (words-same (a ∷ xs) those)

  module _ (to : ℕ → ℕ) where
    abbrev packed : List Packed
    packed = told_by_plan u to

    names-into : (q : ℕ) → names_packed_into packed q ≡ map (name_at u) (objects_into u to (u.shape.regions * u.shape.words) q)
    names-into q =
        ap (map (λ (k : Packed). k.name)) (filter-over (λ (k : Packed). k.region == q) (packed_as u to) (starts_of u))
        ∙ map-over (λ (k : Packed). k.name) (packed_as u to) (objects_into u to (u.shape.regions * u.shape.words) q)

    one-region : (q : ℕ) → region_after_packing c d packed q ≡ packed_region u to q
    one-region q =
        ap (λ k. cond k (record (region_at d.regions q) { remembered = cards [] }) (by_names c d (last_packed packed) q (names_packed_into packed q)))
        (ap (λ (rs : List RegionState). is_leaf (region_at rs q).role) regions-are ∙ no-leaf t q cleared.table)
        ∙ (ap (by_names c d (last_packed packed) q) (names-into q)
        ∙ region-packed (last_packed packed) q (objects_into u to (u.shape.regions * u.shape.words) q)
        (λ a among. filter-was (λ e. region_of u.shape (to e) == q) (starts_of u) a among))

    pub regions-packed : map (packed_region u to) (all_regions u.regions) ≡ map (region_after_packing c d packed) (all_regions d.regions)
    regions-packed =
        sym (map-same_in (region_after_packing c d packed) (packed_region u to) (all_regions u.regions) (λ q among. one-region q))
        ∙ ap (λ n. map (region_after_packing c d packed) (range_with_len 0 n)) (regions-left marked t u cleared.now cleared.swept ∙ sym (ap (λ (rs : List RegionState). length rs) regions-are))
