-- The objects that are left, by what a collection tells of them.
use Rattle.std.proofs.Common.{◌≡◌, ℕ, ◌*◌, ◌<◌, ◌≤◌, inl, inr, true, false, not, IsTrue, List, [], ◌∷◌, filter, map, Some, refl, ap, subst, sym, ◌∙◌, arith}
use Rattle.std.specs.Prelude.{is_some}
use Rattle.std.specs.List.{AllByRecursion, range_with_len}
use Rattle.std.proofs.Math.Nat.{div-mul-le_self}
use Rattle.std.proofs.lemmas.Bool.{cases_lt}
use Rattle.std.proofs.lemmas.List.{get_or_past, length-map}
use Rattle.std.proofs.lemmas.Nat.{le-div}
use Rattle.bal_base.specs.Bits.{IsAscending}
use Rattle.bal_base.proofs.Lemmas.{among-first}
use Rattle.bal_layout.specs.Addresses.{region_of}
use Rattle.bal_layout.specs.Names.{is_among}
use Rattle.bal_layout.specs.Regions.{all_regions, free_region, is_in, is_leaf, region_at}
use Rattle.bal_layout.specs.Shape.{Shape}
use Rattle.bal_layout.specs.declared.name.Name.{Name}
use Rattle.bal_layout.specs.declared.region_state.RegionState.{RegionState}
use Rattle.bal_layout.specs.declared.region_state.Role.{Role}
use Rattle.bal_layout.specs.declared.region_state.Role.TheVariants as roles
use Rattle.bal_model.proofs.Lemmas.{is_among-head, is_among-tail}
use Rattle.bal_model.specs.declared.config.Config.{Config}
use Rattle.bal_model.specs.declared.event.Packed.{Packed}
use Rattle.bal_model.specs.Sizes.{size_of}
use Rattle.bal_plan.specs.Plan.{IsPlan, name_of, packed_as, starts_of, told_by_plan, words_at}
use Rattle.bal_rules.specs.Board.{Board, place_of, without_names, words_of, words_of_object}
use Rattle.bal_rules.specs.GlobalEvents.{IsGlobal, NeverDescend, former_region, names_packed, next_fit, region_before, survivors, targets_of_packing}
use Rattle.bal_table.specs.Table.{IsRole, IsTable, Table, role_at, things_of}
use Rattle.bal_words.specs.Shown.{object_of}
use Rattle.bal_words.specs.Things.{Thing}
use Rattle.bal_global.specs.Global.{IsOnBoard}
use Rattle.bal_global.specs.Cleared.{IsCleared}
use Rattle.bal_global.proofs.Decoded.{regions-without, shown-object}
use Rattle.bal_global.proofs.Garbage.{dead-are, many-left, survivor-left}
use Rattle.bal_global.proofs.Laws.{HeadersAreRead, PathsAreWalks}
use Rattle.bal_global.proofs.Left.{was}
use Rattle.bal_global.proofs.Named.{name_at, names_left, start-is, starts-ascend}
use Rattle.bal_global.proofs.Numbers.{each-mapped, filter-all, map-over, map-same_in}
use Rattle.bal_global.proofs.Sized.{words-are}

-- what holds of each name among them holds of each
each-from : (P : Name → Type 0) (xs : List Name) → ((x : Name) → IsTrue (is_among x xs) → P x) → AllByRecursion P xs
each-from P [] each = tt
each-from P (x ∷ xs) each = (each x (is_among-head x xs), each-from P xs (λ y among. each y (is_among-tail y x xs among)))

-- Regions of addresses.

pub regions-up : (s : Shape) (a b : ℕ) → 0 < s.words → a ≤ b → region_of s a ≤ region_of s b
regions-up s a b some less = le-div (region_of s a) b s.words some (omega (arith, less, div-mul-le_self a s.words))

never-descend : (s : Shape) (xs : List ℕ) → 0 < s.words → IsAscending xs → NeverDescend (map (region_of s) xs)
never-descend s [] some up = tt
never-descend s (a ∷ []) some up = tt
never-descend s (a ∷ b ∷ xs) some up = (regions-up s a b some (omega (arith, up.0 b (among-first b xs))), never-descend s (b ∷ xs) some up.1)

-- no region of a table is a leaf
role-whole : (r : Role) → IsRole r → is_leaf r ≡ false
role-whole roles.Free role = refl
role-whole (roles.Object age) role = refl
role-whole roles.Leaf role = absurd role

pub no-leaf : (t : Table) (q : ℕ) → IsTable t → is_leaf (role_at t q) ≡ false
no-leaf t q table = elim (cases_lt q t.shape.regions) [
  | inl within ↦ role-whole (role_at t q) (table.each q within).role
  | inr past ↦ ap (λ (r : RegionState). is_leaf r.role) (get_or_past t.regions q free_region (omega (arith, past, table.regions)))
]

module _ (c : Config) (t u : Table) (roots made marked : List ℕ) (dead : List Name) (b : Board) (cleared : IsCleared t u roots marked dead)
    (on : IsOnBoard c t roots made b) (walks : PathsAreWalks) (headers : HeadersAreRead) where
  -- an object that is left, which was there before
  pub record IsLeft (a : ℕ) : Type 0 where
    pub thing : Thing
    pub now : things_of u a ≡ Some thing
    pub before : things_of t a ≡ Some thing
    pub kept : is_in a marked ≡ true

  pub is-left-at : (a : ℕ) → is_in a (starts_of u) ≡ true → IsLeft a
  is-left-at a among =
      let x = start-is u (u.shape.regions * u.shape.words) a among in
      let old = was (things_of t) (things_of u) marked cleared.swept.objects a x.0 x.1 in
      record { thing = x.0; now = x.1; before = old.1; kept = old.0 }

  same-shape : c.geometry ≡ u.shape
  same-shape = on.shape ∙ sym cleared.swept.shape

  -- it takes as many words as the plain state says
  pub words-left : (a : ℕ) → is_in a (starts_of u) ≡ true → words_of c b (name_at u a) ≡ words_at u a
  words-left a among =
      let o = is-left-at a among in
      ap (words_of c b) (ap name_of o.now)
      ∙ (ap (words_of_object c) (shown-object t roots made b on.meets a o.thing o.before).1
      ∙ (ap (λ (s : Shape). (size_of s (object_of (things_of t) o.thing)).words) same-shape
      ∙ words-are headers u a o.thing (things_of t) cleared.now o.now))

  -- and it lay where it lies
  pub place-left : (a : ℕ) → is_in a (starts_of u) ≡ true → region_before (place_of b.present (name_at u a)) ≡ region_of t.shape a
  place-left a among =
      let o = is-left-at a among in
      ap region_before (ap (place_of b.present) (ap name_of o.now) ∙ on.meets.decodes.places a o.thing o.before)

  module _ (to : ℕ → ℕ) (plan : IsPlan u to) where
    abbrev packed : List Packed
    packed = told_by_plan u to

    pub names-told : names_packed packed ≡ names_left u
    names-told = map-over (λ (k : Packed). k.name) (packed_as u to) (starts_of u)

    some-words : 0 < t.shape.words
    some-words = omega (arith, cleared.table.shape.fewest_words)

    by-region : NeverDescend (map (former_region b) packed)
    by-region = subst NeverDescend
        (sym (map-over (former_region b) (packed_as u to) (starts_of u)
        ∙ map-same_in (λ a. former_region b (packed_as u to a)) (region_of t.shape) (starts_of u) place-left))
        (never-descend t.shape (starts_of u) some-words (starts-ascend u (u.shape.regions * u.shape.words)))

    -- all regions are packed
    targets : targets_of_packing (without_names c dead b) ≡ range_with_len 0 u.shape.regions
    targets =
        ap (λ (rs : List RegionState). filter (λ q. not (is_leaf (region_at rs q).role)) (all_regions rs)) (regions-without t roots made b on.meets c dead)
        ∙ (filter-all (λ q. not (is_leaf (role_at t q))) (all_regions t.regions) (λ q. ap not (no-leaf t q cleared.table))
        ∙ ap (range_with_len 0) (cleared.table.regions ∙ ap (λ (s : Shape). s.regions) (sym cleared.swept.shape)))

    sizes : map (words_of c b) (names_packed packed) ≡ map (words_at u) (starts_of u)
    sizes =
        ap (map (words_of c b)) names-told
        ∙ (map-over (words_of c b) (name_at u) (starts_of u)
        ∙ map-same_in (λ a. words_of c b (name_at u a)) (words_at u) (starts_of u) words-left)

    by-next-fit : map (λ (k : Packed). k.region) packed ≡ next_fit c.geometry.words (targets_of_packing (without_names c dead b)) 0 (map (words_of c b) (names_packed packed))
    by-next-fit =
        map-over (λ (k : Packed). k.region) (packed_as u to) (starts_of u)
        ∙ (plan.next_fit
        ∙ (ap (λ (s : Shape). next_fit s.words (range_with_len 0 u.shape.regions) 0 (map (words_at u) (starts_of u))) (sym same-shape)
        ∙ (ap (λ (qs : List ℕ). next_fit c.geometry.words qs 0 (map (words_at u) (starts_of u))) (sym targets)
        ∙ ap (next_fit c.geometry.words (targets_of_packing (without_names c dead b)) 0) (sym sizes))))

    none-up : AllByRecursion (λ (k : Packed). k.region ≤ former_region b k) packed
    none-up = each-mapped (λ (k : Packed). k.region ≤ former_region b k) (packed_as u to) (starts_of u) (λ a among.
        let o = is-left-at a among in
        let down : region_of t.shape (to a) ≤ region_of t.shape a = regions-up t.shape (to a) a some-words (plan.down a (ap is_some o.now)) in
        omega (arith, down, place-left a among, ap (λ (s : Shape). region_of s (to a)) cleared.swept.shape))

    -- so it is a global collection of the board
    pub is-global : IsGlobal c b dead packed
    is-global = record {
      just_the_garbage = dead-are t u roots made marked dead b cleared on.meets walks;
      as_many = length-map (starts_of u) (packed_as u to) ∙ many-left t u roots made marked dead b cleared on.meets walks;
      each_packed = each-from (λ (x : Name). IsTrue (is_among x (names_packed packed))) (survivors b)
          (λ x among. subst (λ (ns : List Name). IsTrue (is_among x ns)) (sym names-told) (survivor-left t u roots made marked dead b cleared on.meets walks x among));
      by_region = by-region;
      by_next_fit = by-next-fit;
      none_up = none-up;
    }
