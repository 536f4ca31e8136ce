-- How many regions are leaves once the dead are gone: no more than the objects that stay have.
use Rattle.std.proofs.Common.{◌≡◌, ◌≤◌, ◌<◌, ◌+◌, ◌||◌, inl, inr, ℕ, Bool, true, false, not, cond, IsTrue, List, [], ◌∷◌, ◌++◌, length, filter, map, refl, ap, sym, ◌∙◌, arith, length-append}
use Rattle.std.specs.List.{AllByRecursion, IsDistinct, list_any, range_with_len, sum_by}
use Rattle.std.specs.Prelude.{nat_eq}
use Rattle.std.proofs.lemmas.Bool.{cases_lt, false≢true, ne_eqb, or_cases, or_left, or_parts, or_right}
use Rattle.std.proofs.lemmas.Cmp.{nat_eq_equiv}
use Rattle.std.proofs.lemmas.List.{get_or_past}
use Rattle.std.proofs.lemmas.List.FromFn.{get_or-map-range_with_len, length-map-range_with_len}
use Rattle.std.proofs.lemmas.List.Folds.{list_any-append}
use Rattle.std.proofs.lemmas.List.Sums.{sum_by-cons}
use Rattle.std.proofs.lemmas.Map.Made.{length-le_from_is_member}
use Rattle.bal_layout.specs.Names.{is_among}
use Rattle.bal_layout.specs.Regions.{free_region, freed, is_in, is_leaf, region_at, without_cards_of}
use Rattle.bal_layout.specs.Shape.{Shape}
use Rattle.bal_layout.specs.declared.name.Name.{Name}
use Rattle.bal_layout.specs.declared.region_state.RegionState.{RegionState}
use Rattle.bal_model.specs.declared.config.Config.{Config}
use Rattle.bal_rules.specs.Board.{Board, Placed, leaves_of, names_placed, placed_among, placed_except, without_names}
use Rattle.bal_rules.proofs.BoardsInRange.{each-in, range-below}
use Rattle.bal_rules.proofs.Each.{each-goes}
use Rattle.bal_rules.proofs.NextFit.{Ascend, passed-ascend}

-- Numbers that pass a test.

pub each-passed : (P : ℕ → Type 0) (p : ℕ → Bool) (qs : List ℕ) → AllByRecursion P qs → AllByRecursion (λ (q : ℕ). IsTrue (p q) × P q) (filter p qs)
each-passed P p [] h = tt
each-passed P p (q ∷ qs) h = by (p q) refl (each-passed P p qs h.1)
  where
    by : (b : Bool) → p q ≡ b → AllByRecursion (λ (q : ℕ). IsTrue (p q) × P q) (filter p qs) → AllByRecursion (λ (q : ℕ). IsTrue (p q) × P q) (cond b (q ∷ filter p qs) (filter p qs))
    by true is rest = ((is, h.0), rest)
    by false is rest = rest

distinct-ascend : (qs : List ℕ) → Ascend qs → IsDistinct nat_eq qs
unfolding IsDistinct
distinct-ascend [] h = tt
distinct-ascend (q ∷ qs) h =
    (each-goes (λ (r : ℕ). q < r) (λ (r : ℕ). nat_eq q r ≡ false) (λ r less. ne_eqb q r (λ same. omega (arith, less, same))) qs h.0, distinct-ascend qs h.1)

turned : (q : ℕ) (qs : List ℕ) → list_any (nat_eq q) qs ≡ is_in q qs
turned q [] = refl
turned q (r ∷ qs) = ap (λ (b : Bool). b || list_any (nat_eq q) qs) (nat_eq_equiv.symm q r) ∙ ap (λ (b : Bool). nat_eq r q || b) (turned q qs)

-- Leaves.

-- a leaf of a present object that is not one of the gone is of one that stays
pub leaf-stays : (gone : List Name) (present : List Placed) (q : ℕ) → IsTrue (is_in q (leaves_of present)) → is_in q (leaves_of (placed_among gone present)) ≡ false
    → IsTrue (is_in q (leaves_of (placed_except gone present)))
leaf-stays gone [] q h k = h
leaf-stays gone (p ∷ ps) q h k = by (is_among p.name gone) k (leaf-stays gone ps q)
  where
    at : (rest : List ℕ) → is_in q (p.leaves ++ rest) ≡ (is_in q p.leaves || is_in q rest)
    at rest = list_any-append (λ (m : ℕ). nat_eq m q) p.leaves rest

    by : (b : Bool) → is_in q (leaves_of (cond b (p ∷ placed_among gone ps) (placed_among gone ps))) ≡ false
        → (IsTrue (is_in q (leaves_of ps)) → is_in q (leaves_of (placed_among gone ps)) ≡ false → IsTrue (is_in q (leaves_of (placed_except gone ps))))
        → IsTrue (is_in q (leaves_of (cond (not b) (p ∷ placed_except gone ps) (placed_except gone ps))))
    by true k rest =
        let none = or_parts (is_in q p.leaves) (is_in q (leaves_of (placed_among gone ps))) (sym (at (leaves_of (placed_among gone ps))) ∙ k) in
        elim (or_cases (is_in q p.leaves) (is_in q (leaves_of ps)) (sym (at (leaves_of ps)) ∙ h)) [
          | inl here ↦ absurd (false≢true (sym none.0 ∙ here))
          | inr later ↦ rest later none.1
        ]
    by false k rest =
        let e = at (leaves_of (placed_except gone ps)) in
        elim (or_cases (is_in q p.leaves) (is_in q (leaves_of ps)) (sym (at (leaves_of ps)) ∙ h)) [
          | inl here ↦ e ∙ or_left (is_in q p.leaves) (is_in q (leaves_of (placed_except gone ps))) here
          | inr later ↦ e ∙ or_right (is_in q p.leaves) (is_in q (leaves_of (placed_except gone ps))) (rest later k)
        ]

-- a leaf of regions that were made from a function of their numbers is one by that function
pub leaf-mapped : (f : ℕ → RegionState) (n q : ℕ) → IsTrue (is_leaf (region_at (map f (range_with_len 0 n)) q).role) → IsTrue (is_leaf (f q).role)
leaf-mapped f n q h = elim (cases_lt q n) [
  | inl within ↦ sym (ap (λ (r : RegionState). is_leaf r.role) (get_or-map-range_with_len f 0 n q q free_region within (omega arith))) ∙ h
  | inr past ↦ (
      let long = length-map-range_with_len f 0 n in
      absurd (false≢true (sym (ap (λ (r : RegionState). is_leaf r.role) (get_or_past (map f (range_with_len 0 n)) q free_region (omega (arith, long, past)))) ∙ h))
      )
]

-- a region that is a leaf after some were freed was one before, and is not one of those
pub leaf-freed : (s : Shape) (qs : List ℕ) (regions : List RegionState) (q : ℕ) → IsTrue (is_leaf (region_at (freed s qs regions) q).role)
    → (is_in q qs ≡ false) × IsTrue (is_leaf (region_at regions q).role)
leaf-freed s qs regions q h =
    by (is_in q qs)
    (leaf-mapped (λ q. cond (is_in q qs) free_region (record (region_at regions q) { remembered = without_cards_of s qs (region_at regions q).remembered })) (length regions) q h)
  where
    by : (b : Bool) → IsTrue (is_leaf (cond b free_region (record (region_at regions q) { remembered = without_cards_of s qs (region_at regions q).remembered })).role)
        → (b ≡ false) × IsTrue (is_leaf (region_at regions q).role)
    by true h = absurd (false≢true h)
    by false h = (refl, h)

-- where each leaf is an object's, there are no more of them than the leaves of the objects that stay
pub few-leaves : (c : Config) (b : Board) (gone : List Name) → ((q : ℕ) → IsTrue (is_leaf (region_at b.regions q).role) → IsTrue (is_in q (leaves_of b.present)))
    → let d = without_names c gone b in
    length (filter (λ q. is_leaf (region_at d.regions q).role) (range_with_len 0 (length b.regions))) ≤ length (leaves_of d.present)
few-leaves c b gone each_leaf =
    let d = without_names c gone b in
    let n = length b.regions in
    let leaf : ℕ → Bool = λ q. is_leaf (region_at d.regions q).role in
    let found = filter leaf (range_with_len 0 n) in
    let each : AllByRecursion (λ (q : ℕ). IsTrue (is_in q (leaves_of d.present))) found =
    each-goes (λ (q : ℕ). IsTrue (leaf q) × (q < n)) (λ (q : ℕ). IsTrue (is_in q (leaves_of d.present)))
    (λ q h.
    let was = leaf-freed c.geometry (leaves_of (placed_among gone b.present)) b.regions q h.0 in
    leaf-stays gone b.present q (each_leaf q was.1) was.0)
    found (each-passed (λ (q : ℕ). q < n) leaf (range_with_len 0 n) (range-below 0 n n (omega arith))) in
    length-le_from_is_member nat_eq_equiv found (leaves_of d.present) (distinct-ascend found (passed-ascend leaf n))
    (λ q h. turned q (leaves_of d.present) ∙ each-in (λ (q : ℕ). IsTrue (is_in q (leaves_of d.present))) found q each (sym (turned q found) ∙ h))

-- the leaves of placed objects, each of which has as many as its name says
pub count-leaves : (g : Name → ℕ) (present : List Placed) → AllByRecursion (λ (p : Placed). length p.leaves ≡ g p.name) present
    → length (leaves_of present) ≡ sum_by g (names_placed present)
count-leaves g [] h = refl
count-leaves g (p ∷ ps) h =
    let long : length (p.leaves ++ leaves_of ps) ≡ length p.leaves + length (leaves_of ps) = length-append p.leaves (leaves_of ps) in
    let more : sum_by g (names_placed (p ∷ ps)) ≡ g p.name + sum_by g (names_placed ps) = sum_by-cons g p.name (names_placed ps) in
    let own : length p.leaves ≡ g p.name = h.0 in
    let rest : length (leaves_of ps) ≡ sum_by g (names_placed ps) = count-leaves g ps h.1 in
    omega (arith, long, more, own, rest)
