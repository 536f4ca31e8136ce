-- Placed objects: where each is found, how old the oldest of their regions is, and where they lie after a packing.
use Rattle.std.proofs.Common.{◌≡◌, ℕ, ◌≤◌, inl, inr, Bool, true, false, cond, not, IsTrue, List, [], ◌∷◌, map, Some, refl, ap, subst, sym, ◌∙◌, arith}
use Rattle.std.specs.Prelude.{max}
use Rattle.std.specs.List.{AllByRecursion}
use Rattle.std.proofs.lemmas.Bool.{false≢true}
use Rattle.std.proofs.lemmas.Option.{none-some, same_Some}
use Rattle.bal_base.proofs.Lemmas.{among-cases, among-first, among-later}
use Rattle.bal_compact.specs.Compacted.{greatest}
use Rattle.bal_layout.specs.Addresses.{region_of}
use Rattle.bal_layout.specs.Names.{is_among, is_before, same_name}
use Rattle.bal_layout.specs.Regions.{age_of, is_in, region_at}
use Rattle.bal_layout.specs.declared.name.Name.{Name}
use Rattle.bal_model.proofs.Lemmas.{is_among-head, is_among-tail, same_name-eq, same_name-refl}
use Rattle.bal_plan.specs.Plan.{packed_as}
use Rattle.bal_rules.specs.Board.{Board, Placed, names_placed, place_of, placed_among, placed_except}
use Rattle.bal_rules.specs.GlobalEvents.{greatest_age, placed_after_packing}
use Rattle.bal_rules.specs.Sound.{IsAscending}
use Rattle.bal_rules.proofs.Lemmas.{ascending-after, ascending-rest, before-other, each-both, each-from_map, each-goes}
use Rattle.bal_table.specs.Table.{Table}
use Rattle.bal_global.proofs.Named.{name_at}

-- each of the placed objects is found by its name
pub placed-found : (ps : List Placed) → IsAscending (names_placed ps) → AllByRecursion (λ (p : Placed). place_of ps p.name ≡ Some p) ps
placed-found [] up = tt
placed-found (p ∷ ps) up = (
  ap (λ b. cond b (Some p) (place_of ps p.name)) (same_name-refl p.name),
  each-goes (λ (q : Placed). IsTrue (is_before p.name q.name) × (place_of ps q.name ≡ Some q)) (λ (q : Placed). place_of (p ∷ ps) q.name ≡ Some q)
      (λ q h. ap (λ b. cond b (Some p) (place_of ps q.name)) (before-other p.name q.name h.0) ∙ h.1) ps
      (each-both (λ (q : Placed). IsTrue (is_before p.name q.name)) (λ (q : Placed). place_of ps q.name ≡ Some q) ps
      (each-from_map (λ (n : Name). IsTrue (is_before p.name n)) (λ (q : Placed). q.name) ps (ascending-after p.name (names_placed ps) up))
      (placed-found ps (ascending-rest p.name (names_placed ps) up))),
)

-- The oldest of some regions.

abbrev pub age_placed : Board → Placed → ℕ
age_placed d p = age_of (region_at d.regions p.region).role

most : (m n k : ℕ) → m ≤ k → n ≤ k → max m n ≤ k
most m n k one two = grind (arith, one, two)

left-most : (m n : ℕ) → m ≤ max m n
left-most m n = grind arith

right-most : (m n : ℕ) → n ≤ max m n
right-most m n = grind arith

module _ (d : Board) (names lost : List Name) where
  abbrev oldest : List Placed → ℕ
  oldest ps = greatest_age d (placed_among names (placed_except lost ps))

  pub oldest-most : (k : ℕ) (ps : List Placed) → AllByRecursion (λ (p : Placed). IsTrue (is_among p.name names) → age_placed d p ≤ k) ps → oldest ps ≤ k
  oldest-most k [] each = omega arith
  oldest-most k (p ∷ ps) each = by (is_among p.name lost) (is_among p.name names) refl (oldest-most k ps each.1)
    where
      by : (gone among : Bool) → is_among p.name names ≡ among → oldest ps ≤ k
          → greatest_age d (placed_among names (cond (not gone) (p ∷ placed_except lost ps) (placed_except lost ps))) ≤ k
      by true among is rest = rest
      by false true is rest = subst (λ b. greatest_age d (cond b (p ∷ placed_among names (placed_except lost ps)) (placed_among names (placed_except lost ps))) ≤ k) (sym is)
          (most (age_placed d p) (oldest ps) k (each.0 is) rest)
      by false false is rest = subst (λ b. greatest_age d (cond b (p ∷ placed_among names (placed_except lost ps)) (placed_among names (placed_except lost ps))) ≤ k) (sym is) rest

  pub oldest-least : (ps : List Placed) (n : Name) (p : Placed) → place_of ps n ≡ Some p → IsTrue (is_among n names) → is_among n lost ≡ false
      → age_placed d p ≤ oldest ps
  oldest-least [] n p is among stays = absurd (none-some p is)
  oldest-least (q ∷ ps) n p is among stays = by (same_name q.name n) refl is (λ h. oldest-least ps n p h among stays)
    where
      others : List Placed
      others = placed_among names (placed_except lost ps)

      more : (known : Bool) → oldest ps ≤ greatest_age d (cond known (q ∷ others) others)
      more true = right-most (age_placed d q) (oldest ps)
      more false = omega arith

      kept : (gone : Bool) → oldest ps ≤ greatest_age d (placed_among names (cond (not gone) (q ∷ placed_except lost ps) (placed_except lost ps)))
      kept true = omega arith
      kept false = more (is_among q.name names)

      here : q.name ≡ n → age_placed d q ≤ oldest (q ∷ ps)
      here e =
          subst (λ b. age_placed d q ≤ greatest_age d (placed_among names (cond (not b) (q ∷ placed_except lost ps) (placed_except lost ps)))) (sym (ap (λ m. is_among m lost) e ∙ stays))
          (subst (λ b. age_placed d q ≤ greatest_age d (cond b (q ∷ others) others)) (sym (ap (λ m. is_among m names) e ∙ among)) (left-most (age_placed d q) (oldest ps)))

      by : (b : Bool) → same_name q.name n ≡ b → cond b (Some q) (place_of ps n) ≡ Some p → (place_of ps n ≡ Some p → age_placed d p ≤ oldest ps) → age_placed d p ≤ oldest (q ∷ ps)
      by true same is rest = subst (λ (r : Placed). age_placed d r ≤ oldest (q ∷ ps)) (same_Some q p is) (here (same_name-eq q.name n same))
      by false other is rest = omega (arith, rest is, kept (is_among q.name lost))

-- The greatest of some numbers.

pub greatest-least : (f : ℕ → ℕ) (xs : List ℕ) (x : ℕ) → is_in x xs ≡ true → f x ≤ greatest (map f xs)
greatest-least f [] x among = absurd (false≢true among)
greatest-least f (y ∷ xs) x among = elim (among-cases y x xs among) [
  | inl here ↦ subst (λ z. f z ≤ greatest (map f (y ∷ xs))) here (left-most (f y) (greatest (map f xs)))
  | inr later ↦ omega (arith, greatest-least f xs x later, right-most (f y) (greatest (map f xs)))
]

pub greatest-most : (f : ℕ → ℕ) (k : ℕ) (xs : List ℕ) → ((x : ℕ) → is_in x xs ≡ true → f x ≤ k) → greatest (map f xs) ≤ k
greatest-most f k [] each = omega arith
greatest-most f k (x ∷ xs) each =
    most (f x) (greatest (map f xs)) k (each x (among-first x xs)) (greatest-most f k xs (λ y among. each y (among-later x y xs among)))

-- What was packed by its name lies in the region that was told of it.
pub packed-found : (u : Table) (to : ℕ → ℕ) (xs : List ℕ) (a : ℕ) (p : Placed) → ((b c : ℕ) → is_in b xs ≡ true → is_in c xs ≡ true → name_at u b ≡ name_at u c → b ≡ c)
    → is_in a xs ≡ true → p.name ≡ name_at u a → placed_after_packing (map (packed_as u to) xs) p ≡ record p { region = region_of u.shape (to a) }
packed-found u to [] a p once among named = absurd (false≢true among)
packed-found u to (b ∷ xs) a p once among named =
    by (same_name (name_at u b) p.name) refl
    (λ later. packed-found u to xs a p (λ c d one two. once c d (among-later b c xs one) (among-later b d xs two)) later named)
  where
    moved : ℕ → Placed
    moved c = record p { region = region_of u.shape (to c) }

    by : (t : Bool) → same_name (name_at u b) p.name ≡ t
        → (is_in a xs ≡ true → placed_after_packing (map (packed_as u to) xs) p ≡ moved a)
        → cond t (moved b) (placed_after_packing (map (packed_as u to) xs) p) ≡ moved a
    by true same rest = ap moved (once b a (among-first b xs) among (same_name-eq (name_at u b) p.name same ∙ named))
    by false other rest = elim (among-cases b a xs among) [
      | inl here ↦ absurd (false≢true (sym other ∙ subst (λ (n : Name). same_name (name_at u b) n ≡ true) (ap (name_at u) here ∙ sym named) (same_name-refl (name_at u b))))
      | inr later ↦ rest later
    ]

-- each is among them by its name
pub placed-among : (ps : List Placed) → AllByRecursion (λ (p : Placed). IsTrue (is_among p.name (names_placed ps))) ps
placed-among [] = tt
placed-among (p ∷ ps) = (
  is_among-head p.name (names_placed ps),
  each-goes (λ (q : Placed). IsTrue (is_among q.name (names_placed ps))) (λ (q : Placed). IsTrue (is_among q.name (names_placed (p ∷ ps))))
      (λ q among. is_among-tail q.name p.name (names_placed ps) among) ps (placed-among ps),
)
