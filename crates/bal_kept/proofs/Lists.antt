-- Items of lists by their places, names in lists, and placed objects that pass a test.
use Rattle.std.proofs.Common.{◌≡◌, ℕ, zero, suc, inl, inr, Bool, true, false, cond, ◌||◌, IsTrue, List, [], ◌∷◌, filter, map, Option, Some, None, refl, ap, sym, subst, ◌∙◌}
use Rattle.std.specs.Prelude.{Contains, option_map, slice_get}
use Rattle.std.specs.List.{list_any}
use Rattle.std.proofs.lemmas.Bool.{false_from_ne_true, false≢true, or_cases}
use Rattle.std.proofs.lemmas.List.Folds.{Any-from_list_any, list_any_at}
use Rattle.std.proofs.lemmas.Option.{get_or_from_slice_get, none-some, same_Some, slice_get-get_or, slice_get-map, slice_get_within}
use Rattle.bal_core.specs.World.{At}
use Rattle.bal_layout.specs.Names.{is_among, is_before, same_name}
use Rattle.bal_layout.specs.declared.name.Name.{Name}
use Rattle.bal_model.specs.Walk.{names_in}
use Rattle.bal_model.proofs.Lemmas.{is_among-head, is_among-tail, same_name-eq, same_name-refl}
use Rattle.bal_rules.specs.Board.{Placed, names_placed, place_of}
use Rattle.bal_rules.specs.Sound.{IsAscending}
use Rattle.bal_rules.proofs.Lemmas.{all-among, among-placed-filter, ascending-after, ascending-rest, before-other, same-laws}
use Rattle.bal_words.proofs.Lemmas.{mapped-from}

-- Items by their places.

module _ {X : Type 0} (xs : List X) where
  pub at-contains : (i : ℕ) (x : X) → At xs i x → Contains xs x
  at-contains i x at = (i, slice_get_within xs i x at, get_or_from_slice_get xs i x x at)

  pub contains-at : (x : X) → Contains xs x → (i : ℕ) × At xs i x
  contains-at x among = (among.0, slice_get-get_or xs among.0 x among.1 ∙ ap Some among.2)

  -- what a function gives of each item
  module _ {Y : Type 0} (f : X → Y) where
    pub at-map : (i : ℕ) (x : X) → At xs i x → At (map f xs) i (f x)
    at-map i x at = slice_get-map f xs i ∙ ap (option_map f) at

    pub map-at : (i : ℕ) (y : Y) → At (map f xs) i y → (x : X) × (At xs i x × (f x ≡ y))
    map-at i y at = mapped-from f (slice_get xs i) y (sym (slice_get-map f xs i) ∙ at)

-- Names in lists.

-- a name is among those that are not null if it has a place there
pub name-at : (cs : List (Option Name)) (n : Name) → IsTrue (is_among n (names_in cs)) → (i : ℕ) × At cs i (Some n)
name-at [] n among = absurd (false≢true among)
name-at (None ∷ cs) n among = let rest = name-at cs n among in (suc rest.0, rest.1)
name-at (Some y ∷ cs) n among = elim (or_cases (same_name n y) (is_among n (names_in cs)) among) [
  | inl here ↦ (0, ap (λ (m : Name). Some (Some m)) (sym (same_name-eq n y here)))
  | inr later ↦ let rest = name-at cs n later in (suc rest.0, rest.1)
]

pub at-name : (cs : List (Option Name)) (i : ℕ) (n : Name) → At cs i (Some n) → IsTrue (is_among n (names_in cs))
at-name [] i n at = absurd (none-some (Some n) at)
at-name (c ∷ cs) zero n at = subst (λ (o : Option Name). IsTrue (is_among n (names_in (o ∷ cs)))) (sym (same_Some c (Some n) at)) (is_among-head n (names_in cs))
at-name (None ∷ cs) (suc i) n at = at-name cs i n at
at-name (Some y ∷ cs) (suc i) n at = is_among-tail n y (names_in cs) (at-name cs i n at)

-- a test passes some name of a list
pub some-among : (p : Name → Bool) (xs : List Name) → IsTrue (list_any p xs) → (x : Name) × (IsTrue (is_among x xs) × IsTrue (p x))
some-among p xs any =
    let found = Any-from_list_any p xs any in
    let x = found.1 in
    (x, (list_any_at (same_name x) xs found.0 x found.2 (ap (same_name x) found.3 ∙ same_name-refl x), found.4))

-- Placed objects that pass a test.

-- where names ascend, an object is among them exactly if it passes
pub placed-filter : (p : Placed → Bool) (ps : List Placed) (n : Name) (q : Placed) → IsAscending (names_placed ps) → place_of ps n ≡ Some q
    → is_among n (names_placed (filter p ps)) ≡ p q
placed-filter p [] n q up is = absurd (none-some q is)
placed-filter p (r ∷ ps) n q up is = by (same_name r.name n) refl is (placed-filter p ps n q (ascending-rest r.name (names_placed ps) up))
  where
    among : Bool
    among = is_among n (names_placed (filter p ps))

    -- the first is none of the others
    alone : same_name r.name n ≡ true → among ≡ false
    alone same = false_from_ne_true among (λ h. false≢true (sym (before-other r.name n
        (all-among (λ (y : Name). IsTrue (is_before r.name y)) (names_placed ps) n (ascending-after r.name (names_placed ps) up) (among-placed-filter p ps n h))) ∙ same))

    first : same_name r.name n ≡ true → (t : Bool) → is_among n (names_placed (cond t (r ∷ filter p ps) (filter p ps))) ≡ t
    first same true = ap (λ t. t || among) (same-laws.symm n r.name ∙ same)
    first same false = alone same

    other : same_name r.name n ≡ false → (t : Bool) → is_among n (names_placed (cond t (r ∷ filter p ps) (filter p ps))) ≡ among
    other apart true = ap (λ t. t || among) (same-laws.symm n r.name ∙ apart)
    other apart false = refl

    by : (t : Bool) → same_name r.name n ≡ t → cond t (Some r) (place_of ps n) ≡ Some q → (place_of ps n ≡ Some q → among ≡ p q)
        → is_among n (names_placed (cond (p r) (r ∷ filter p ps) (filter p ps))) ≡ p q
    by true same is rest = first same (p r) ∙ ap p (same_Some r q is)
    by false apart is rest = other apart (p r) ∙ rest is
