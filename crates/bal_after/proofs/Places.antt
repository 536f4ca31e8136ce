-- Placed objects by name: in a list where no name stands twice, who is found under a name passes a test exactly if the name is
-- among those that pass.
use Rattle.std.proofs.Common.{◌≡◌, inl, inr, Bool, true, false, cond, IsTrue, List, [], ◌∷◌, filter, map, refl, ap, sym, subst, ◌∙◌}
use Rattle.std.specs.Prelude.{Some, if◌then◌else◌}
use Rattle.std.specs.List.{AllByRecursion}
use Rattle.std.proofs.lemmas.Bool.{false≢true, or_cases}
use Rattle.std.proofs.lemmas.Option.{none-some, same_Some}
use Rattle.bal_layout.specs.Names.{is_among, is_before, same_name}
use Rattle.bal_layout.specs.declared.name.Name.{Name}
use Rattle.bal_model.specs.Ascending.{IsAscending}
use Rattle.bal_model.proofs.Lemmas.{is_among-head, is_among-tail, same_name-eq, same_name-refl}
use Rattle.bal_rules.proofs.Lemmas.{all-among, among-placed-filter, ascending-after, ascending-rest, before-other, each-goes}
use Rattle.bal_rules.specs.Board.{Placed, names_placed, place_of}

pub placed-name : (present : List Placed) (x : Name) (p : Placed) → place_of present x ≡ Some p → p.name ≡ x
placed-name [] x p h = absurd (none-some p h)
placed-name (q ∷ ps) x p h = by (same_name q.name x) refl h (placed-name ps x p)
  where
    by : (t : Bool) → same_name q.name x ≡ t → (if t then Some q else place_of ps x) ≡ Some p
        → (place_of ps x ≡ Some p → p.name ≡ x) → p.name ≡ x
    by true is found rest = ap (λ (r : Placed). r.name) (sym (same_Some q p found)) ∙ same_name-eq q.name x is
    by false is found rest = rest found

pub found-passes : (f : Placed → Bool) (present : List Placed) (x : Name) (p : Placed) → place_of present x ≡ Some p → IsTrue (f p)
    → IsTrue (is_among x (names_placed (filter f present)))
found-passes f [] x p found passes = absurd (none-some p found)
found-passes f (q ∷ ps) x p found passes =
    by (same_name q.name x) (f q) refl refl found (λ later. found-passes f ps x p later passes)
  where
    by : (t u : Bool) → same_name q.name x ≡ t → f q ≡ u → (if t then Some q else place_of ps x) ≡ Some p
        → (place_of ps x ≡ Some p → IsTrue (is_among x (names_placed (filter f ps))))
        → IsTrue (is_among x (names_placed (cond u (q ∷ filter f ps) (filter f ps))))
    by true true is here found rest =
        subst (λ (y : Name). IsTrue (is_among y (q.name ∷ names_placed (filter f ps)))) (same_name-eq q.name x is)
        (is_among-head q.name (names_placed (filter f ps)))
    by true false is fails found rest = absurd (false≢true (sym fails ∙ ap f (same_Some q p found) ∙ passes))
    by false true is here found rest = is_among-tail x q.name (names_placed (filter f ps)) (rest found)
    by false false is fails found rest = rest found

pub passes-found : (f : Placed → Bool) (present : List Placed) → IsAscending (names_placed present) → (x : Name)
    → IsTrue (is_among x (names_placed (filter f present))) → (p : Placed) × (place_of present x ≡ Some p) × IsTrue (f p)
passes-found f [] up x h = absurd (false≢true h)
passes-found f (q ∷ ps) up x h = by (f q) refl h (passes-found f ps (ascending-rest q.name (names_placed ps) up) x)
  where
    -- a name that stands later is not the first one
    later : IsTrue (is_among x (names_placed (filter f ps))) → (p : Placed) × (place_of ps x ≡ Some p) × IsTrue (f p)
        → (p : Placed) × (place_of (q ∷ ps) x ≡ Some p) × IsTrue (f p)
    later there found = (
      found.0,
      ap (λ (t : Bool). if t then Some q else place_of ps x)
          (before-other q.name x (all-among (λ (y : Name). IsTrue (is_before q.name y)) (names_placed ps) x
          (ascending-after q.name (names_placed ps) up) (among-placed-filter f ps x there)))
          ∙ found.1,
      found.2,
    )

    by : (t : Bool) → f q ≡ t → IsTrue (is_among x (names_placed (cond t (q ∷ filter f ps) (filter f ps))))
        → (IsTrue (is_among x (names_placed (filter f ps))) → (p : Placed) × (place_of ps x ≡ Some p) × IsTrue (f p))
        → (p : Placed) × (place_of (q ∷ ps) x ≡ Some p) × IsTrue (f p)
    by true is h rest = elim (or_cases (same_name x q.name) (is_among x (names_placed (filter f ps))) h) [
      | inl same ↦ (
        q,
        ap (λ (t : Bool). if t then Some q else place_of ps x)
            (subst (λ (y : Name). same_name q.name y ≡ true) (sym (same_name-eq x q.name same)) (same_name-refl q.name)),
        is,
      )
      | inr there ↦ later there (rest there)
    ]
    by false is h rest = later h (rest h)

-- what passes a test is among those that pass
pub each-passing : {X : Type 0} (name : X → Name) (p : X → Bool) (xs : List X)
    → AllByRecursion (λ (x : X). IsTrue (p x) → IsTrue (is_among (name x) (map name (filter p xs)))) xs
each-passing name p [] = tt
each-passing {X} name p (x ∷ xs) = by (p x) refl (each-passing name p xs)
  where
    by : (t : Bool) → p x ≡ t → AllByRecursion (λ (y : X). IsTrue (p y) → IsTrue (is_among (name y) (map name (filter p xs)))) xs
        → AllByRecursion (λ (y : X). IsTrue (p y) → IsTrue (is_among (name y) (map name (cond t (x ∷ filter p xs) (filter p xs))))) (x ∷ xs)
    by true is rest = (
      λ passes. is_among-head (name x) (map name (filter p xs)),
      each-goes (λ (y : X). IsTrue (p y) → IsTrue (is_among (name y) (map name (filter p xs))))
          (λ (y : X). IsTrue (p y) → IsTrue (is_among (name y) (name x ∷ map name (filter p xs))))
          (λ y h passes. is_among-tail (name y) (name x) (map name (filter p xs)) (h passes)) xs rest,
    )
    by false is rest = (λ passes. absurd (false≢true (sym is ∙ passes)), rest)

pub each-named : {X : Type 0} (name : X → Name) (xs : List X) → AllByRecursion (λ (x : X). IsTrue (is_among (name x) (map name xs))) xs
each-named name [] = tt
each-named {X} name (x ∷ xs) = (
  is_among-head (name x) (map name xs),
  each-goes (λ (y : X). IsTrue (is_among (name y) (map name xs))) (λ (y : X). IsTrue (is_among (name y) (name x ∷ map name xs)))
      (λ y h. is_among-tail (name y) (name x) (map name xs) h) xs (each-named name xs),
)
