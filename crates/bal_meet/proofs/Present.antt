-- Present objects by name, once one more is placed, and the graph of those that are present.
use Rattle.std.proofs.Common.{◌≡◌, Bool, true, false, cond, ◌||◌, IsTrue, List, [], ◌∷◌, Some, None, refl, ap, sym, subst, ◌∙◌}
use Rattle.std.specs.Prelude.{IsSome, is_some}
use Rattle.std.specs.List.{AllByRecursion}
use Rattle.std.proofs.lemmas.Bool.{cond-true, false_from_ne_true, false≢true, or_from, or_parts}
use Rattle.std.proofs.lemmas.Option.{none-some}
use Rattle.bal_layout.specs.declared.name.Name.{Name}
use Rattle.bal_layout.specs.Graph.{Object}
use Rattle.bal_meet.specs.Decode.{graph_of}
use Rattle.bal_rules.specs.Board.{Placed, names_placed, place_of, with_placed}
use Rattle.bal_layout.specs.Names.{is_among, is_before, same_name}
use Rattle.bal_model.specs.Plain.{State, object}
use Rattle.bal_model.proofs.Lemmas.{same_name-eq, same_name-refl}
use Rattle.bal_words.specs.Things.{Updated}

-- other names are not the same
same_name-other : (x y : Name) → (x ≡ y → ⊥) → same_name x y ≡ false
same_name-other x y other = false_from_ne_true (same_name x y) (λ same. other (same_name-eq x y same))

-- One more is placed.

-- of three tests the first two change places
or-swap : (a b c : Bool) → (a || (b || c)) ≡ (b || (a || c))
or-swap true true c = refl
or-swap true false c = refl
or-swap false b c = refl

-- the new one's name is among them, and those that were
pub among-placed : (p : Placed) (present : List Placed) (x : Name)
    → is_among x (names_placed (with_placed p present)) ≡ (same_name x p.name || is_among x (names_placed present))
among-placed p [] x = refl
among-placed p (q ∷ present) x = by (is_before p.name q.name) (among-placed p present x)
  where
    by : (b : Bool) → is_among x (names_placed (with_placed p present)) ≡ (same_name x p.name || is_among x (names_placed present))
        → is_among x (names_placed (cond b (p ∷ q ∷ present) (q ∷ with_placed p present)))
        ≡ (same_name x p.name || (same_name x q.name || is_among x (names_placed present)))
    by true rest = refl
    by false rest = ap (λ b. same_name x q.name || b) rest ∙ or-swap (same_name x q.name) (same_name x p.name) (is_among x (names_placed present))

-- the new one has its place, where its name wasn't present
pub place-here : (p : Placed) (present : List Placed) → is_among p.name (names_placed present) ≡ false → place_of (with_placed p present) p.name ≡ Some p
place-here p [] absent = ap (λ b. cond b (Some p) None) (same_name-refl p.name)
place-here p (q ∷ present) absent =
    let parts = or_parts (same_name p.name q.name) (is_among p.name (names_placed present)) absent in
    by (is_before p.name q.name) (turned parts.0) (place-here p present parts.1)
  where
    turned : same_name p.name q.name ≡ false → same_name q.name p.name ≡ false
    turned apart = same_name-other q.name p.name (λ e. false≢true (sym apart ∙ subst (λ (n : Name). IsTrue (same_name p.name n)) (sym e) (same_name-refl p.name)))

    by : (b : Bool) → same_name q.name p.name ≡ false → place_of (with_placed p present) p.name ≡ Some p
        → place_of (cond b (p ∷ q ∷ present) (q ∷ with_placed p present)) p.name ≡ Some p
    by true apart rest = ap (λ b. cond b (Some p) (place_of (q ∷ present) p.name)) (same_name-refl p.name)
    by false apart rest = ap (λ b. cond b (Some q) (place_of (with_placed p present) p.name)) apart ∙ rest

-- and the others have theirs
pub place-other : (p : Placed) (present : List Placed) (x : Name) → (x ≡ p.name → ⊥) → place_of (with_placed p present) x ≡ place_of present x
place-other p [] x other = ap (λ b. cond b (Some p) None) (same_name-other p.name x (λ e. other (sym e)))
place-other p (q ∷ present) x other = by (is_before p.name q.name) (place-other p present x other)
  where
    by : (b : Bool) → place_of (with_placed p present) x ≡ place_of present x
        → place_of (cond b (p ∷ q ∷ present) (q ∷ with_placed p present)) x ≡ place_of (q ∷ present) x
    by true rest = ap (λ b. cond b (Some p) (place_of (q ∷ present) x)) (same_name-other p.name x (λ e. other (sym e)))
    by false rest = ap (λ o. cond (same_name q.name x) (Some q) o) rest

-- what was not made isn't present
pub absent-unmade : (s : State) (present : List Placed) (x : Name) → AllByRecursion (λ (p : Placed). IsSome (object s p.name)) present
    → object s x ≡ None → is_among x (names_placed present) ≡ false
absent-unmade s [] x made none = refl
absent-unmade s (q ∷ present) x made none = or_from (same_name x q.name) (is_among x (names_placed present))
    (same_name-other x q.name (λ e. false≢true (sym (ap is_some (ap (object s) (sym e) ∙ none)) ∙ made.0)))
    (absent-unmade s present x made.1 none)

-- The graph.

-- what the graph has is present, and an object of the plain state
pub present-is : (s : State) (present : List Placed) (x : Name) (o : Object) → graph_of s present x ≡ Some o
    → (is_among x (names_placed present) ≡ true) × (object s x ≡ Some o)
present-is s present x o is = by (is_among x (names_placed present)) is
  where
    by : (b : Bool) → cond b (object s x) None ≡ Some o → (b ≡ true) × (object s x ≡ Some o)
    by true is = (refl, is)
    by false is = absurd (none-some o is)

-- what was not made isn't in the graph
pub graph-unmade : (s : State) (present : List Placed) (x : Name) → object s x ≡ None → graph_of s present x ≡ None
graph-unmade s present x none = by (is_among x (names_placed present))
  where
    by : (b : Bool) → cond b (object s x) None ≡ None
    by true = none
    by false = refl

-- where all objects stay, so does the graph
pub graph-kept : (s after : State) (present : List Placed) → ((x : Name) → object after x ≡ object s x) → graph_of after present ≡ graph_of s present
graph-kept s after present same = λ i x. cond (is_among x (names_placed present)) (same x i) None

-- one object changes
pub graph-changed : (s after : State) (present : List Placed) (x : Name) (o : Object) → is_among x (names_placed present) ≡ true
    → object after x ≡ Some o → ((y : Name) → (y ≡ x → ⊥) → object after y ≡ object s y)
    → Updated (graph_of s present) (graph_of after present) x (Some o)
graph-changed s after present x o among new old = record {
  here = cond-true (is_among x (names_placed present)) (object after x) None among ∙ new;
  elsewhere = λ y other. ap (λ o. cond (is_among y (names_placed present)) o None) (old y other);
}

-- one object more is present
pub graph-placed : (s after : State) (present : List Placed) (p : Placed) (o : Object)
    → object after p.name ≡ Some o → ((y : Name) → (y ≡ p.name → ⊥) → object after y ≡ object s y)
    → Updated (graph_of s present) (graph_of after (with_placed p present)) p.name (Some o)
graph-placed s after present p o new old = record { here = here; elsewhere = elsewhere }
  where
    among : is_among p.name (names_placed (with_placed p present)) ≡ true
    among = among-placed p present p.name ∙ ap (λ b. b || is_among p.name (names_placed present)) (same_name-refl p.name)

    here : graph_of after (with_placed p present) p.name ≡ Some o
    here = cond-true (is_among p.name (names_placed (with_placed p present))) (object after p.name) None among ∙ new

    elsewhere : (y : Name) → (y ≡ p.name → ⊥) → graph_of after (with_placed p present) y ≡ graph_of s present y
    elsewhere y other =
        let same : is_among y (names_placed (with_placed p present)) ≡ is_among y (names_placed present) =
        among-placed p present y ∙ ap (λ b. b || is_among y (names_placed present)) (same_name-other y p.name other) in
        ap (λ b. cond b (object after y) None) same ∙ ap (λ o. cond (is_among y (names_placed present)) o None) (old y other)
