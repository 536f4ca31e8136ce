-- Paths over words end where walks over names do.
use Rattle.std.proofs.Common.{◌≡◌, ℕ, zero, suc, ◌≤◌, ◌↔◌, inl, inr, ◌||◌, IsTrue, List, [], ◌∷◌, ◌++◌, length, map, Option, None, Some, refl, ap, sym, subst, ◌∙◌, arith, eq-eqb, eqb-true}
use Rattle.std.specs.List.{flat_map}
use Rattle.std.specs.Option.{option_map}
use Rattle.std.specs.Prelude.{◌==◌, All}
use Rattle.std.proofs.lemmas.Bool.{cases_lt, false≢true, or_cases, or_left, or_right}
use Rattle.std.proofs.lemmas.List.Elements.{All-head, All-tail}
use Rattle.std.proofs.lemmas.Option.{none-some, same_Some, slice_get_past}
use Rattle.bal_layout.specs.Graph.{Object}
use Rattle.bal_layout.specs.Names.{is_among, same_name}
use Rattle.bal_layout.specs.Regions.{is_in}
use Rattle.bal_layout.specs.declared.name.Name.{Name}
use Rattle.bal_meet.specs.Decode.{Decodes, roots_of}
use Rattle.bal_meet.proofs.Objects.{object-within}
use Rattle.bal_meet.proofs.Reading.{object-shown}
use Rattle.bal_model.specs.Entries.{Spot}
use Rattle.bal_model.specs.Plain.{Mutator, State, object_at, refs_of}
use Rattle.bal_model.specs.Walk.{EndsWalk, IsWalk, all_names, graph_ground, names_in, reachable, root_names, targets}
use Rattle.bal_model.proofs.Lemmas.{ends-are-walked, same_name-eq, same_name-refl}
use Rattle.bal_rules.specs.Board.{Placed}
use Rattle.bal_rules.proofs.Lemmas.{made-among}
use Rattle.bal_words.specs.Paths.{EndsPath, IsPath, words_in}
use Rattle.bal_words.specs.Shown.{Finds, name_behind, object_of}
use Rattle.bal_words.specs.Things.{Thing, Things}
use Rattle.bal_words.proofs.Lemmas.{there}

-- The names that roots hold.

names_in-append : (xs ys : List (Option Name)) → names_in (xs ++ ys) ≡ names_in xs ++ names_in ys
names_in-append [] ys = refl
names_in-append (None ∷ xs) ys = names_in-append xs ys
names_in-append (Some x ∷ xs) ys = ap (λ (l : List Name). x ∷ l) (names_in-append xs ys)

registers-names : (ms : List Mutator) → names_in (flat_map (λ (m : Mutator). m.registers) ms) ≡ flat_map (λ (m : Mutator). names_in m.registers) ms
registers-names [] = refl
registers-names (m ∷ ms) =
    names_in-append m.registers (flat_map (λ (n : Mutator). n.registers) ms) ∙ ap (λ (l : List Name). names_in m.registers ++ l) (registers-names ms)

pub roots-named : (s : State) → names_in (roots_of s) ≡ root_names s
roots-named s = names_in-append (flat_map (λ (m : Mutator). m.registers) s.mutators) s.globals
    ∙ ap (λ (l : List Name). l ++ names_in s.globals) (registers-names s.mutators)

-- Words and the names behind them.

-- a word among others leads to an object, whose name is among the names behind them
word-name : (things : Things) (words : List ℕ) (a : ℕ) → All (Finds things) words → IsTrue (is_in (suc a) words)
    → (x : Thing) × (things a ≡ Some x) × IsTrue (is_among x.name (names_in (map (name_behind things) words)))
word-name things [] a found h = absurd (false≢true h)
word-name things (w ∷ words) a found h = elim (or_cases (w == suc a) (is_in (suc a) words) h) [
  | inl here ↦
      let same : w ≡ suc a = eqb-true w (suc a) here in
      let at = there (things a) (subst (Finds things) same (All-head (Finds things) w words found)) in (
        at.0,
        at.1,
        subst (λ v. IsTrue (is_among at.0.name (names_in (name_behind things v ∷ map (name_behind things) words)))) (sym same)
            (first at.0 at.1),
      )
  | inr later ↦
      let rest = word-name things words a (All-tail (Finds things) w words found) later in
      (rest.0, rest.1, more (name_behind things w) rest.0.name rest.2)
]
  where
    first : (x : Thing) → things a ≡ Some x → IsTrue (is_among x.name (names_in (name_behind things (suc a) ∷ map (name_behind things) words)))
    first x is = subst (λ (o : Option Thing). IsTrue (is_among x.name (names_in (option_map (λ (y : Thing). y.name) o ∷ map (name_behind things) words)))) (sym is)
        (or_left (same_name x.name x.name) (is_among x.name (names_in (map (name_behind things) words))) (same_name-refl x.name))

    more : (o : Option Name) (n : Name) → IsTrue (is_among n (names_in (map (name_behind things) words))) → IsTrue (is_among n (names_in (o ∷ map (name_behind things) words)))
    more None n h = h
    more (Some y) n h = or_right (same_name n y) (is_among n (names_in (map (name_behind things) words))) h

-- a name among those behind words is of an object to which one of the words leads
name-word : (things : Things) (words : List ℕ) (n : Name) → All (Finds things) words → IsTrue (is_among n (names_in (map (name_behind things) words)))
    → (a : ℕ) × ((x : Thing) × (things a ≡ Some x) × (x.name ≡ n) × IsTrue (is_in (suc a) words))
name-word things [] n found h = absurd (false≢true h)
name-word things (zero ∷ words) n found h =
    let rest = name-word things words n (All-tail (Finds things) zero words found) h in
    (rest.0, (rest.1.0, rest.1.1, rest.1.2, or_right (zero == suc rest.0) (is_in (suc rest.0) words) rest.1.3))
name-word things (suc a ∷ words) n found h =
    let at = there (things a) (All-head (Finds things) (suc a) words found) in
    by at.0 at.1 (subst (λ (o : Option Thing). IsTrue (is_among n (names_in (option_map (λ (y : Thing). y.name) o ∷ map (name_behind things) words)))) at.1 h)
    (name-word things words n (All-tail (Finds things) (suc a) words found))
  where
    by : (x : Thing) → things a ≡ Some x → IsTrue (same_name n x.name || is_among n (names_in (map (name_behind things) words)))
        → (IsTrue (is_among n (names_in (map (name_behind things) words))) → (b : ℕ) × ((y : Thing) × (things b ≡ Some y) × (y.name ≡ n) × IsTrue (is_in (suc b) words)))
        → (b : ℕ) × ((y : Thing) × (things b ≡ Some y) × (y.name ≡ n) × IsTrue (is_in (suc b) (suc a ∷ words)))
    by x is h rest = elim (or_cases (same_name n x.name) (is_among n (names_in (map (name_behind things) words))) h) [
      | inl here ↦ (a, (x, is, sym (same_name-eq n x.name here), or_left (suc a == suc a) (is_in (suc a) words) (eq-eqb (suc a) (suc a) refl)))
      | inr later ↦
          let r = rest later in
          (r.0, (r.1.0, r.1.1, r.1.2, or_right (suc a == suc r.0) (is_in (suc r.0) words) r.1.3))
    ]

-- What starts in the heap is a name of the ground.

made-is : (made : List Object) (i : ℕ) (o : Object) → object_at made i ≡ Some o → (1 ≤ i) × (i ≤ length made)
made-is made zero o is = absurd (none-some o is)
made-is made (suc i) o is = elim (cases_lt i (length made)) [
  | inl within ↦ (omega arith, omega arith)
  | inr past ↦ absurd (none-some o (sym (slice_get_past made i past) ∙ is))
]

ground-has : {spot : ℕ → Spot} {things : Things} {roots : List ℕ} {s : State} {present : List Placed} {a : ℕ} {x : Thing}
    → Decodes spot things roots s present → things a ≡ Some x → IsTrue (is_among x.name (all_names s))
ground-has {things = things} {s = s} {x = x} d is =
    let at = (object-shown d is).1 in
    let range = made-is _ x.name.ordinal (object_of things x) at in
    let many : length s.mutators ≡ 32 = d.state.mutators in
    let within = object-within s x.name (object_of things x) at in
    made-among s x.name (record { thread = omega arith; first = range.0; last = range.1 })

-- the names to which an object refers are those behind its words
targets-are : {spot : ℕ → Spot} {things : Things} {roots : List ℕ} {s : State} {present : List Placed} {a : ℕ} {x : Thing}
    → Decodes spot things roots s present → things a ≡ Some x → targets s x.name ≡ names_in (map (name_behind things) x.refs)
targets-are {things = things} {s = s} {x = x} d is = ap (λ o. names_in (refs_of o)) (object-shown d is).1

-- From a path to a walk.

module _ (spot : ℕ → Spot) (things : Things) (roots : List ℕ) (s : State) (present : List Placed) (d : Decodes spot things roots s present) where
  roots-are : names_in (map (name_behind things) roots) ≡ root_names s
  roots-are = ap names_in d.held.each ∙ roots-named s

  pub path-walk : (before : List ℕ) (a : ℕ) → IsPath things roots (a ∷ before) → (x : Thing) × (things a ≡ Some x) × EndsWalk (graph_ground s) x.name
  path-walk [] a h =
      let at = word-name things roots a d.held.found h in
      (at.0, at.1, ([], (ground-has d at.1, subst (λ (ns : List Name). IsTrue (is_among at.0.name ns)) roots-are at.2)))
  path-walk (b ∷ before) a h =
      let from = path-walk before b h.1 in
      let led : IsTrue (is_in (suc a) from.0.refs) = subst (λ o. IsTrue (is_in (suc a) (words_in o))) from.1 h.0 in
      let at = word-name things from.0.refs a (d.objects.found b from.0 from.1) led in (
        at.0,
        at.1,
        (
          from.0.name ∷ from.2.0,
          (
            ground-has d at.1,
            subst (λ (ns : List Name). IsTrue (is_among at.0.name ns)) (sym (targets-are d from.1)) at.2,
            from.2.1,
          ),
        ),
      )

  -- From a walk to a path.

  pub walk-path : (before : List Name) (n : Name) → IsWalk (graph_ground s) (n ∷ before)
      → (a : ℕ) × ((x : Thing) × (things a ≡ Some x) × (x.name ≡ n) × EndsPath things roots a)
  walk-path [] n h =
      let at = name-word things roots n d.held.found (subst (λ (ns : List Name). IsTrue (is_among n ns)) (sym roots-are) h.1) in
      (at.0, (at.1.0, at.1.1, at.1.2, ([], at.1.3)))
  walk-path (m ∷ before) n h =
      let from = walk-path before m h.2 in
      let led = subst (λ (k : Name). IsTrue (is_among n (targets s k))) (sym from.1.2) h.1 in
      let at = name-word things from.1.0.refs n (d.objects.found from.0 from.1.0 from.1.1)
      (subst (λ (ns : List Name). IsTrue (is_among n ns)) (targets-are d from.1.1) led) in
      (at.0, (at.1.0, at.1.1, at.1.2, (from.0 ∷ from.1.3.0, (subst (λ o. IsTrue (is_in (suc at.0) (words_in o))) (sym from.1.1) at.1.3, from.1.3.1))))

pub path-ends : (spot : ℕ → Spot) (things : Things) (roots : List ℕ) (s : State) (present : List Placed) (a : ℕ) (x : Thing)
    → Decodes spot things roots s present → things a ≡ Some x → (EndsPath things roots a ↔ IsTrue (is_among x.name (reachable s)))
path-ends spot things roots s present a x d is = (to, from)
  where
    to : EndsPath things roots a → IsTrue (is_among x.name (reachable s))
    to path =
        let at = path-walk spot things roots s present d path.0 a path.1 in
        (ends-are-walked (graph_ground s) x.name).1 (subst (λ (y : Thing). EndsWalk (graph_ground s) y.name) (same_Some _ _ (sym at.1 ∙ is)) at.2)

    from : IsTrue (is_among x.name (reachable s)) → EndsPath things roots a
    from among =
        let walk = (ends-are-walked (graph_ground s) x.name).0 among in
        let at = walk-path spot things roots s present d walk.0 x.name walk.1 in
        subst (EndsPath things roots) (d.objects.once at.0 a at.1.0 x at.1.1 is at.1.2) at.1.3
