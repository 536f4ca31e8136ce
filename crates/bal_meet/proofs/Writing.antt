-- What is written to the words is written to the plain state.
use Rattle.std.proofs.Common.{◌≡◌, ◌<◌, inl, inr, ℕ, suc, List, [], length, set, None, Some, refl, ap, sym, subst, ◌∙◌, arith}
use Rattle.std.specs.Prelude.{IsSome, is_some}
use Rattle.std.specs.Option.{option_map}
use Rattle.std.specs.List.{AllByRecursion}
use Rattle.std.proofs.lemmas.Bool.{false≢true}
use Rattle.std.proofs.lemmas.List.{length-set}
use Rattle.std.proofs.lemmas.Option.{none-some, same_Some}
use Rattle.bal_layout.specs.declared.name.Name.{Name}
use Rattle.bal_layout.specs.declared.name.Kind.{Kind}
use Rattle.bal_layout.specs.Graph.{Object}
use Rattle.bal_meet.specs.Decode.{Decodes, IsState, graph_of, placed_at, roots_of}
use Rattle.bal_meet.proofs.Lists.{each-goes}
use Rattle.bal_meet.proofs.Objects.{object-changed, object-kept, object-made, object-others, object-unchanged, object-unmade, object-within}
use Rattle.bal_meet.proofs.Present.{absent-unmade, graph-changed, graph-kept, graph-placed, graph-unmade, place-here, place-other}
use Rattle.bal_meet.proofs.Reading.{object-shown}
use Rattle.bal_meet.proofs.Roots.{IsState-global, IsState-mutator, IsState-start, global-written, register-written, registers-many, roots-kept}
use Rattle.bal_model.specs.Entries.{Spot}
use Rattle.bal_rules.specs.Board.{Placed, names_placed, place_of, with_placed}
use Rattle.bal_rules.specs.Sound.{IsAscending}
use Rattle.bal_rules.proofs.Lemmas.{ascending-placed, each-placed}
use Rattle.bal_model.specs.Plain.{Mutator, State, adopting, altering, counting, holding, mutator, next_name, object, referring, start, with_global, with_mutator, with_object, with_reference, with_register, with_value}
use Rattle.bal_roots.specs.Roots.{global_place, null_roots, register_place, root_count}
use Rattle.bal_words.specs.Shown.{Finds, Shows, ShowsRoots, blank_object, name_behind, object_of}
use Rattle.bal_words.specs.Things.{Thing, Things, Updated, blank_thing, with_ref, with_value as with_number}
use Rattle.bal_words.proofs.Lemmas.{roots-null, roots-placed, roots-set, roots-written, same_name-or, shows-blank, shows-empty, shows-numbered, shows-referred, updated-cases}

-- A root is written.

-- what is present was made, as long as the plain state loses no object
made-still : (s after : State) (present : List Placed) → ((x : Name) → IsSome (object s x) → IsSome (object after x))
    → AllByRecursion (λ (p : Placed). IsSome (object s p.name)) present → AllByRecursion (λ (p : Placed). IsSome (object after p.name)) present
made-still s after present still =
    each-goes (λ (p : Placed). IsSome (object s p.name)) (λ (p : Placed). IsSome (object after p.name)) present (λ p. still p.name)

-- a root is written, and the plain state keeps its objects
root-written : (spot : ℕ → Spot) (things : Things) (roots : List ℕ) (s after : State) (present : List Placed) (i word : ℕ)
    → Decodes spot things roots s present → Finds things word → IsState after → ((x : Name) → object after x ≡ object s x)
    → set (roots_of s) i (name_behind things word) ≡ roots_of after
    → Decodes spot things (set roots i word) after present
root-written spot things roots s after present i word d finds form same new = record {
  state = form;
  made = made-still s after present (λ x h. ap is_some (same x) ∙ h) d.made;
  ascending = d.ascending;
  objects = subst (Shows things) (sym (graph-kept s after present same)) d.objects;
  held = subst (ShowsRoots things (set roots i word)) new (roots-set things roots (roots_of s) i word d.held finds);
  places = d.places;
}

-- a register takes a word
pub register-decodes : (spot : ℕ → Spot) (things : Things) (roots : List ℕ) (s : State) (present : List Placed) (t r word : ℕ)
    → Decodes spot things roots s present → t < 32 → r < 32 → Finds things word
    → Decodes spot things (set roots (register_place t r) word) (with_register s t r (name_behind things word)) present
register-decodes spot things roots s present t r word d thread number finds =
    let m : Mutator = holding r (name_behind things word) (mutator s t) in
    root-written spot things roots s (with_mutator s t m) present (register_place t r) word d finds
    (IsState-mutator s t m d.state (length-set (mutator s t).registers r (name_behind things word) ∙ registers-many s t d.state thread))
    (object-kept s t m refl) (register-written s t r (name_behind things word) m d.state thread number refl)

-- a global takes a word
pub global-decodes : (spot : ℕ → Spot) (things : Things) (roots : List ℕ) (s : State) (present : List Placed) (g word : ℕ)
    → Decodes spot things roots s present → g < 64 → Finds things word
    → Decodes spot things (set roots (global_place g) word) (with_global s g (name_behind things word)) present
global-decodes spot things roots s present g word d number finds =
    root-written spot things roots s (with_global s g (name_behind things word)) present (global_place g) word d finds
    (IsState-global s g (name_behind things word) d.state) (λ x. refl) (global-written s g (name_behind things word) d.state)

-- A slot is written.

-- a changed object is there still
changed-still : (s : State) (x : Name) (o : Object) (f : Object → Object) → object s x ≡ Some o
    → (y : Name) → IsSome (object s y) → IsSome (object (with_object s x f) y)
changed-still s x o f is y h = elim (same_name-or y x) [
  | inl same ↦ ap is_some (ap (object (with_object s x f)) same ∙ object-changed s x o f is)
  | inr other ↦ ap is_some (object-unchanged s x o f is y other) ∙ h
]

-- an object is written that keeps its name, as the plain state changes it
object-written : (spot : ℕ → Spot) (before after : Things) (roots : List ℕ) (s : State) (present : List Placed) (a : ℕ) (x y : Thing) (f : Object → Object)
    → Decodes spot before roots s present → before a ≡ Some x → y.name ≡ x.name → Updated before after a (Some y)
    → (Updated (graph_of s present) (graph_of (with_object s x.name f) present) x.name (Some (f (object_of before x)))
    → Shows after (graph_of (with_object s x.name f) present))
    → Decodes spot after roots (with_object s x.name f) present
object-written spot before after roots s present a x y f d is name u shown =
    let o : Object = object_of before x in
    let known = object-shown d is in
    let many : length s.mutators ≡ 32 = d.state.mutators in
    let within : x.name.thread < length s.mutators = object-within s x.name o known.1 in
    let new : Mutator = altering x.name.ordinal f (mutator s x.name.thread) in
    record {
      state = IsState-mutator s x.name.thread new d.state (registers-many s x.name.thread d.state (omega arith));
      made = made-still s (with_object s x.name f) present (changed-still s x.name o f known.1) d.made;
      ascending = d.ascending;
      objects = shown (graph-changed s (with_object s x.name f) present x.name (f o) known.0 (object-changed s x.name o f known.1)
          (object-unchanged s x.name o f known.1));
      held = subst (ShowsRoots after roots) (sym (roots-kept s x.name.thread new refl)) (roots-written before after roots (roots_of s) a x y d.held is name u);
      places = places;
    }
  where
    places : (b : ℕ) (z : Thing) → after b ≡ Some z → place_of present z.name ≡ Some (placed_at z.name (spot b))
    places b z at = elim (updated-cases u b) [
      | inl here ↦
          let same : z.name ≡ x.name = ap (λ (t : Thing). t.name) (same_Some _ _ (sym at ∙ here.1)) ∙ name in
          subst (λ (n : Name). place_of present n ≡ Some (placed_at n (spot b))) (sym same) (d.places b x (ap before here.0 ∙ is))
      | inr there ↦ d.places b z (sym there.1 ∙ at)
    ]

-- a reference is written
pub reference-decodes : (spot : ℕ → Spot) (before after : Things) (roots : List ℕ) (s : State) (present : List Placed) (a slot word : ℕ) (x : Thing)
    → Decodes spot before roots s present → before a ≡ Some x → Finds before word
    → Updated before after a (Some (with_ref slot word x))
    → Decodes spot after roots (with_reference s x.name slot (name_behind before word)) present
reference-decodes spot before after roots s present a slot word x d is finds u =
    object-written spot before after roots s present a x (with_ref slot word x) (referring slot (name_behind before word)) d is refl u
    (shows-referred before after (graph_of s present) (graph_of (with_reference s x.name slot (name_behind before word)) present) a slot word x
    (object_of before x) d.objects is (d.objects.each a x is) finds u)

-- a number is written
pub number-decodes : (spot : ℕ → Spot) (before after : Things) (roots : List ℕ) (s : State) (present : List Placed) (a slot number : ℕ) (x : Thing)
    → Decodes spot before roots s present → before a ≡ Some x
    → Updated before after a (Some (with_number slot number x))
    → Decodes spot after roots (with_value s x.name slot number) present
number-decodes spot before after roots s present a slot number x d is u =
    object-written spot before after roots s present a x (with_number slot number x) (counting slot number) d is refl u
    (shows-numbered before after (graph_of s present) (graph_of (with_value s x.name slot number) present) a slot number x
    (object_of before x) d.objects is (d.objects.each a x is) u)

-- An object is made.

-- what is there has another name than what is made next
unlike-next : (s : State) (t : ℕ) (x : Name) (o : Object) → object s x ≡ Some o → x ≡ next_name s t → ⊥
unlike-next s t x o is same = none-some o (sym (object-unmade s t) ∙ (ap (object s) (sym same) ∙ is))

-- an object that was made is there still
adopted-still : (s : State) (t r : ℕ) (o : Object) → t < length s.mutators
    → (y : Name) → IsSome (object s y) → IsSome (object (with_mutator s t (adopting t r o (mutator s t))) y)
adopted-still s t r o within y h = elim (same_name-or y (next_name s t)) [
  | inl same ↦ absurd (false≢true (ap is_some (sym (object-unmade s t) ∙ ap (object s) (sym same)) ∙ h))
  | inr other ↦ ap is_some (object-others s t r o within y other) ∙ h
]

-- a blank object is placed, and a register takes it
pub object-decodes : (old new : ℕ → Spot) (before after : Things) (roots : List ℕ) (s : State) (present : List Placed) (t r a refs values : ℕ) (kind : Kind)
    → ((b : ℕ) (x : Thing) → before b ≡ Some x → new b ≡ old b)
    → Decodes old before roots s present → t < 32 → r < 32 → before a ≡ None
    → Updated before after a (Some (blank_thing (next_name s t) kind refs values))
    → Decodes new after (set roots (register_place t r) (suc a))
    (with_mutator s t (adopting t r (blank_object kind refs values) (mutator s t)))
    (with_placed (placed_at (next_name s t) (new a)) present)
object-decodes old new before after roots s present t r a refs values kind lies d thread number free u =
    record { state = state; made = made; ascending = ascending; objects = objects; held = held; places = places }
  where
    o : Object
    o = blank_object kind refs values

    next : Name
    next = next_name s t

    p : Placed
    p = placed_at next (new a)

    m : Mutator
    m = adopting t r o (mutator s t)

    within : t < length s.mutators
    within = let many : length s.mutators ≡ 32 = d.state.mutators in omega arith

    state : IsState (with_mutator s t m)
    state = IsState-mutator s t m d.state (length-set (mutator s t).registers r (Some next) ∙ registers-many s t d.state thread)

    made : AllByRecursion (λ (q : Placed). IsSome (object (with_mutator s t m) q.name)) (with_placed p present)
    made = each-placed (λ (q : Placed). IsSome (object (with_mutator s t m) q.name)) p present (ap is_some (object-made s t r o within))
        (made-still s (with_mutator s t m) present (adopted-still s t r o within) d.made)

    objects : Shows after (graph_of (with_mutator s t m) (with_placed p present))
    objects = shows-blank before after (graph_of s present) (graph_of (with_mutator s t m) (with_placed p present)) a refs values next kind d.objects free
        (graph-unmade s present next (object-unmade s t)) u
        (graph-placed s (with_mutator s t m) present p o (object-made s t r o within) (object-others s t r o within))

    behind : name_behind after (suc a) ≡ Some next
    behind = ap (option_map (λ (z : Thing). z.name)) u.here

    roots_are : set (roots_of s) (register_place t r) (name_behind after (suc a)) ≡ roots_of (with_mutator s t m)
    roots_are = ap (set (roots_of s) (register_place t r)) behind ∙ register-written s t r (Some next) m d.state thread number refl

    held : ShowsRoots after (set roots (register_place t r) (suc a)) (roots_of (with_mutator s t m))
    held = subst (ShowsRoots after (set roots (register_place t r) (suc a))) roots_are
        (roots-set after roots (roots_of s) (register_place t r) (suc a)
        (roots-placed before after roots (roots_of s) a (blank_thing next kind refs values) d.held free u) (ap is_some u.here))

    ascending : IsAscending (names_placed (with_placed p present))
    ascending = ascending-placed p present d.ascending
        (λ among. false≢true (sym (absent-unmade s present next d.made (object-unmade s t)) ∙ among))

    places : (b : ℕ) (z : Thing) → after b ≡ Some z → place_of (with_placed p present) z.name ≡ Some (placed_at z.name (new b))
    places b z at = elim (updated-cases u b) [
      | inl here ↦
          let same : next ≡ z.name = ap (λ (t : Thing). t.name) (same_Some _ _ (sym here.1 ∙ at)) in
          let first = place-here p present (absent-unmade s present next d.made (object-unmade s t)) in
          subst (λ (n : Name). place_of (with_placed p present) n ≡ Some (placed_at n (new b))) same (first ∙ ap (λ q. Some (placed_at next (new q))) (sym here.0))
      | inr there ↦
          let was : before b ≡ Some z = sym there.1 ∙ at in
          place-other p present z.name (unlike-next s t z.name (object_of before z) (object-shown d was).1)
          ∙ (d.places b z was ∙ ap (λ q. Some (placed_at z.name q)) (sym (lies b z was)))
    ]

-- A heap without objects.

-- the roots are null, and nothing is present
pub empty-decodes : (spot : ℕ → Spot) (things : Things) → ((a : ℕ) → things a ≡ None) → Decodes spot things null_roots start []
empty-decodes spot things none = record {
  state = IsState-start;
  made = tt;
  ascending = tt;
  objects = shows-empty things (graph_of start []) none (λ n. refl);
  held = roots-null things root_count;
  places = λ a x is. absurd (none-some x (sym (none a) ∙ is));
}
