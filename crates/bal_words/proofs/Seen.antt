-- What a heap shows once one of its objects is written or made.
use Rattle.std.proofs.Common.{◌≡◌, length, ℕ, zero, suc, ◌+◌, ◌⊎◌, inl, inr, List, Option, Some, None, get_or, set, replicate, refl, ap, sym, subst, ◌∙◌, add-one}
use Rattle.std.specs.Prelude.{All, is_some, slice_get}
use Rattle.std.specs.Option.{option_map}
use Rattle.std.proofs.lemmas.Bool.{false≢true}
use Rattle.std.proofs.lemmas.List.{length-map, map-set}
use Rattle.std.proofs.lemmas.List.Elements.{All-set, All-replicate}
use Rattle.std.proofs.lemmas.Option.{same_Some, none-some, slice_get-map}
use Rattle.bal_layout.specs.declared.name.Name.{Name}
use Rattle.bal_layout.specs.declared.name.Kind.{Kind}
use Rattle.bal_layout.specs.Graph.{Graph, Object}
use Rattle.bal_words.specs.Shown.{Finds, Shows, ShowsRoots, blank_object, kind_seen, name_behind, object_of, with_number, with_reference}
use Rattle.bal_words.specs.Things.{Thing, Things, Updated, blank_thing, with_ref, with_value}
use Rattle.bal_words.proofs.Facts.{all-get, map-agree, map-replicated, same-or, same_name-or, there}

-- what an object is, by its parts
abbrev pub object_with : Kind → List ℕ → List (Option Name) → Object
object_with kind values refs = record { kind = kind_seen kind; refs = refs; values = values }

-- an object is seen as another where the names behind its references agree
pub object-agrees : (one two : Things) (x : Thing) → All (λ word. name_behind one word ≡ name_behind two word) x.refs → object_of one x ≡ object_of two x
object-agrees one two x h = ap (object_with x.kind x.values) (map-agree (name_behind one) (name_behind two) x.refs h)

-- what stands at a place that is changed, or at another
pub updated-cases : {A : Type 0} {before after : ℕ → Option A} {a : ℕ} {o : Option A} → Updated before after a o
    → (b : ℕ) → ((b ≡ a) × (after b ≡ o)) ⊎ ((b ≡ a → ⊥) × (after b ≡ before b))
updated-cases {A} {before} {after} {a} {o} u b = elim (same-or b a) [
  | inl same ↦ inl (same, ap after same ∙ u.here)
  | inr other ↦ inr (other, u.elsewhere b other)
]

-- a word that found its object finds it still
pub finds-after : (before after : Things) (a : ℕ) (y : Thing) → Updated before after a (Some y) → (word : ℕ) → Finds before word → Finds after word
finds-after before after a y u zero h = tt
finds-after before after a y u (suc b) h = elim (updated-cases u b) [
  | inl here ↦ ap is_some here.1
  | inr there ↦ ap is_some there.1 ∙ h
]

-- the name behind a word stays where the changed object keeps its name
pub behind-written : (before after : Things) (a : ℕ) (x y : Thing) → before a ≡ Some x → y.name ≡ x.name → Updated before after a (Some y)
    → (word : ℕ) → name_behind after word ≡ name_behind before word
behind-written before after a x y is name u zero = refl
behind-written before after a x y is name u (suc b) = elim (updated-cases u b) [
  | inl here ↦ ap (option_map (λ (z : Thing). z.name)) here.1 ∙ (ap (λ (n : Name). Some n) name ∙ sym (ap (option_map (λ (z : Thing). z.name)) (ap before here.0 ∙ is)))
  | inr there ↦ ap (option_map (λ (z : Thing). z.name)) there.1
]

-- the name behind a word that found its object stays where none started at the place
pub behind-placed : (before after : Things) (a : ℕ) (y : Thing) → before a ≡ None → Updated before after a (Some y)
    → (word : ℕ) → Finds before word → name_behind after word ≡ name_behind before word
behind-placed before after a y free u zero h = refl
behind-placed before after a y free u (suc b) h = elim (updated-cases u b) [
  | inl here ↦ absurd (false≢true (sym (ap is_some (ap before here.0 ∙ free)) ∙ h))
  | inr there ↦ ap (option_map (λ (z : Thing). z.name)) there.1
]

-- one object is written or made, and whatever else starts has another name
pub shows-updated : (before after : Things) (g h : Graph) (a : ℕ) (y : Thing) → Shows before g
    → ((word : ℕ) → Finds before word → name_behind after word ≡ name_behind before word)
    → Updated before after a (Some y) → All (Finds before) y.refs → Updated g h y.name (Some (object_of before y))
    → ((b : ℕ) (z : Thing) → (b ≡ a → ⊥) → before b ≡ Some z → z.name ≡ y.name → ⊥)
    → ((z : Thing) → before a ≡ Some z → z.name ≡ y.name)
    → Shows after h
shows-updated before after g h a y s names u refs v apart home = record { each = each; every = every; once = once; found = found }
  where
    seen : (z : Thing) → All (Finds before) z.refs → object_of after z ≡ object_of before z
    seen z all = object-agrees after before z (λ k d lt. names (get_or z.refs k d) (all k d lt))

    each : (b : ℕ) (z : Thing) → after b ≡ Some z → h z.name ≡ Some (object_of after z)
    each b z is = elim (updated-cases u b) [
      | inl here ↦
          let same : y ≡ z = same_Some _ _ (sym here.1 ∙ is) in
          subst (λ (w : Thing). h w.name ≡ Some (object_of after w)) same (v.here ∙ ap (λ (o : Object). Some o) (sym (seen y refs)))
      | inr there ↦
          let old : before b ≡ Some z = sym there.1 ∙ is in
          v.elsewhere z.name (apart b z there.0 old) ∙ (s.each b z old ∙ ap (λ (o : Object). Some o) (sym (seen z (s.found b z old))))
    ]

    every : (n : Name) (o : Object) → h n ≡ Some o → (b : ℕ) × ((z : Thing) × (after b ≡ Some z) × (z.name ≡ n))
    every n o is = elim (same_name-or n y.name) [
      | inl same ↦ (a, (y, u.here, sym same))
      | inr other ↦
          let old = s.every n o (sym (v.elsewhere n other) ∙ is) in
          (old.0, (old.1.0, u.elsewhere old.0 (λ e. other (sym old.1.2 ∙ home old.1.0 (ap before (sym e) ∙ old.1.1))) ∙ old.1.1, old.1.2))
    ]

    once : (b c : ℕ) (z w : Thing) → after b ≡ Some z → after c ≡ Some w → z.name ≡ w.name → b ≡ c
    once b c z w one two name = elim (updated-cases u b) [
      | inl here ↦ elim (updated-cases u c) [
        | inl also ↦ here.0 ∙ sym also.0
        | inr there ↦
            let first : y ≡ z = same_Some _ _ (sym here.1 ∙ one) in
            absurd (apart c w there.0 (sym there.1 ∙ two) (sym name ∙ ap (λ (t : Thing). t.name) (sym first)))
      ]
      | inr there ↦ elim (updated-cases u c) [
        | inl here ↦
            let second : y ≡ w = same_Some _ _ (sym here.1 ∙ two) in
            absurd (apart b z there.0 (sym there.1 ∙ one) (name ∙ ap (λ (t : Thing). t.name) (sym second)))
        | inr also ↦ s.once b c z w (sym there.1 ∙ one) (sym also.1 ∙ two) name
      ]
    ]

    found : (b : ℕ) (z : Thing) → after b ≡ Some z → All (Finds after) z.refs
    found b z is = elim (updated-cases u b) [
      | inl here ↦
          let same : y ≡ z = same_Some _ _ (sym here.1 ∙ is) in
          subst (λ (w : Thing). All (Finds after) w.refs) same (λ k d lt. finds-after before after a y u (get_or y.refs k d) (refs k d lt))
      | inr there ↦
          let old = s.found b z (sym there.1 ∙ is) in
          λ k d lt. finds-after before after a y u (get_or z.refs k d) (old k d lt)
    ]

-- One object is written.

pub shows-written : (before after : Things) (g h : Graph) (a : ℕ) (x y : Thing)
    → Shows before g → before a ≡ Some x → y.name ≡ x.name → All (Finds before) y.refs
    → Updated before after a (Some y) → Updated g h x.name (Some (object_of before y)) → Shows after h
shows-written before after g h a x y s is name refs u v =
    shows-updated before after g h a y s (λ word _. behind-written before after a x y is name u word) u refs
    (subst (λ (n : Name). Updated g h n (Some (object_of before y))) (sym name) v)
    (λ b z other old same. other (s.once b a z x old is (same ∙ name)))
    (λ z old. ap (λ (t : Thing). t.name) (same_Some _ _ (sym old ∙ is)) ∙ sym name)

-- an object of the graph is the one that is seen
pub seen-is : (things : Things) (g : Graph) (a : ℕ) (x : Thing) (o : Object) → Shows things g → things a ≡ Some x → g x.name ≡ Some o → object_of things x ≡ o
seen-is things g a x o s is known = same_Some _ _ (sym (s.each a x is) ∙ known)

pub shows-referred : (before after : Things) (g h : Graph) (a slot word : ℕ) (x : Thing) (o : Object)
    → Shows before g → before a ≡ Some x → g x.name ≡ Some o → Finds before word
    → Updated before after a (Some (with_ref slot word x))
    → Updated g h x.name (Some (with_reference slot (name_behind before word) o)) → Shows after h
shows-referred before after g h a slot word x o s is known finds u v =
    let n : Option Name = name_behind before word in
    let same : with_reference slot n o ≡ object_of before (with_ref slot word x) =
    ap (with_reference slot n) (sym (seen-is before g a x o s is known)) ∙ ap (object_with x.kind x.values) (sym (map-set (name_behind before) x.refs slot word)) in
    shows-written before after g h a x (with_ref slot word x) s is refl (All-set (Finds before) x.refs slot word finds (s.found a x is)) u
    (subst (λ (p : Object). Updated g h x.name (Some p)) same v)

pub shows-numbered : (before after : Things) (g h : Graph) (a slot number : ℕ) (x : Thing) (o : Object)
    → Shows before g → before a ≡ Some x → g x.name ≡ Some o
    → Updated before after a (Some (with_value slot number x))
    → Updated g h x.name (Some (with_number slot number o)) → Shows after h
shows-numbered before after g h a slot number x o s is known u v =
    let same : with_number slot number o ≡ object_of before (with_value slot number x) =
    ap (with_number slot number) (sym (seen-is before g a x o s is known)) in
    shows-written before after g h a x (with_value slot number x) s is refl (s.found a x is) u
    (subst (λ (p : Object). Updated g h x.name (Some p)) same v)

-- what roots hold stays where the names behind their words stay
pub roots-updated : (before after : Things) (words : List ℕ) (names : List (Option Name)) (a : ℕ) (y : Thing) → ShowsRoots before words names
    → ((word : ℕ) → Finds before word → name_behind after word ≡ name_behind before word)
    → Updated before after a (Some y) → ShowsRoots after words names
roots-updated before after words names a y r same u = record {
  each = map-agree (name_behind after) (name_behind before) words (λ k d lt. same (get_or words k d) (r.found k d lt)) ∙ r.each;
  found = λ k d lt. finds-after before after a y u (get_or words k d) (r.found k d lt);
}

pub roots-written : (before after : Things) (words : List ℕ) (names : List (Option Name)) (a : ℕ) (x y : Thing)
    → ShowsRoots before words names → before a ≡ Some x → y.name ≡ x.name → Updated before after a (Some y) → ShowsRoots after words names
roots-written before after words names a x y r is name u =
    roots-updated before after words names a y r (λ word _. behind-written before after a x y is name u word) u

-- One object is made.

pub shows-placed : (before after : Things) (g h : Graph) (a : ℕ) (y : Thing)
    → Shows before g → before a ≡ None → g y.name ≡ None → All (Finds before) y.refs
    → Updated before after a (Some y) → Updated g h y.name (Some (object_of before y)) → Shows after h
shows-placed before after g h a y s free new refs u v =
    shows-updated before after g h a y s (behind-placed before after a y free u) u refs v
    (λ b z other old same. none-some _ (sym new ∙ (ap g (sym same) ∙ s.each b z old)))
    (λ z old. absurd (none-some z (sym free ∙ old)))

pub shows-blank : (before after : Things) (g h : Graph) (a refs values : ℕ) (name : Name) (kind : Kind)
    → Shows before g → before a ≡ None → g name ≡ None
    → Updated before after a (Some (blank_thing name kind refs values))
    → Updated g h name (Some (blank_object kind refs values)) → Shows after h
shows-blank before after g h a refs values name kind s free new u v =
    let same : blank_object kind refs values ≡ object_of before (blank_thing name kind refs values) =
    ap (object_with kind (replicate values 0)) (sym (map-replicated (name_behind before) refs 0)) in
    shows-placed before after g h a (blank_thing name kind refs values) s free new (All-replicate (Finds before) refs 0 tt) u
    (subst (λ (p : Object). Updated g h name (Some p)) same v)

pub roots-placed : (before after : Things) (words : List ℕ) (names : List (Option Name)) (a : ℕ) (y : Thing)
    → ShowsRoots before words names → before a ≡ None → Updated before after a (Some y) → ShowsRoots after words names
roots-placed before after words names a y r free u =
    roots-updated before after words names a y r (behind-placed before after a y free u) u

-- Roots are written.

pub roots-set : (things : Things) (words : List ℕ) (names : List (Option Name)) (i word : ℕ) → ShowsRoots things words names → Finds things word
    → ShowsRoots things (set words i word) (set names i (name_behind things word))
roots-set things words names i word r finds = record {
  each = map-set (name_behind things) words i word ∙ ap (λ ns. set ns i (name_behind things word)) r.each;
  found = All-set (Finds things) words i word finds r.found;
}

pub roots-null : (things : Things) (n : ℕ) → ShowsRoots things (replicate n 0) (replicate n None)
roots-null things n = record {
  each = map-replicated (name_behind things) n 0;
  found = All-replicate (Finds things) n 0 tt;
}

pub shows-empty : (things : Things) (g : Graph) → ((a : ℕ) → things a ≡ None) → ((n : Name) → g n ≡ None) → Shows things g
shows-empty things g free new = record {
  each = λ a x is. absurd (none-some x (sym (free a) ∙ is));
  every = λ n o is. absurd (none-some o (sym (new n) ∙ is));
  once = λ a b x y is _ _. absurd (none-some x (sym (free a) ∙ is));
  found = λ a x is. absurd (none-some x (sym (free a) ∙ is));
}

-- Words are followed.

pub shown-agree : (things : Things) (g h : Graph) → Shows things g → Shows things h → (n : Name) → g n ≡ h n
shown-agree things g h s t n = by (g n) (h n) refl refl
  where
    through : (p q : Graph) → Shows things p → Shows things q → (o : Object) → p n ≡ Some o → p n ≡ q n
    through p q sp sq o is =
        let at = sp.every n o is in
        subst (λ (m : Name). p m ≡ q m) at.1.2 (sp.each at.0 at.1.0 at.1.1 ∙ sym (sq.each at.0 at.1.0 at.1.1))

    by : (o p : Option Object) → g n ≡ o → h n ≡ p → g n ≡ h n
    by (Some o) p is also = through g h s t o is
    by None (Some p) is also = sym (through h g t s p also)
    by None None is also = is ∙ sym also

pub followed : (things : Things) (g : Graph) (word a : ℕ) → Shows things g → Finds things word → word ≡ a + 1
    → (x : Thing) × (things a ≡ Some x) × (name_behind things word ≡ Some x.name) × (g x.name ≡ Some (object_of things x))
followed things g word a s finds e =
    let same : word ≡ suc a = e ∙ add-one a in
    let at = there (things a) (subst (Finds things) same finds) in
    let behind : name_behind things (suc a) ≡ Some at.0.name = ap (option_map (λ (z : Thing). z.name)) at.1 in
    (at.0, at.1, subst (λ w. name_behind things w ≡ Some at.0.name) (sym same) behind, s.each a at.0 at.1)

pub words-agree : (things : Things) (g : Graph) (one two : ℕ) → Shows things g → Finds things one → Finds things two
    → name_behind things one ≡ name_behind things two → one ≡ two
words-agree things g zero zero s _ _ same = refl
words-agree things g zero (suc b) s _ finds same =
    let at = there (things b) finds in
    absurd (none-some at.0.name (same ∙ ap (option_map (λ (z : Thing). z.name)) at.1))
words-agree things g (suc a) zero s finds _ same =
    let at = there (things a) finds in
    absurd (none-some at.0.name (sym same ∙ ap (option_map (λ (z : Thing). z.name)) at.1))
words-agree things g (suc a) (suc b) s first second same =
    let at = there (things a) first in
    let to = there (things b) second in
    let name : at.0.name ≡ to.0.name = same_Some _ _ (sym (ap (option_map (λ (z : Thing). z.name)) at.1) ∙ (same ∙ ap (option_map (λ (z : Thing). z.name)) to.1)) in
    ap suc (s.once a b at.0 to.0 at.1 to.1 name)

pub reference-finds : (things : Things) (g : Graph) (a slot word : ℕ) (x : Thing) → Shows things g → things a ≡ Some x
    → slice_get x.refs slot ≡ Some word → Finds things word
reference-finds things g a slot word x s is at = all-get (Finds things) x.refs slot word (s.found a x is) at

pub root-finds : (things : Things) (words : List ℕ) (names : List (Option Name)) (i word : ℕ) → ShowsRoots things words names
    → slice_get words i ≡ Some word → Finds things word × (slice_get names i ≡ Some (name_behind things word))
root-finds things words names i word r at = (
  all-get (Finds things) words i word r.found at,
  ap (λ ns. slice_get ns i) (sym r.each) ∙ (slice_get-map (name_behind things) words i ∙ ap (option_map (name_behind things)) at),
)

-- An object is read.

pub kind-read : (things : Things) (g : Graph) (a : ℕ) (x : Thing) (o : Object) → Shows things g → things a ≡ Some x → g x.name ≡ Some o → o.kind ≡ kind_seen x.kind
kind-read things g a x o s is known = ap (λ (p : Object). p.kind) (sym (seen-is things g a x o s is known))

pub slots-read : (things : Things) (g : Graph) (a : ℕ) (x : Thing) (o : Object) → Shows things g → things a ≡ Some x → g x.name ≡ Some o → length o.refs ≡ length x.refs
slots-read things g a x o s is known =
    ap (λ (p : Object). length p.refs) (sym (seen-is things g a x o s is known)) ∙ length-map x.refs (name_behind things)

pub reference-read : (things : Things) (g : Graph) (a slot : ℕ) (x : Thing) (o : Object) → Shows things g → things a ≡ Some x → g x.name ≡ Some o
    → slice_get o.refs slot ≡ option_map (name_behind things) (slice_get x.refs slot)
reference-read things g a slot x o s is known =
    ap (λ (p : Object). slice_get p.refs slot) (sym (seen-is things g a x o s is known)) ∙ slice_get-map (name_behind things) x.refs slot

pub numbers-read : (things : Things) (g : Graph) (a : ℕ) (x : Thing) (o : Object) → Shows things g → things a ≡ Some x → g x.name ≡ Some o → o.values ≡ x.values
numbers-read things g a x o s is known = ap (λ (p : Object). p.values) (sym (seen-is things g a x o s is known))
