-- Walks, and the list of their ends: it has exactly the names that walks end at.
use Rattle.std.proofs.Common.{◌≡◌, ◌≤◌, ◌<◌, ◌+◌, ◌⊎◌, ◌↔◌, inl, inr, ℕ, zero, suc, Bool, true, false, not, cond, ◌&&◌, ◌||◌, IsTrue, List, [], ◌∷◌, length, filter, refl, ap, ap₂, sym, ◌∙◌, arith, eq-eqb, eqb-true}
use Rattle.std.specs.List.{list_any}
use Rattle.std.specs.Prelude.{◌==◌}
use Rattle.std.proofs.lemmas.Bool.{and_parts, and_from, or_cases, or_left, or_right, cases_lt, false≢true}
use Rattle.std.proofs.lemmas.List.Filters.{length-filter_both}
use Rattle.std.proofs.lemmas.Map.Views.{any-filter_same}
use Rattle.bal_layout.specs.declared.name.Name.{Name}
use Rattle.bal_layout.specs.Names.{same_name, is_among}
use Rattle.bal_model.specs.Walk.{Ground, IsWalk, EndsWalk, next_level, levels, ends_of_walks}

-- Names in lists.

pub same_name-eq : (a b : Name) → IsTrue (same_name a b) → a ≡ b
same_name-eq a b h =
    let parts = and_parts (a.thread == b.thread) (a.ordinal == b.ordinal) h in
    ap₂ (λ (t o : ℕ). record { thread = t; ordinal = o }) (eqb-true a.thread b.thread parts.0) (eqb-true a.ordinal b.ordinal parts.1)

pub same_name-refl : (a : Name) → IsTrue (same_name a a)
same_name-refl a = and_from (a.thread == a.thread) (a.ordinal == a.ordinal) (eq-eqb a.thread a.thread refl) (eq-eqb a.ordinal a.ordinal refl)

pub is_among-head : (x : Name) (xs : List Name) → IsTrue (is_among x (x ∷ xs))
is_among-head x xs = or_left (same_name x x) (is_among x xs) (same_name-refl x)

pub is_among-tail : (x y : Name) (xs : List Name) → IsTrue (is_among x xs) → IsTrue (is_among x (y ∷ xs))
is_among-tail x y xs h = or_right (same_name x y) (is_among x xs) h

-- a filter has the names of the list that pass
is_among-filter : (p : Name → Bool) (xs : List Name) (x : Name) → is_among x (filter p xs) ≡ (p x && is_among x xs)
is_among-filter p xs x = any-filter_same (same_name x) p (p x) (λ y e. ap p (sym (same_name-eq x y e))) xs

pub in-filter : (p : Name → Bool) (xs : List Name) (x : Name) → IsTrue (p x) → IsTrue (is_among x xs) → IsTrue (is_among x (filter p xs))
in-filter p xs x passes h = is_among-filter p xs x ∙ and_from (p x) (is_among x xs) passes h

pub from-filter : (p : Name → Bool) (xs : List Name) (x : Name) → IsTrue (is_among x (filter p xs)) → IsTrue (p x) × IsTrue (is_among x xs)
from-filter p xs x h = and_parts (p x) (is_among x xs) (sym (is_among-filter p xs x) ∙ h)

-- a test passes some name of a list
pub some-passes : (p : Name → Bool) (xs : List Name) → IsTrue (list_any p xs) → (x : Name) × IsTrue (is_among x xs) × IsTrue (p x)
some-passes p [] h = absurd (false≢true h)
some-passes p (x ∷ xs) h = elim (or_cases (p x) (list_any p xs) h) [
  | inl here ↦ (x, is_among-head x xs, here)
  | inr there ↦ (let found = some-passes p xs there in (found.0, is_among-tail found.0 x xs found.1, found.2))
]

pub passes-some : (p : Name → Bool) (xs : List Name) (x : Name) → IsTrue (is_among x xs) → IsTrue (p x) → IsTrue (list_any p xs)
passes-some p [] x h passes = absurd (false≢true h)
passes-some p (y ∷ xs) x h passes = elim (or_cases (same_name x y) (is_among x xs) h) [
  | inl here ↦ or_left (p y) (list_any p xs) (ap p (sym (same_name-eq x y here)) ∙ passes)
  | inr there ↦ or_right (p y) (list_any p xs) (passes-some p xs x there passes)
]

-- Filters by two tests, the second of which passes what the first does.

module _ (p q : Name → Bool) (more : (x : Name) → IsTrue (p x) → IsTrue (q x)) where
  length-filter_weaker : (xs : List Name) → length (filter p xs) ≤ length (filter q xs)
  length-filter_weaker [] = omega arith
  length-filter_weaker (x ∷ xs) = by (p x) (q x) (more x) (length-filter_weaker xs)
    where
      by : (a b : Bool) → (IsTrue a → IsTrue b) → length (filter p xs) ≤ length (filter q xs)
          → length (cond a (x ∷ filter p xs) (filter p xs)) ≤ length (cond b (x ∷ filter q xs) (filter q xs))
      by true true m h = omega arith
      by true false m h = absurd (false≢true (m refl))
      by false true m h = omega arith
      by false false m h = h

  -- and more, where it passes one that the first does not
  pub length-filter_less : (xs : List Name) (x : Name) → IsTrue (is_among x xs) → p x ≡ false → IsTrue (q x) → length (filter p xs) < length (filter q xs)
  length-filter_less [] x h fails passes = absurd (false≢true h)
  length-filter_less (y ∷ xs) x h fails passes = elim (or_cases (same_name x y) (is_among x xs) h) [
    | inl here ↦ (let e = same_name-eq x y here in first (p y) (q y) (ap p (sym e) ∙ fails) (ap q (sym e) ∙ passes) (length-filter_weaker xs))
    | inr there ↦ later (p y) (q y) (more y) (length-filter_less xs x there fails passes)
  ]
    where
      first : (a b : Bool) → a ≡ false → IsTrue b → length (filter p xs) ≤ length (filter q xs)
          → length (cond a (y ∷ filter p xs) (filter p xs)) < length (cond b (y ∷ filter q xs) (filter q xs))
      first true b e f h = absurd (false≢true (sym e))
      first false true e f h = omega arith
      first false false e f h = absurd (false≢true f)

      later : (a b : Bool) → (IsTrue a → IsTrue b) → length (filter p xs) < length (filter q xs)
          → length (cond a (y ∷ filter p xs) (filter p xs)) < length (cond b (y ∷ filter q xs) (filter q xs))
      later true true m h = omega arith
      later true false m h = absurd (false≢true (m refl))
      later false true m h = omega arith
      later false false m h = h

  -- where the second keeps no more, they keep the same
  filter_same : (xs : List Name) → length (filter q xs) ≤ length (filter p xs) → filter q xs ≡ filter p xs
  filter_same [] h = refl
  filter_same (x ∷ xs) h = by (p x) (q x) (more x) (filter_same xs) (length-filter_weaker xs) h
    where
      by : (a b : Bool) → (IsTrue a → IsTrue b) → (length (filter q xs) ≤ length (filter p xs) → filter q xs ≡ filter p xs) → length (filter p xs) ≤ length (filter q xs)
          → length (cond b (x ∷ filter q xs) (filter q xs)) ≤ length (cond a (x ∷ filter p xs) (filter p xs))
          → cond b (x ∷ filter q xs) (filter q xs) ≡ cond a (x ∷ filter p xs) (filter p xs)
      by true true m rest le h = ap (λ (ys : List Name). x ∷ ys) (rest (omega arith))
      by true false m rest le h = absurd (false≢true (m refl))
      by false true m rest le h = absurd (omega arith)
      by false false m rest le h = rest h

-- tests that agree on the names of a list keep the same
pub filter_agree_within : (p q : Name → Bool) (xs : List Name) → ((x : Name) → IsTrue (is_among x xs) → p x ≡ q x) → filter p xs ≡ filter q xs
filter_agree_within p q [] h = refl
filter_agree_within p q (x ∷ xs) h =
    ap₂ (λ (b : Bool) (ys : List Name). cond b (x ∷ ys) ys) (h x (is_among-head x xs)) (filter_agree_within p q xs (λ y i. h y (is_among-tail y x xs i)))

-- What goes along walks.

-- what holds at the beginnings of walks, and goes along references inside, holds at each end
pub along-walk : (g : Ground) (P : Name → Type 0)
    → ((x : Name) → IsTrue (is_among x g.inside) → IsTrue (g.begins x) → P x)
    → ((x y : Name) → P x → IsTrue (is_among y g.inside) → IsTrue (is_among y (g.refs x)) → P y)
    → (x : Name) (before : List Name) → IsWalk g (x ∷ before) → P x
along-walk g P begins goes x [] walk = begins x walk.0 walk.1
along-walk g P begins goes y (x ∷ before) walk = goes x y (along-walk g P begins goes x before walk.2) walk.0 walk.1

pub at-ends : (g : Ground) (P : Name → Type 0)
    → ((x : Name) → IsTrue (is_among x g.inside) → IsTrue (g.begins x) → P x)
    → ((x y : Name) → P x → IsTrue (is_among y g.inside) → IsTrue (is_among y (g.refs x)) → P y)
    → (x : Name) → EndsWalk g x → P x
at-ends g P begins goes x walk = along-walk g P begins goes x walk.0 walk.1

-- walks that begin, and that go on
pub walk-begins : (g : Ground) (x : Name) → IsTrue (is_among x g.inside) → IsTrue (g.begins x) → EndsWalk g x
walk-begins g x inside begins = ([], (inside, begins))

pub walk-goes : (g : Ground) (x y : Name) → EndsWalk g x → IsTrue (is_among y g.inside) → IsTrue (is_among y (g.refs x)) → EndsWalk g y
walk-goes g x y walk inside refers = (x ∷ walk.0, (inside, refers, walk.1))

-- The levels.

-- the list has names of the ground alone, in its order
abbrev IsPart : Ground → List Name → Type 0
IsPart g reached = reached ≡ filter (λ x. is_among x reached) g.inside

-- the test of a level
abbrev is_next : Ground → List Name → Name → Bool
is_next g reached y = is_among y reached || list_any (λ x. is_among y (g.refs x)) reached

IsPart-filter : (g : Ground) (p : Name → Bool) → IsPart g (filter p g.inside)
IsPart-filter g p = filter_agree_within p (λ x. is_among x (filter p g.inside)) g.inside
    (λ x h. by (p x) (is_among x g.inside) h ∙ sym (is_among-filter p g.inside x))
  where
    by : (a b : Bool) → IsTrue b → a ≡ (a && b)
    by true b h = sym h
    by false b h = refl

IsPart-levels : (n : ℕ) (g : Ground) (reached : List Name) → IsPart g reached → IsPart g (levels n g reached)
IsPart-levels zero g reached part = part
IsPart-levels (suc n) g reached part = IsPart-levels n g (next_level g reached) (IsPart-filter g (is_next g reached))

IsPart-ends : (g : Ground) → IsPart g (ends_of_walks g)
IsPart-ends g = IsPart-levels (length g.inside) g (filter g.begins g.inside) (IsPart-filter g g.begins)

in-part : (g : Ground) (reached : List Name) (x : Name) → IsPart g reached → IsTrue (is_among x reached) → IsTrue (is_among x g.inside)
in-part g reached x part h = (from-filter (λ y. is_among y reached) g.inside x (sym (ap (is_among x) part) ∙ h)).1

-- what was reached stays reached
level-keeps : (g : Ground) (reached : List Name) (x : Name) → IsPart g reached → IsTrue (is_among x reached) → IsTrue (is_among x (next_level g reached))
level-keeps g reached x part h =
    in-filter (is_next g reached) g.inside x (or_left (is_among x reached) (list_any (λ y. is_among x (g.refs y)) reached) h) (in-part g reached x part h)

levels-keep : (n : ℕ) (g : Ground) (reached : List Name) (x : Name) → IsPart g reached → IsTrue (is_among x reached) → IsTrue (is_among x (levels n g reached))
levels-keep zero g reached x part h = h
levels-keep (suc n) g reached x part h = levels-keep n g (next_level g reached) x (IsPart-filter g (is_next g reached)) (level-keeps g reached x part h)

-- a level with no more names than the one before is the same
level-same : (g : Ground) (reached : List Name) → IsPart g reached → length (next_level g reached) ≤ length reached → next_level g reached ≡ reached
level-same g reached part h =
    let same = filter_same (λ x. is_among x reached) (is_next g reached) (λ x h. or_left (is_among x reached) (list_any (λ y. is_among x (g.refs y)) reached) h) g.inside in
    same (omega (arith, ap length part)) ∙ sym part

levels-same : (n : ℕ) (g : Ground) (reached : List Name) → next_level g reached ≡ reached → levels n g reached ≡ reached
levels-same zero g reached e = refl
levels-same (suc n) g reached e = ap (levels n g) e ∙ levels-same n g reached e

-- levels either settle, or each has one more name at least
levels-settle : (n : ℕ) (g : Ground) (reached : List Name) → IsPart g reached
    → (next_level g (levels n g reached) ≡ levels n g reached) ⊎ (n + length reached ≤ length (levels n g reached))
levels-settle zero g reached part = inr (omega arith)
levels-settle (suc n) g reached part = elim (cases_lt (length reached) (length (next_level g reached))) [
  | inl longer ↦ (elim (levels-settle n g (next_level g reached) (IsPart-filter g (is_next g reached))) [
    | inl e ↦ inl e
    | inr long ↦ inr (omega arith)
  ])
  | inr short ↦ (let e = level-same g reached part short in let last = levels-same (suc n) g reached e in inl (ap (next_level g) last ∙ e ∙ sym last))
]

-- after as many levels as there are names inside nothing new is found
ends-settle : (g : Ground) → next_level g (ends_of_walks g) ≡ ends_of_walks g
ends-settle g = elim (levels-settle (length g.inside) g (filter g.begins g.inside) (IsPart-filter g g.begins)) [
  | inl e ↦ e
  | inr long ↦ (
      let all = length-filter_both (is_next g (ends_of_walks g)) (λ x. not (is_next g (ends_of_walks g) x)) (λ x. refl) g.inside in
      level-same g (ends_of_walks g) (IsPart-ends g) (omega arith)
      )
]

-- The list has the ends of walks.

level-sound : (g : Ground) (reached : List Name) → ((x : Name) → IsTrue (is_among x reached) → EndsWalk g x)
    → (x : Name) → IsTrue (is_among x (next_level g reached)) → EndsWalk g x
level-sound g reached h y i =
    let parts = from-filter (is_next g reached) g.inside y i in
    elim (or_cases (is_among y reached) (list_any (λ x. is_among y (g.refs x)) reached) parts.0) [
      | inl old ↦ h y old
      | inr new ↦ (let found = some-passes (λ x. is_among y (g.refs x)) reached new in walk-goes g found.0 y (h found.0 found.1) parts.1 found.2)
    ]

levels-sound : (n : ℕ) (g : Ground) (reached : List Name) → ((x : Name) → IsTrue (is_among x reached) → EndsWalk g x)
    → (x : Name) → IsTrue (is_among x (levels n g reached)) → EndsWalk g x
levels-sound zero g reached h = h
levels-sound (suc n) g reached h = levels-sound n g (next_level g reached) (level-sound g reached h)

pub ends-sound : (g : Ground) (x : Name) → IsTrue (is_among x (ends_of_walks g)) → EndsWalk g x
ends-sound g x h =
    levels-sound (length g.inside) g (filter g.begins g.inside) (λ y i. let parts = from-filter g.begins g.inside y i in walk-begins g y parts.1 parts.0) x h

pub ends-complete : (g : Ground) (x : Name) → EndsWalk g x → IsTrue (is_among x (ends_of_walks g))
ends-complete g = at-ends g (λ x. IsTrue (is_among x (ends_of_walks g)))
    (λ x inside begins. levels-keep (length g.inside) g (filter g.begins g.inside) x (IsPart-filter g g.begins) (in-filter g.begins g.inside x begins inside))
    (λ x y h inside refers. sym (ap (is_among y) (ends-settle g)) ∙ in-filter (is_next g (ends_of_walks g)) g.inside y
    (or_right (is_among y (ends_of_walks g)) (list_any (λ z. is_among y (g.refs z)) (ends_of_walks g)) (passes-some (λ z. is_among y (g.refs z)) (ends_of_walks g) x h refers))
    inside)

pub ends-are-walked : (g : Ground) (x : Name) → IsTrue (is_among x (ends_of_walks g)) ↔ EndsWalk g x
ends-are-walked g x = (ends-sound g x, ends-complete g x)

-- it is a filter of the names inside, so it ascends where they do
pub ends-filter : (g : Ground) → ends_of_walks g ≡ filter (λ x. is_among x (ends_of_walks g)) g.inside
ends-filter g = IsPart-ends g
