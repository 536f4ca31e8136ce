-- The objects of a table by their addresses and by their names.
use Rattle.std.proofs.Common.{◌≡◌, ℕ, ◌*◌, ◌<◌, inl, inr, Bool, true, false, cond, IsTrue, List, [], ◌∷◌, map, Some, None, refl, ap, subst, sym, ◌∙◌, arith}
use Rattle.std.specs.Prelude.{is_some}
use Rattle.std.specs.List.{IsDistinct}
use Rattle.std.proofs.lemmas.Bool.{cond-true, false≢true, or_cases}
use Rattle.std.proofs.lemmas.Map.Keys.{IsDistinct-cons}
use Rattle.bal_base.specs.Bits.{IsAscending}
use Rattle.bal_base.proofs.Lemmas.{among-cases, among-first, among-later, filter-ascends, member-passes, member-there}
use Rattle.bal_layout.specs.Graph.{Graph}
use Rattle.bal_layout.specs.Names.{is_among, same_name}
use Rattle.bal_layout.specs.Regions.{is_in}
use Rattle.bal_layout.specs.declared.name.Name.{Name}
use Rattle.bal_model.proofs.Lemmas.{is_among-head, is_among-tail, same_name-eq}
use Rattle.bal_plan.specs.Plan.{name_of, starts_below, starts_of}
use Rattle.bal_table.specs.Table.{IsTable, Table, things_of}
use Rattle.bal_table.proofs.Lemmas.{object-within, seen}
use Rattle.bal_words.specs.Moved.{Kept}
use Rattle.bal_words.specs.Things.{Thing, Things}
use Rattle.bal_words.proofs.Lemmas.{there}
use Rattle.bal_global.proofs.Left.{is-left, under, was}
use Rattle.bal_global.proofs.Numbers.{each-mapped}

-- Names that are told of numbers.

pub name-told : (f : ℕ → Name) (xs : List ℕ) (a : ℕ) → is_in a xs ≡ true → IsTrue (is_among (f a) (map f xs))
name-told f [] a among = absurd (false≢true among)
name-told f (b ∷ xs) a among = elim (among-cases b a xs among) [
  | inl here ↦ subst (λ c. IsTrue (is_among (f c) (f b ∷ map f xs))) here (is_among-head (f b) (map f xs))
  | inr later ↦ is_among-tail (f a) (f b) (map f xs) (name-told f xs a later)
]

pub told-name : (f : ℕ → Name) (xs : List ℕ) (n : Name) → IsTrue (is_among n (map f xs)) → (a : ℕ) × ((is_in a xs ≡ true) × (f a ≡ n))
told-name f [] n among = absurd (false≢true among)
told-name f (b ∷ xs) n among = elim (or_cases (same_name n (f b)) (is_among n (map f xs)) among) [
  | inl here ↦ (b, (among-first b xs, sym (same_name-eq n (f b) here)))
  | inr later ↦ let found = told-name f xs n later in (found.0, (among-later b found.0 xs found.1.0, found.1.1))
]

-- numbers that ascend tell distinct names if no two tell one
pub told-apart : (f : ℕ → Name) (xs : List ℕ) → IsAscending xs → ((a b : ℕ) → is_in a xs ≡ true → is_in b xs ≡ true → f a ≡ f b → a ≡ b)
    → IsDistinct same_name (map f xs)
unfolding IsDistinct
told-apart f [] up once = tt
told-apart f (a ∷ xs) up once =
    IsDistinct-cons same_name (f a) (map f xs) (each-mapped (λ n. same_name (f a) n ≡ false) f xs other)
    (told-apart f xs up.1 (λ b c one two. once b c (among-later a b xs one) (among-later a c xs two)))
  where
    other : (b : ℕ) → is_in b xs ≡ true → same_name (f a) (f b) ≡ false
    other b among = by (same_name (f a) (f b)) refl
      where
        by : (t : Bool) → same_name (f a) (f b) ≡ t → t ≡ false
        by true same = absurd (omega (arith, up.0 b among, once a b (among-first a xs) (among-later a b xs among) (same_name-eq (f a) (f b) same)))
        by false apart = refl

-- The objects of a table.

abbrev pub name_at : Table → ℕ → Name
name_at t a = name_of (things_of t a)

abbrev pub names_left : Table → List Name
names_left t = map (name_at t) (starts_of t)

pub starts-ascend : (t : Table) (at : ℕ) → IsAscending (starts_below t at)
starts-ascend t at = filter-ascends (λ a. is_some (things_of t a)) 0 at

pub start-is : (t : Table) (at a : ℕ) → is_in a (starts_below t at) ≡ true → (x : Thing) × (things_of t a ≡ Some x)
start-is t at a among = there (things_of t a) (member-passes (λ b. is_some (things_of t b)) 0 at a among).0

start-below : (t : Table) (at a : ℕ) (x : Thing) → a < at → things_of t a ≡ Some x → is_in a (starts_below t at) ≡ true
start-below t at a x less is = member-there (λ b. is_some (things_of t b)) 0 at a (omega arith) (omega (arith, less)) (ap is_some is)

pub start-there : (t : Table) (a : ℕ) (x : Thing) → IsTable t → things_of t a ≡ Some x → is_in a (starts_of t) ≡ true
start-there t a x table is =
    let s = seen t a x table is in
    start-below t (t.shape.regions * t.shape.words) a x (object-within t a s.object table s.is).0 is

-- by name
pub left-name : (t : Table) (a : ℕ) (x : Thing) → IsTable t → things_of t a ≡ Some x → IsTrue (is_among x.name (names_left t))
left-name t a x table is = subst (λ (n : Name). IsTrue (is_among n (names_left t))) (ap name_of is) (name-told (name_at t) (starts_of t) a (start-there t a x table is))

pub name-left : (t : Table) (n : Name) → IsTrue (is_among n (names_left t)) → (a : ℕ) × ((x : Thing) × (things_of t a ≡ Some x) × (x.name ≡ n))
name-left t n among =
    let found = told-name (name_at t) (starts_of t) n among in
    let x = start-is t (t.shape.regions * t.shape.words) found.0 found.1.0 in
    (found.0, (x.0, x.1, sym (ap name_of x.1) ∙ found.1.1))

-- The graph of what is left.

abbrev pub graph_left : Graph → Table → Graph
graph_left g t n = cond (is_among n (names_left t)) (g n) None

pub kept-left : (before : Things) (t : Table) (marked : List ℕ) (g : Graph) → IsTable t → ((a : ℕ) → things_of t a ≡ cond (is_in a marked) (before a) None)
    → Kept before (λ a. is_in a marked) g (graph_left g t)
kept-left before t marked g table left = record {
  each = λ a x is kept. cond-true (is_among x.name (names_left t)) (g x.name) None (left-name t a x table (is-left before (things_of t) marked left a x is kept));
  only = λ n o is.
      let found = name-left t n (under (is_among n (names_left t)) (g n) o is).0 in
      let old = was before (things_of t) marked left found.0 found.1.0 found.1.1 in
      (found.0, (found.1.0, old.1, old.0, found.1.2));
}
