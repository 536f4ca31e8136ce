-- The invariant holds where an evacuation begins, and what is collected of a graph object by object.
use Rattle.std.proofs.Common.{◌≡◌, ◌+◌, ◌*◌, ◌/◌, ◌<◌, ◌≤◌, ℕ, zero, suc, inl, inr, Bool, true, false, IsTrue, List, [], ◌∷◌, ◌++◌, length, map, replicate, take, Option, Some, None, get_or, refl, ap, sym, subst, ◌∙◌, arith}
use Rattle.std.specs.Prelude.{if◌then◌else◌}
use Rattle.std.proofs.lemmas.Bool.{cases_lt, false≢true}
use Rattle.std.proofs.lemmas.List.{get_or-replicate, get_or_past, length-map, length-replicate, map-append, take_more}
use Rattle.std.proofs.lemmas.List.Folds.{sum_by-replicate}
use Rattle.std.proofs.lemmas.Option.{get_or_from_slice_get, none-some, same_Some, slice_get_within}
use Rattle.bal_layout.specs.Shape.{IsShape, Shape, largest_of}
use Rattle.bal_layout.specs.declared.name.Name.{Name}
use Rattle.bal_core.specs.declared.event.Decision.{Decision}
use Rattle.bal_core.specs.World.{At, Graph, IsWorld, Row, State, World, blank, row_of, word_of}
use Rattle.bal_core.specs.Core.{IsCore, dry_workers}
use Rattle.bal_core.specs.Start.{IsObject, MayStart, name_of, start_of, world_of}

-- What is collected so far.

pub take-at : {X : Type 0} (xs : List X) (i : ℕ) (x : X) → At xs i x → take (i + 1) xs ≡ take i xs ++ x ∷ []
take-at xs i x at =
    take_more xs i x (slice_get_within xs i x at) ∙ ap (λ y. take i xs ++ y ∷ []) (get_or_from_slice_get xs i x x at)

pub map-take-at : {X Y : Type 0} (f : X → Y) (xs : List X) (i : ℕ) (x : X) → At xs i x
    → map f (take (i + 1) xs) ≡ map f (take i xs) ++ f x ∷ []
map-take-at f xs i x at = ap (map f) (take-at xs i x at) ∙ map-append f (take i xs) (x ∷ [])

-- The rows and words of the start.

always : {X : Type 0} (n i : ℕ) (x : X) → get_or (replicate n x) i x ≡ x
always n i x = elim (cases_lt i n) [
  | inl within ↦ get_or-replicate n i x x within
  | inr past ↦ get_or_past (replicate n x) i x (subst (λ m. m ≤ i) (sym (length-replicate n x)) past)
]

at-map : {X Y : Type 0} (f : X → Y) (xs : List X) (k : ℕ) (y : Y) → At (map f xs) k y → (x : X) × At xs k x × (f x ≡ y)
at-map f [] k y at = absurd (none-some y at)
at-map f (x ∷ xs) zero y at = (x, refl, same_Some (f x) y at)
at-map f (x ∷ xs) (suc k) y at = at-map f xs k y at

module _ (w : World) (workers : ℕ) where
  abbrev start : State
  start = start_of w workers

  is-blank : (n : ℕ) → row_of start n ≡ blank
  is-blank n = always workers n blank

  is-open : (k : ℕ) → word_of start k ≡ None
  is-open k = always (length w.sizes) k None

  nothing : {X : Type 0} (f : Row → List X) → f blank ≡ [] → (n i : ℕ) (x : X) → At (f (row_of start n)) i x → ⊥
  nothing f none n i x at = none-some x (subst (λ l. At l i x) (ap f (is-blank n) ∙ none) at)

  no : (f : Row → Bool) → f blank ≡ false → (n : ℕ) → IsTrue (f (row_of start n)) → ⊥
  no f none n here = false≢true (sym (ap f (is-blank n) ∙ none) ∙ here)

  undecided : (k : ℕ) (d : Decision) → word_of start k ≡ Some d → ⊥
  undecided k d word = none-some d (sym (is-open k) ∙ word)

  unwished : (n : ℕ) → At (replicate 32 false) n true → ⊥
  unwished n at = false≢true (sym (always 32 n false) ∙ get_or_from_slice_get (replicate 32 false) n true false at)

  none-dry : dry_workers (replicate workers blank) ≡ 0
  none-dry =
      let sum : dry_workers (replicate workers blank) ≡ workers * 0 = sum_by-replicate (λ (row : Row). if row.dry then 1 else 0) workers blank in
      omega (arith, sum)

  pub start-is-core : IsWorld w → 1 ≤ workers → workers ≤ 32 → IsCore (start_of w workers)
  start-is-core world one most = record {
    world = world;
    one = subst (λ l. 1 ≤ l) (sym (length-replicate workers blank)) one;
    most = subst (λ l. l ≤ 32) (sym (length-replicate workers blank)) most;
    wishes = length-replicate 32 false;
    words = length-replicate (length w.sizes) None;
    won = record {
      held = λ n i k d wins. absurd (nothing (λ r. r.won) refl n i _ wins);
      won = λ k d word. absurd (undecided k d word);
      once = λ n m i j k d e wins other. absurd (nothing (λ r. r.won) refl n i _ wins);
    };
    known = record {
      held = λ n i k d at. absurd (nothing (λ r. r.known) refl n i _ at);
      won = λ n i k d wins. absurd (nothing (λ r. r.won) refl n i _ wins);
      reached = λ n i k d at. absurd (nothing (λ r. r.known) refl n i _ at);
    };
    drawn = record {
      drawn = λ n i d draws. absurd (nothing (λ r. r.drawn) refl n i _ draws);
      all = λ o below pool. let never : ⊥ = omega (arith, below) in absurd never;
      once = λ n m i j d e draws other same. absurd (nothing (λ r. r.drawn) refl n i _ draws);
    };
    packed = record { fits = λ n i k address wins. absurd (nothing (λ r. r.won) refl n i _ wins) };
    raised = record {
      marked = λ k word. absurd (undecided k _ word);
      saw = λ n here. absurd (no (λ r. r.saw) refl n here);
      raised = λ n here. absurd (no (λ r. r.raised) refl n here);
      wished = λ n at. absurd (unwished n at);
    };
    drained = record { dry = omega (arith, none-dry); drained = λ here. absurd (false≢true here) };
  }

module _ (s : Shape) (g : Graph) (roots pool : List ℕ) (workers : ℕ) (may : MayStart s g roots pool workers) (shape : IsShape s) where
  abbrev world : World
  world = world_of s g roots pool

  many : length (map length g.words) ≡ length g.ages
  many = length-map g.words length ∙ may.graph.words

  object : (k size : ℕ) → At world.sizes k size → (words : List ℕ) × IsObject s words × (length words ≡ size)
  object k size at = let here = at-map length g.words k size at in (here.0, may.graph.objects k here.0 here.1, here.2)

  pub start-is-world : IsWorld (world_of s g roots pool)
  start-is-world = record {
    shape = shape;
    ages = sym many;
    names = length-map g.words name_of ∙ sym (length-map g.words length);
    targets = may.graph.targets ∙ sym many;
    oldest = may.graph.oldest;
    smallest = λ k size at. let here = object k size at in subst (λ n. 2 ≤ n) here.2 here.1.smallest;
    largest = λ k size at. let here = object k size at in subst (λ n. n ≤ largest_of s) here.2 here.1.largest;
    roots = λ k root. subst (λ n. k < n) (sym many) (may.held root.0 k root.1);
    slots = λ j k slot. subst (λ n. k < n) (sym many) (may.graph.slots j slot.0 k slot.1);
    regions = may.regions;
    distinct = may.distinct;
  }

  pub start-core : IsCore (start_of (world_of s g roots pool) workers)
  start-core = start-is-core (world_of s g roots pool) workers start-is-world may.one may.most

  pub few-words : (k : ℕ) (words : List ℕ) → At g.words k words → length words ≤ 65536
  few-words k words at =
      let largest : length words ≤ s.words / 8 = (may.graph.objects k words at).largest in
      let most : s.words ≤ 65536 = shape.most_words in
      omega (arith, largest, most)

-- a state in which nothing is drawn or raised
abbrev pub started : Shape → List ℕ → List ℕ → List Name → List (List (Option ℕ)) → List ℕ → List ℕ → List (Option Decision) → List Bool → List Row → State
started s ages sizes names targets roots pool words wished crew = record {
  world = record { shape = s; ages = ages; sizes = sizes; names = names; targets = targets; roots = roots; pool = pool };
  words = words;
  counter = 0;
  wished = wished;
  drained = false;
  crew = crew;
}

-- the same parts make the same state
pub start-fields : (s : Shape) {ages ages' sizes sizes' roots roots' pool pool' : List ℕ} {names names' : List Name}
    {targets targets' : List (List (Option ℕ))} {words words' : List (Option Decision)} {wished wished' : List Bool}
    {crew crew' : List Row} → ages ≡ ages' → sizes ≡ sizes' → names ≡ names' → targets ≡ targets' → roots ≡ roots' → pool ≡ pool'
    → words ≡ words' → wished ≡ wished' → crew ≡ crew'
    → started s ages sizes names targets roots pool words wished crew ≡ started s ages' sizes' names' targets' roots' pool' words' wished' crew'
start-fields s {ages} {ages'} {sizes} {sizes'} {roots} {roots'} {pool} {pool'} {names} {names'} {targets} {targets'} {words} {words'} {wished} {wished'} {crew} {crew'} a z n t r p w i c =
    ap (λ x. started s x sizes names targets roots pool words wished crew) a
    ∙ ap (λ x. started s ages' x names targets roots pool words wished crew) z
    ∙ ap (λ x. started s ages' sizes' x targets roots pool words wished crew) n
    ∙ ap (λ x. started s ages' sizes' names' x roots pool words wished crew) t
    ∙ ap (λ x. started s ages' sizes' names' targets' x pool words wished crew) r
    ∙ ap (λ x. started s ages' sizes' names' targets' roots' x words wished crew) p
    ∙ ap (λ x. started s ages' sizes' names' targets' roots' pool' x wished crew) w
    ∙ ap (λ x. started s ages' sizes' names' targets' roots' pool' words' x crew) i
    ∙ ap (λ x. started s ages' sizes' names' targets' roots' pool' words' wished' x) c
