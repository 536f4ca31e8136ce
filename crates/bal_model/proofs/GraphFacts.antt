-- How the plain graph reads in the vectors that keep it.
use Rattle.std.proofs.Common.{◌≡◌, ◌<◌, ◌≤◌, ℕ, zero, suc, List, [], ◌∷◌, length, map, get_or, set, Some, ap, sym, ◌∙◌, arith, ◌-◌}
use Rattle.std.specs.Prelude.{slice_get, option_map, replicate, IsSome}
use Rattle.std.specs.Vec.{with_item}
use Rattle.std.proofs.lemmas.List.{get_or-map, length-map, map-set, get_or-replicate, length-replicate}
use Rattle.std.proofs.Math.Seq.{map-set_same}
use Rattle.std.proofs.lemmas.Option.{slice_get-map, slice_get-get_or}
use Rattle.std.proofs.lemmas.Bool.{false≢true}
use Rattle.bal_layout.specs.declared.name.Name.{Name}
use Rattle.bal_model.specs.Plain.{State, Mutator, Object, made_by, mutator, object, object_at, with_mutator, changed_at, idle, new_object}
use Rattle.bal_model.specs.Graph.{IsGraph, graph_of, mutator_of, object_of}
use Rattle.bal_model.specs.declared.plain.Plain.TheInside.{Inside}
use Rattle.bal_model.specs.declared.plain.Mutator as code
use Rattle.bal_model.specs.declared.plain.Node.{Node}

-- a mutator of the graph is the one that is kept at its number
pub mutator-at : (p : Inside) (t : ℕ) (m : code.Mutator) → t < length p.mutators.items → m ≡ get_or p.mutators.items t m → mutator (graph_of p) t ≡ mutator_of m
mutator-at p t m h e = get_or-map mutator_of p.mutators.items t m _ h ∙ ap mutator_of (sym e)

-- the same of a graph that is kept so
module _ (p : Inside) (s : State) (is : graph_of p ≡ s) where
  pub kept-count : length s.mutators ≡ length p.mutators.items
  kept-count = ap (λ (g : State). length g.mutators) (sym is) ∙ length-map p.mutators.items mutator_of

  pub kept-mutator : (t : ℕ) (m : code.Mutator) → t < length p.mutators.items → m ≡ get_or p.mutators.items t m → mutator s t ≡ mutator_of m
  kept-mutator t m h e = ap (λ (g : State). mutator g t) (sym is) ∙ mutator-at p t m h e

-- ordinals count from 1
pub object_at-map : (ns : List Node) (o : ℕ) → 0 < o → object_at (map object_of ns) o ≡ option_map object_of (slice_get ns (o - 1))
object_at-map ns zero h = absurd (omega arith)
object_at-map ns (suc o) h = slice_get-map object_of ns o ∙ ap (λ i. option_map object_of (slice_get ns i)) (omega arith)

-- a graph in which one mutator was replaced
abbrev pub replaced : Inside → ℕ → code.Mutator → Inside
replaced p t m = record { alloc = p.alloc; mutators = with_item p.mutators t m; globals = p.globals }

pub graph_of-replaced : (p : Inside) (t : ℕ) (m : code.Mutator) → graph_of (replaced p t m) ≡ with_mutator (graph_of p) t (mutator_of m)
graph_of-replaced p t m = ap (λ (ms : List Mutator). record { mutators = ms; globals = p.globals.list }) (map-set mutator_of p.mutators.items t m)

-- a graph in which one mutator was changed
pub graph_of-changed : (p : Inside) (t : ℕ) (m m' : code.Mutator) (f : Mutator → Mutator) → t < length p.mutators.items → m ≡ get_or p.mutators.items t m
    → mutator_of m' ≡ f (mutator_of m) → graph_of (replaced p t m') ≡ with_mutator (graph_of p) t (f (mutator (graph_of p) t))
graph_of-changed p t m m' f h e new = graph_of-replaced p t m' ∙ ap (with_mutator (graph_of p) t) (new ∙ ap f (sym (mutator-at p t m h e)))

-- a mutator that is replaced by an equal one leaves the graph
pub graph_of-same : (p : Inside) (t : ℕ) (m m' : code.Mutator) → t < length p.mutators.items → m ≡ get_or p.mutators.items t m → mutator_of m' ≡ mutator_of m → graph_of (replaced p t m') ≡ graph_of p
graph_of-same p t m m' h e same =
    ap (λ (ms : List Mutator). record { mutators = ms; globals = p.globals.list }) (map-set_same mutator_of p.mutators.items t m' m (same ∙ ap mutator_of e))

-- where all mutators are idle, each is
idle-at : (ms : List code.Mutator) (n k : ℕ) (d : code.Mutator) → map mutator_of ms ≡ replicate n idle → k < length ms → mutator_of (get_or ms k d) ≡ idle
idle-at ms n k d e h =
    let many : length ms ≡ n = sym (length-map ms mutator_of) ∙ ap length e ∙ length-replicate n idle in
    sym (get_or-map mutator_of ms k d idle h) ∙ ap (λ l. get_or l k idle) e ∙ get_or-replicate n k idle idle (omega arith)

-- idle mutators keep the limits of a graph
pub IsGraph-idle : (p : Inside) → map mutator_of p.mutators.items ≡ replicate 32 idle → length p.globals.list ≡ 64 → IsGraph p
IsGraph-idle p e g = record {
  mutators = sym (length-map p.mutators.items mutator_of) ∙ ap length e;
  registers = λ k d h. ap (λ (m : Mutator). length m.registers) (idle-at p.mutators.items 32 k d e h);
  ordinals = λ k d h.
      let none : length (map object_of (get_or p.mutators.items k d).made.items) ≡ 0 = ap (λ (m : Mutator). length m.made) (idle-at p.mutators.items 32 k d e h) in
      omega (arith, none, length-map (get_or p.mutators.items k d).made.items object_of);
  globals = g;
}

-- the object with an ordinal, as the node that is kept for it
pub object-at : (ns : List Node) (o : ℕ) (n : Node) → 0 < o → o ≤ length ns → n ≡ get_or ns (o - 1) n → object_at (map object_of ns) o ≡ Some (object_of n)
object-at ns o n h k e =
    let some : slice_get ns (o - 1) ≡ Some n = slice_get-get_or ns (o - 1) n (omega arith) ∙ ap Some (sym e) in
    object_at-map ns o h ∙ ap (option_map object_of) some

-- nodes one of which was changed
pub changed_at-map : (ns : List Node) (i : ℕ) (change : Object → Object) (n n' : Node) → i < length ns → n ≡ get_or ns i n
    → object_of n' ≡ change (object_of n) → map object_of (set ns i n') ≡ changed_at (map object_of ns) i change
changed_at-map ns i change n n' h e new =
    let old : get_or (map object_of ns) i (new_object 0 0) ≡ object_of n = get_or-map object_of ns i n (new_object 0 0) h ∙ ap object_of (sym e) in
    map-set object_of ns i n' ∙ ap (set (map object_of ns) i) (new ∙ ap change (sym old))

-- an object has been made by its thread
pub object-made : (s : State) (x : Name) → IsSome (object s x) → (0 < x.ordinal) × (x.ordinal ≤ made_by s x.thread)
object-made s x = by (mutator s x.thread).made x.ordinal
  where
    by : (objects : List Object) (o : ℕ) → IsSome (object_at objects o) → (0 < o) × (o ≤ length objects)
    by objects zero h = absurd (false≢true h)
    by [] (suc o) h = absurd (false≢true h)
    by (x ∷ objects) (suc zero) h = (omega arith, omega arith)
    by (x ∷ objects) (suc (suc o)) h = (omega arith, omega (arith, (by objects (suc o) h).1))

-- and that thread has a mutator
pub thread-there : (s : State) (t : ℕ) → 0 < made_by s t → t < length s.mutators
thread-there s t = by s.mutators t
  where
    by : (ms : List Mutator) (t : ℕ) → 0 < length (get_or ms t (record { registers = []; made = [] })).made → t < length ms
    by [] t h = absurd (omega (arith, h))
    by (m ∷ ms) zero h = omega arith
    by (m ∷ ms) (suc t) h = omega (arith, by ms t h)
