-- The names of all objects, and that what is kept of all of them is what can be reached.
use Rattle.std.proofs.Common.{◌≡◌, ◌<◌, ◌+◌, ℕ, zero, suc, Bool, true, false, ◌||◌, List, [], ◌∷◌, ◌++◌, length, filter, flat_map, map, map-id, get_or, refl, ap, sym, subst, ◌∙◌, arith}
use Rattle.std.specs.Prelude.{All, IsSome}
use Rattle.std.specs.List.{range_with_len}
use Rattle.std.specs.Option.{is_some}
use Rattle.std.proofs.lemmas.Grind.{flat_map-append}
use Rattle.std.proofs.lemmas.List.{append-nil}
use Rattle.std.proofs.lemmas.List.Elements.{All-append, All-map, All-nil, filter_agree}
use Rattle.std.proofs.lemmas.List.FromFn.{get_or-range_with_len, length-range_with_len, map-range_with_len_more}
use Rattle.std.proofs.lemmas.Option.{slice_get-get_or}
use Rattle.bal_layout.specs.declared.name.Name.{Name}
use Rattle.bal_layout.specs.Names.{is_among}
use Rattle.bal_model.specs.Kept.{kept_ground, kept_names}
use Rattle.bal_model.specs.Plain.{State, made_by, mutator, new_object, object}
use Rattle.bal_model.specs.Walk.{Ground, all_names, ends_of_walks, graph_ground, levels, next_level, reachable, root_names}

-- the names of the objects of a thread
abbrev pub names_by : State → ℕ → List Name
names_by s t = map (λ o. record { thread = t; ordinal = o }) (range_with_len 1 (made_by s t))

-- one thread more
pub names-more : (s : State) (t : ℕ) → flat_map (names_by s) (range_with_len 0 (t + 1)) ≡ flat_map (names_by s) (range_with_len 0 t) ++ names_by s t
names-more s t =
    let more : range_with_len 0 (t + 1) ≡ range_with_len 0 t ++ t ∷ [] =
    sym (map-id (range_with_len 0 (t + 1))) ∙ (map-range_with_len_more (λ n. n) 0 t t (omega arith) ∙ ap (λ ns. ns ++ t ∷ []) (map-id (range_with_len 0 t))) in
    ap (flat_map (names_by s)) more
    ∙ (flat_map-append (names_by s) (range_with_len 0 t) (t ∷ []) ∙ ap (λ ns. flat_map (names_by s) (range_with_len 0 t) ++ ns) (append-nil (names_by s t)))

-- each is the name of an object

named : (s : State) (t : ℕ) → All (λ x. IsSome (object s x)) (names_by s t)
named s t = All-map (λ x. IsSome (object s x)) (λ o. record { thread = t; ordinal = o }) (range_with_len 1 (made_by s t)) (λ k d h.
    let within : k < made_by s t = omega (arith, h, length-range_with_len 1 (made_by s t)) in
    let is : get_or (range_with_len 1 (made_by s t)) k d ≡ suc k = get_or-range_with_len 1 (made_by s t) k d within ∙ omega arith in
    subst (λ o. IsSome (object s (record { thread = t; ordinal = o }))) (sym is) (ap is_some (slice_get-get_or (mutator s t).made k (new_object 0 0) within)))

all-flat : (P : Name → Type 0) (h : ℕ → List Name) (ns : List ℕ) → ((n : ℕ) → All P (h n)) → All P (flat_map h ns)
all-flat P h [] each = All-nil P
all-flat P h (n ∷ ns) each = All-append P (h n) (flat_map h ns) (each n) (all-flat P h ns each)

pub all-objects : (s : State) → All (λ x. IsSome (object s x)) (all_names s)
all-objects s = all-flat (λ x. IsSome (object s x)) (names_by s) (range_with_len 0 (length s.mutators)) (named s)

-- Grounds that differ only in where walks may begin, and not there either.

module _ (g : Ground) (begins : Name → Bool) (same : (x : Name) → begins x ≡ g.begins x) where
  abbrev other : Ground
  other = record { inside = g.inside; begins = begins; refs = g.refs }

  levels-alike : (n : ℕ) (reached : List Name) → levels n other reached ≡ levels n g reached
  levels-alike zero reached = refl
  levels-alike (suc n) reached = levels-alike n (next_level g reached)

  ends-alike : ends_of_walks other ≡ ends_of_walks g
  ends-alike = levels-alike (length g.inside) (filter begins g.inside) ∙ ap (levels (length g.inside) g) (filter_agree begins g.begins same g.inside)

pub kept-of-all : (s : State) → kept_names s [] (all_names s) ≡ reachable s
kept-of-all s = ends-alike (graph_ground s) (kept_ground s [] (all_names s)).begins (λ x. none (is_among x (root_names s)))
  where
    none : (b : Bool) → (b || false) ≡ b
    none true = refl
    none false = refl
