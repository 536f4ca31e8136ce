-- An evacuation of what was gathered may begin.
use Rattle.std.proofs.Common.{◌≡◌, ◌<◌, ◌+◌, ◌⊎◌, ℕ, zero, suc, inl, inr, Bool, true, false, cond, List, [], ◌∷◌, ◌++◌, filter_map, length, map, Option, Some, None, refl, ap, sym, subst, ◌∙◌, arith}
use Rattle.std.specs.Prelude.{◌↔◌, option_and_then, slice_get}
use Rattle.std.specs.List.{cons_option}
use Rattle.std.proofs.lemmas.List.{length-map}
use Rattle.std.proofs.lemmas.Option.{none-some, same_Some, slice_get-map, slice_get_within}
use Rattle.bal_base.proofs.Lemmas.{among-first, among-later}
use Rattle.bal_base.specs.Numbering.{numbers_from}
use Rattle.bal_core.specs.Start.{IsGraph}
use Rattle.bal_core.specs.World.{At}
use Rattle.bal_evacuate.specs.Plan.{AreBare, IsBare, MayEvacuate, numbers_of, planned}
use Rattle.bal_gather.specs.Gathered.{IsGathered, held_by, references_on_all}
use Rattle.bal_gather.specs.Lent.{Lent}
use Rattle.bal_gather.specs.Numbers.{number_of, starts_of}
use Rattle.bal_gather.specs.Objects.{age_at, graph_of, number_behind}
use Rattle.bal_gather.specs.declared.outside.Reference.{Reference}
use Rattle.bal_layout.specs.References.{target_of}
use Rattle.bal_layout.specs.Regions.{free_regions, is_free, is_in}
use Rattle.bal_layout.specs.Shape.{Shape}
use Rattle.bal_layout.specs.declared.region_state.RegionState.{RegionState}
use Rattle.bal_partial.proofs.OnItsBoard.{numbers-own}
use Rattle.bal_region.specs.Land.{Land}
use Rattle.bal_table.proofs.Lemmas.{free-numbered, vacant}
use Rattle.bal_table.specs.Occupied.{vacated}
use Rattle.bal_table.specs.Table.{IsTable, Table, land_at}
use Rattle.bal_words.proofs.Lemmas.{mapped-from}

-- Places in lists.

at-in-list : (xs : List ℕ) (i q : ℕ) → At xs i q → is_in q xs ≡ true
at-in-list [] i q at = absurd (none-some q at)
at-in-list (x ∷ xs) zero q at = subst (λ n. is_in n (x ∷ xs) ≡ true) (same_Some x q at) (among-first x xs)
at-in-list (x ∷ xs) (suc i) q at = among-later x q xs (at-in-list xs i q at)

-- the numbers of items that pass ascend, so none comes twice
numbered-above : {A : Type 0} (n : ℕ) (test : A → Bool) (xs : List A) (i q : ℕ) → At (numbers_from n test xs) i q → n + i < q + 1
numbered-above n test [] i q at = absurd (none-some q at)
numbered-above {A} n test (x ∷ xs) i q at = by (numbered-above (n + 1) test xs) (test x) i at
  where
    by : ((j p : ℕ) → At (numbers_from (n + 1) test xs) j p → n + 1 + j < p + 1) → (b : Bool) → (i : ℕ)
        → At (cond b (n ∷ numbers_from (n + 1) test xs) (numbers_from (n + 1) test xs)) i q → n + i < q + 1
    by rest true zero at = let e = same_Some n q at in omega (arith, e)
    by rest true (suc i) at = omega (arith, rest i q at)
    by rest false i at = omega (arith, rest i q at)

numbered-once : {A : Type 0} (n : ℕ) (test : A → Bool) (xs : List A) (i j q : ℕ) → At (numbers_from n test xs) i q → At (numbers_from n test xs) j q → i ≡ j
numbered-once n test [] i j q one two = absurd (none-some q one)
numbered-once {A} n test (x ∷ xs) i j q one two = by (numbered-once (n + 1) test xs) (numbered-above (n + 1) test xs) (test x) i j one two
  where
    by : ((i j q : ℕ) → At (numbers_from (n + 1) test xs) i q → At (numbers_from (n + 1) test xs) j q → i ≡ j)
        → ((j p : ℕ) → At (numbers_from (n + 1) test xs) j p → n + 1 + j < p + 1) → (b : Bool) → (i j : ℕ)
        → At (cond b (n ∷ numbers_from (n + 1) test xs) (numbers_from (n + 1) test xs)) i q
        → At (cond b (n ∷ numbers_from (n + 1) test xs) (numbers_from (n + 1) test xs)) j q → i ≡ j
    by rest above false i j one two = rest i j q one two
    by rest above true zero zero one two = refl
    by rest above true zero (suc j) one two = let e = same_Some n q one in absurd (omega (arith, e, above j q two))
    by rest above true (suc i) zero one two = let e = same_Some n q two in absurd (omega (arith, e, above i q one))
    by rest above true (suc i) (suc j) one two = ap suc (rest i j q one two)

-- what is at a place of a list that a function gave, in parts of lists
given-at : {X : Type 0} (f : X → Option ℕ) (xs : List X) (i k : ℕ) → At (filter_map f xs) i k → (x : X) × (f x ≡ Some k)
given-at f [] i k at = absurd (none-some k at)
given-at {X} f (x ∷ xs) i k at = by (given-at f xs) (f x) refl i at
  where
    by : ((i k : ℕ) → At (filter_map f xs) i k → (y : X) × (f y ≡ Some k)) → (o : Option ℕ) → f x ≡ o → (i : ℕ)
        → At (filter_map f (x ∷ xs)) i k → (y : X) × (f y ≡ Some k)
    by rest None is i at = rest i k (subst (λ o. At (cons_option o (filter_map f xs)) i k) is at)
    by rest (Some n) is zero at = (x, is ∙ ap Some (same_Some n k (subst (λ o. At (cons_option o (filter_map f xs)) zero k) is at)))
    by rest (Some n) is (suc i) at = rest i k (subst (λ o. At (cons_option o (filter_map f xs)) (suc i) k) is at)

at-both : (xs ys : List ℕ) (i k : ℕ) → At (xs ++ ys) i k → ((j : ℕ) × At xs j k) ⊎ ((j : ℕ) × At ys j k)
at-both [] ys i k at = inr (i, at)
at-both (x ∷ xs) ys zero k at = inl (zero, at)
at-both (x ∷ xs) ys (suc i) k at = elim (at-both xs ys i k at) [
  | inl r ↦ inl (suc r.0, r.1)
  | inr r ↦ inr (r.0, r.1)
]

-- what is behind a word has a number
behind-number : (l : Lent) (word k : ℕ) → number_behind l word ≡ Some k → (a : ℕ) × (number_of l a ≡ Some k)
behind-number l word k is = by (target_of word) is
  where
    by : (o : Option ℕ) → option_and_then (number_of l) o ≡ Some k → (a : ℕ) × (number_of l a ≡ Some k)
    by None is = absurd (none-some k is)
    by (Some a) is = (a, is)

module _ (t : Table) (chosen roots held places : List ℕ) (l : Lent) (table : IsTable t) (lent : l ≡ record { table = vacated t; regions = chosen })
    (numbers : (a k : ℕ) → (number_of l a ≡ Some k) ↔ (slice_get (starts_of l) k ≡ Some a)) (graph : IsGraph l.table.shape (graph_of l))
    (gathered : IsGathered l roots held places) (pool : List Land) (free : pool ≡ map (land_at t) (free_regions t.regions)) where
  shape-is : l.table.shape ≡ t.shape
  shape-is = ap (λ (m : Lent). m.table.shape) lent

  held-within : (i k : ℕ) → At held i k → k < length (graph_of l).ages
  held-within i k at =
      let both = at-both (filter_map (number_behind l) roots) (held_by l (references_on_all l gathered.cards)) i k (subst (λ (hs : List ℕ). At hs i k) gathered.are_held at) in
      within (by both)
    where
      by : ((j : ℕ) × At (filter_map (number_behind l) roots) j k) ⊎ ((j : ℕ) × At (held_by l (references_on_all l gathered.cards)) j k) → (a : ℕ) × (number_of l a ≡ Some k)
      by (inl r) = let w = given-at (number_behind l) roots r.0 k r.1 in behind-number l w.0 k w.1
      by (inr r) = let w = given-at (λ (z : Reference). number_behind l z.word) (references_on_all l gathered.cards) r.0 k r.1 in behind-number l w.0.word k w.1

      within : (a : ℕ) × (number_of l a ≡ Some k) → k < length (graph_of l).ages
      within r =
          let less : k < length (starts_of l) = slice_get_within (starts_of l) k r.0 ((numbers r.0 k).0 r.1) in
          omega (arith, less, length-map (starts_of l) (age_at l.table))

  pool-numbers : numbers_of pool ≡ free_regions t.regions
  pool-numbers = ap numbers_of free ∙ numbers-own t table (free_regions t.regions) (λ q among. (free-numbered t table q among).0)

  pub may-evacuate : (limit : Option ℕ) → MayEvacuate (planned l.table.shape (graph_of l) held pool limit)
  may-evacuate limit = record {
    start = record {
      graph = graph;
      held = held-within;
      regions = λ i q at.
          subst (λ (s : Shape). q < s.regions) (sym shape-is)
          (free-numbered t table q (at-in-list (free_regions t.regions) i q (subst (λ (ns : List ℕ). At ns i q) pool-numbers at))).0;
      distinct = λ i j q one two.
          numbered-once 0 (λ (r : RegionState). is_free r.role) t.regions i j q (subst (λ (ns : List ℕ). At ns i q) pool-numbers one) (subst (λ (ns : List ℕ). At ns j q) pool-numbers two);
      one = omega arith;
      most = omega arith;
    };
    bare = bare;
  }
    where
      bare : AreBare l.table.shape pool
      bare i z at =
          let q = mapped-from (land_at t) (slice_get (free_regions t.regions) i) z
          (sym (slice_get-map (land_at t) (free_regions t.regions) i) ∙ subst (λ (ls : List Land). At ls i z) free at) in
          let own = free-numbered t table q.0 (at-in-list (free_regions t.regions) i q.0 q.1.0) in
          let v = vacant t table q.0 own.0 own.1 in
          subst (λ (s : Shape). (z.number < s.regions) × IsBare s z) (sym shape-is)
          (subst (λ (y : Land). (y.number < t.shape.regions) × IsBare t.shape y) q.1.1
          (let number : (land_at t q.0).number ≡ q.0 = v.number in
          (omega (arith, own.0, number), record { starts = v.starts; used = v.used; words = v.words })))
