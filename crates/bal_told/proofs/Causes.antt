-- Why an evacuation was aborted, as the journal tells it: in order, each for its cause, and for a cause if something is marked.
use Rattle.std.proofs.Common.{◌≡◌, ◌≤◌, ◌<◌, ◌+◌, ◌⊎◌, inl, inr, ℕ, zero, suc, Bool, true, false, not, cond, IsTrue, List, [], ◌∷◌, ◌++◌, length, filter, map, get_or, refl, ap, ap₂, sym, subst, ◌∙◌, arith}
use Rattle.std.specs.Prelude.{◌==◌, ◌||◌, Option, None, Some, if◌then◌else◌}
use Rattle.std.specs.List.{AllByRecursion, Contains, list_any, range_with_len, sum_by}
use Rattle.std.proofs.lemmas.Bool.{cases_lt, eq-eqb, false≢true, ne_eqb}
use Rattle.std.proofs.lemmas.List.{get_or_past}
use Rattle.std.proofs.lemmas.List.Elements.{filter_agree}
use Rattle.std.proofs.lemmas.List.Sums.{length-filter, sum_by-cons}
use Rattle.bal_layout.specs.Regions.{is_in}
use Rattle.bal_layout.specs.declared.name.Abort.{Abort}
use Rattle.bal_layout.specs.declared.name.Abort.TheVariants as abort
use Rattle.bal_core.specs.World.{At}
use Rattle.bal_core.specs.Steps.{told}
use Rattle.bal_core.specs.Finished as finished
use Rattle.bal_core.specs.Finished.{Evacuation, IsAborted, Survives, one_if_copied, won_by}
use Rattle.bal_core.specs.declared.event.Decision.{Decision}
use Rattle.bal_core.specs.declared.event.Decision.TheVariants as decision
use Rattle.bal_core.specs.declared.row.Told.{Told}
use Rattle.bal_model.specs.declared.config.Config.{Config}
use Rattle.bal_model.specs.declared.event.Kept.{Kept}
use Rattle.bal_rules.proofs.Lemmas.{each-append, each-filter, each-in, each-map}
use Rattle.bal_rules.specs.Board.{Board, is_empty}
use Rattle.bal_rules.specs.Packing.{IsCause, IsDrained, IsWish, KeepsLimit, copies_among, copies_by, crew, has_causes, is_drained, is_wished, ordered_causes}
use Rattle.bal_rules.specs.PartialEvents.{is_marked, names_kept, names_marked}
use Rattle.bal_told.specs.Telling.{causes_of, how_of, told_as, told_by}
use Rattle.bal_told.specs.Whole.{IsWhole}
use Rattle.bal_told.proofs.Lists.{each-passes, sum-filter, sum-none, sum-of_map, sum-same}
use Rattle.bal_told.proofs.Numbers.{each-place, passed-places, place-in, places_from}
use Rattle.bal_told.proofs.Survivors.{IsSurvivor, each-survivor, is-told, sum-by_none, sum-by_one}

-- The causes of these workers' wishes, and of the pool if it is drained.
abbrev causes_with : List ℕ → Bool → List Abort
causes_with ns drained = map abort.Wished ns ++ (if drained then abort.Drained ∷ [] else [])

any-wished : (w : ℕ) (ns : List ℕ) (drained : Bool) → list_any (is_wished w) (causes_with ns drained) ≡ is_in w ns
any-wished w [] true = refl
any-wished w [] false = refl
any-wished w (n ∷ ns) drained = ap (λ t. (n == w) || t) (any-wished w ns drained)

any-drained : (ns : List ℕ) (drained : Bool) → list_any is_drained (causes_with ns drained) ≡ drained
any-drained [] true = refl
any-drained [] false = refl
any-drained (n ∷ ns) drained = any-drained ns drained

some-cause : (w : ℕ) (ns : List ℕ) (drained : Bool) → IsTrue drained ⊎ IsTrue (is_in w ns) → IsTrue (has_causes (causes_with ns drained))
some-cause w [] drained (inl h) = ap (λ t. has_causes (causes_with [] t)) h
some-cause w [] drained (inr h) = absurd (false≢true h)
some-cause w (n ∷ ns) drained h = refl

each-cause : (P : Abort → Type 0) (ns : List ℕ) (drained : Bool) → AllByRecursion (λ (n : ℕ). P (abort.Wished n)) ns
    → (drained ≡ true → P abort.Drained)
    → AllByRecursion P (causes_with ns drained)
each-cause P ns drained wishes dry =
    each-append P (map abort.Wished ns) (if drained then abort.Drained ∷ [] else [])
    (each-map (λ (n : ℕ). P (abort.Wished n)) P abort.Wished (λ n h. h) ns wishes) (by drained dry)
  where
    by : (t : Bool) → (t ≡ true → P abort.Drained) → AllByRecursion P (if t then abort.Drained ∷ [] else [])
    by true h = (h refl, tt)
    by false h = tt

-- a count that leaves out one of a list is lower than the list is long
count-all : {X : Type 0} (f : X → ℕ) (xs : List X) → ((x : X) → f x ≤ 1) → sum_by f xs ≤ length xs
count-all f [] most = omega arith
count-all f (x ∷ xs) most =
    let more = sum_by-cons f x xs in
    let one : f x ≤ 1 = most x in
    let rest : sum_by f xs ≤ length xs = count-all f xs most in
    omega (arith, more, one, rest)

count-short : {X : Type 0} (f : X → ℕ) (xs : List X) (i : ℕ) (x : X) → ((y : X) → f y ≤ 1) → i < length xs → get_or xs i x ≡ x → f x ≡ 0
    → sum_by f xs < length xs
count-short f [] i x most less is none = absurd (omega (arith, less))
count-short f (y ∷ xs) zero x most less is none =
    let more = sum_by-cons f y xs in
    let first : f y ≡ 0 = ap f is ∙ none in
    let rest : sum_by f xs ≤ length xs = count-all f xs most in
    omega (arith, more, first, rest)
count-short f (y ∷ xs) (suc i) x most less is none =
    let more = sum_by-cons f y xs in
    let one : f y ≤ 1 = most y in
    let rest : sum_by f xs < length xs = count-short f xs i x most (omega (arith, less)) is none in
    omega (arith, more, one, rest)

module _ (c : Config) (b : Board) (chosen : List ℕ) (e : Evacuation) (kept : List Kept) (whole : IsWhole c b chosen e kept) where
  -- Copies by worker.

  -- one for a copy of the worker
  counted : ℕ → Kept → ℕ
  counted n k = cond (not (is_marked k.how)) (cond (k.worker == n) 1 0) 0

  counted-own : (n k : ℕ) (d : Decision) → counted n (told_as e.world.shape e.world.names n (told k d)) ≡ one_if_copied d
  unfolding counted
  counted-own n k decision.Marked = refl
  counted-own n k (decision.Copied a) = ap (λ t. cond t 1 0) (eq-eqb n n refl)

  counted-other : (n m k : ℕ) (d : Decision) → (m ≡ n → ⊥) → counted n (told_as e.world.shape e.world.names m (told k d)) ≡ 0
  unfolding counted
  counted-other n m k decision.Marked other = refl
  counted-other n m k (decision.Copied a) other = ap (λ t. cond t 1 0) (ne_eqb m n other)

  marked-none : (n m k : ℕ) → counted n (told_as e.world.shape e.world.names m (told k decision.Marked)) ≡ 0
  unfolding counted
  marked-none n m k = refl

  counted-few : (n : ℕ) (k : Kept) → counted n k ≤ 1
  unfolding counted
  counted-few n k = by (not (is_marked k.how)) (k.worker == n)
    where
      by : (t u : Bool) → cond t (cond u 1 0) 0 ≤ 1
      by true true = omega arith
      by true false = omega arith
      by false u = omega arith

  counts-copies : (n : ℕ) → copies_by kept n ≡ sum_by (counted n) kept
  unfolding counted
  counts-copies n =
      length-filter (λ (k : Kept). k.worker == n) (copies_among kept)
      ∙ sum-filter (λ (k : Kept). cond (k.worker == n) 1 0) (λ (k : Kept). not (is_marked k.how)) kept

  others-none : (n m : ℕ) → (m ≡ n → ⊥) → sum_by (counted n) (told_by e m) ≡ 0
  others-none n m other =
      sum-of_map (counted n) (told_as e.world.shape e.world.names m) (won_by e m)
      ∙ sum-none (λ (t : Told). counted n (told_as e.world.shape e.world.names m t)) (won_by e m) (λ i t at. counted-other n m t.object t.decision other)

  pub same-copies : (n : ℕ) → copies_by kept n ≡ finished.copies_by e n
  same-copies n = counts-copies n ∙ elim (cases_lt n (length e.won)) [
    | inl less ↦
        sum-by_one c b chosen e kept whole (counted n) n less (others-none n)
        ∙ sum-same (λ (t : Told). counted n (told_as e.world.shape e.world.names n t)) (λ (t : Told). one_if_copied t.decision) (won_by e n)
        (λ i t at. counted-own n t.object t.decision)
    | inr past ↦
        sum-by_none c b chosen e kept whole (counted n) (λ m less. others-none n m (λ same. omega (arith, same, less, past)))
        ∙ ap (λ (l : List Told). sum_by (λ (t : Told). one_if_copied t.decision) l) (sym (get_or_past e.won n [] past))
  ]

  pub limit-kept : (n : ℕ) → KeepsLimit c.abort_after (copies_by kept n)
  limit-kept n = by c.abort_after refl
    where
      by : (limit : Option ℕ) → c.abort_after ≡ limit → KeepsLimit limit (copies_by kept n)
      by None is = tt
      by (Some most) is =
          let few : finished.copies_by e n ≤ most = whole.limit.copied n most is in
          let same : copies_by kept n ≡ finished.copies_by e n = same-copies n in
          omega (arith, few, same)

  -- Wishes.

  -- once the abort is raised the list is longer than what any worker copied
  longer : IsAborted e → (n : ℕ) → copies_by kept n < length kept
  longer aborted n =
      let marked = whole.leaves.marked aborted in
      let k : Kept = told_as e.world.shape e.world.names marked.0 (told marked.2 decision.Marked) in
      let there : Contains kept k = is-told c b chosen e kept whole marked.0 marked.1 (told marked.2 decision.Marked) marked.3 in
      let short : sum_by (counted n) kept < length kept
      = count-short (counted n) kept there.0 k (counted-few n) there.1 there.2 (marked-none n marked.0 marked.2) in
      let same : copies_by kept n ≡ sum_by (counted n) kept = counts-copies n in
      omega (arith, short, same)

  pub is-wish : (n : ℕ) → At e.wished n true → IsWish c.abort_after (copies_by kept n) (length kept)
  is-wish n at =
      subst (λ (limit : Option ℕ). IsWish limit (copies_by kept n) (length kept)) (sym (whole.limit.wished n at)) (same-copies n, limit)
    where
      limit : finished.copies_by e n < length kept
      limit =
          let same : copies_by kept n ≡ finished.copies_by e n = same-copies n in
          let more : copies_by kept n < length kept = longer (inr (n, at)) n in
          omega (arith, same, more)

  -- The fields of the rules.

  pub each-is_cause : (e.drained ≡ true → IsDrained c b chosen kept) → AllByRecursion (IsCause c b chosen (length kept) kept) (causes_of e)
  each-is_cause dry =
      each-cause (IsCause c b chosen (length kept) kept) (places_from 0 e.wished) e.drained
      (each-place (λ (n : ℕ). IsWish c.abort_after (copies_by kept n) (length kept)) 0 e.wished
      (λ i at. subst (λ (n : ℕ). IsWish c.abort_after (copies_by kept n) (length kept)) (omega arith) (is-wish i at))) dry

  abbrev wishes : List ℕ
  wishes = places_from 0 e.wished

  pub in-order : causes_of e ≡ ordered_causes (crew c b chosen) (causes_of e)
  in-order =
      ap₂ causes_with
      (sym (filter_agree (λ w. list_any (is_wished w) (causes_of e)) (λ w. is_in w wishes) (λ w. any-wished w wishes e.drained)
      (range_with_len 0 (crew c b chosen))
      ∙ passed-places (λ w. is_in w wishes) 0 (crew c b chosen) e.wished back there))
      (sym (any-drained wishes e.drained))
    where
      back : (i : ℕ) → IsTrue (is_in (0 + i) wishes) → At e.wished i true
      back i h =
          subst (λ j. At e.wished j true) (omega arith)
          (each-in (λ (j : ℕ). At e.wished j true) (places_from 0 e.wished) (0 + i)
          (each-place (λ (j : ℕ). At e.wished j true) 0 e.wished (λ j at. subst (λ l. At e.wished l true) (omega arith) at)) h)

      there : (i : ℕ) → At e.wished i true → IsTrue (is_in (0 + i) wishes) × (i < crew c b chosen)
      there i at =
          let less : i < length e.won = whole.evacuated.causes.wished i at in
          let most : length e.won ≤ crew c b chosen = whole.most in
          (place-in 0 e.wished i at, omega (arith, less, most))

  -- what is marked
  is-marked : (k : Kept) → IsSurvivor e k → IsTrue (is_marked k.how) → IsAborted e
  is-marked k s marked = by s.told.object s.told.decision s.won (subst (λ (l : Kept). IsTrue (is_marked l.how)) s.is marked)
    where
      by : (o : ℕ) (d : Decision) → Survives e k.worker s.place o d → IsTrue (is_marked (how_of e.world.shape d)) → IsAborted e
      by o decision.Marked here h = whole.evacuated.causes.marked k.worker s.place o here
      by o (decision.Copied a) here h = absurd (false≢true h)

  aborted-for : IsAborted e → IsTrue (has_causes (causes_of e))
  aborted-for (inl drained) = some-cause 0 (places_from 0 e.wished) e.drained (inl drained)
  aborted-for (inr wished) = some-cause (0 + wished.0) (places_from 0 e.wished) e.drained (inr (place-in 0 e.wished wished.0 wished.1))

  pub for-a_cause : IsTrue (is_empty (names_marked kept) || has_causes (causes_of e))
  for-a_cause = by (filter (λ k. is_marked k.how) kept) refl
      (each-filter (IsSurvivor e) (λ k. is_marked k.how) kept (each-survivor c b chosen e kept whole)) (each-passes (λ k. is_marked k.how) kept)
    where
      by : (ks : List Kept) → ks ≡ filter (λ k. is_marked k.how) kept → AllByRecursion (IsSurvivor e) ks
          → AllByRecursion (λ (k : Kept). IsTrue (is_marked k.how)) ks
          → IsTrue (is_empty (names_kept ks) || has_causes (causes_of e))
      by [] is all marked = refl
      by (k ∷ ks) is all marked = aborted-for (is-marked k all.0 marked.0)
