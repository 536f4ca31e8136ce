-- The walk: what is decided stays, and what may be asked for.
use Rattle.std.proofs.Common.{◌≡◌, ◌⊎◌, ◌+◌, ◌<◌, ◌≤◌, ◌==◌, ℕ, inl, inr, Bool, true, false, List, length, get_or, Option, Some, None, refl, ap, sym, subst, ◌∙◌, arith}
use Rattle.std.specs.Prelude.{is_some, slice_get, ◌||◌}
use Rattle.std.specs.Option.{option_map}
use Rattle.std.specs.List.{list_any}
use Rattle.std.proofs.lemmas.Bool.{cases_lt, eq-eqb, false≢true}
use Rattle.std.proofs.lemmas.List.{get_or_past, length-map}
use Rattle.std.proofs.lemmas.Option.{none-some, same_Some, slice_get-get_or, slice_get_within}
use Rattle.bal_core.specs.declared.event.Decision.{Decision}
use Rattle.bal_core.specs.declared.event.Decision.TheVariants as decision
use Rattle.bal_core.specs.declared.row.Told.{Told}
use Rattle.bal_core.specs.Rest.{IsDecided}
use Rattle.bal_core.specs.Steps.{holds, leads_to, told}
use Rattle.bal_core.specs.World.{At, Graph, slots_in, word_of}
use Rattle.bal_core.proofs.Lemmas.{stays-all}
use Rattle.bal_evacuate.specs.Course.{Course, decision_of, state_of}
use Rattle.bal_evacuate.specs.Going.{Goes, HasDecided, HasScanned, IsAsked, IsGoing, IsUnderWay, open_words}
use Rattle.bal_evacuate.specs.Plan.{Plan, world_for}
use Rattle.bal_evacuate.proofs.Deciding.{goes-then}
use Rattle.bal_evacuate.proofs.Drawn.{any-from}

pub some-is : {X : Type 0} (o : Option X) → is_some o ≡ true → (x : X) × (o ≡ Some x)
some-is None is = absurd (false≢true is)
some-is (Some x) is = (x, refl)

pub going-on : (p : Plan) (g : Graph) (limit : Option ℕ) (c n : Course) → IsGoing p g limit c → Goes p c n → IsGoing p g limit n
going-on p g limit c n going goes = (going.0, going.1, goes.under, goes.settled)

-- what was decided stays decided
pub decided-on : (p : Plan) (c n : Course) (k : ℕ) → Goes p c n → HasDecided c k → HasDecided n k
decided-on p c n k goes has =
    let before : IsDecided (state_of (world_for p) c) k = some-is (decision_of c k) has in
    let now : word_of (state_of (world_for p) n) k ≡ Some before.0
    = ap (λ s. word_of s k) goes.events.1 ∙ stays-all goes.events.0 (state_of (world_for p) c) k before.0 before.1 in
    ap is_some now

pub scanned-on : (p : Plan) (g : Graph) (c n : Course) (j : ℕ) → Goes p c n → HasScanned g c j → HasScanned g n j
scanned-on p g c n j goes scanned = λ i k at. decided-on p c n k goes (scanned i k at)

-- the order of those that were decided before stays
pub won-before : (p : Plan) (c n : Course) (i : ℕ) (t : Told) → Goes p c n → i < length c.won → At n.won i t → At c.won i t
won-before p c n i t goes less at =
    let x : Told = get_or c.won i (told 0 decision.Marked) in
    let old : At c.won i x = slice_get-get_or c.won i (told 0 decision.Marked) less in
    subst (At c.won i) (same_Some x t (sym (goes.grows i x old) ∙ at)) old

-- no more are decided than there are
pub won-few : (p : Plan) (g : Graph) (limit : Option ℕ) (c : Course) → IsGoing p g limit c → length c.won ≤ length g.ages
won-few p g limit c going =
    let u : IsUnderWay p c = going.2 in
    let many : open_words c.words + length c.won ≡ length p.graph.ages = u.many in
    let same : length p.graph.ages ≡ length g.ages = ap (λ (x : Graph). length x.ages) going.0 in
    omega (arith, many, same)

-- What may be asked for.

or-second : (a b : Bool) → b ≡ true → (a || b) ≡ true
or-second true b is = refl
or-second false b is = is

pub root-asked : (p : Plan) (c : Course) (roots : List ℕ) (i k : ℕ) → p.roots ≡ roots → At roots i k → IsAsked p c k
root-asked p c roots i k same at =
    let any : list_any (λ r. r == k) p.roots ≡ true = any-from (λ r. r == k) p.roots i k (subst (λ l. At l i k) (sym same) at) (eq-eqb k k refl) in
    ap (λ b. b || list_any (leads_to (world_for p) k) c.won) any

pub target-asked : (p : Plan) (g : Graph) (c : Course) (i j s k : ℕ) (d : Decision) → p.graph ≡ g → At c.won i (told j d)
    → At (slots_in g.targets j) s (Some k) → IsAsked p c k
target-asked p g c i j s k d same won at =
    let here : At (slots_in p.graph.targets j) s (Some k) = subst (λ (x : Graph). At (slots_in x.targets j) s (Some k)) (sym same) at in
    or-second _ _ (any-from (leads_to (world_for p) k) c.won i (told j d) won (any-from (holds k) (slots_in p.graph.targets j) s (Some k) here (eq-eqb k k refl)))

-- a decided object is one of the graph's
pub won-within : (p : Plan) (g : Graph) (limit : Option ℕ) (c : Course) (i j : ℕ) (d : Decision) → IsGoing p g limit c → At c.won i (told j d) → j < length g.ages
won-within p g limit c i j d going at =
    let u : IsUnderWay p c = going.2 in
    let held : decision_of c j ≡ Some d = u.core.won.held 0 i j d at in
    let words : j < length c.words = elim (cases_lt j (length c.words)) [
      | inl less ↦ less
      | inr past ↦ absurd (none-some d (sym (get_or_past c.words j None past) ∙ held))
    ] in
    let size : length c.words ≡ length (world_for p).sizes = u.core.words in
    let sizes : length (world_for p).sizes ≡ length p.graph.ages = length-map p.graph.words length ∙ u.may.start.graph.words in
    let same : length p.graph.ages ≡ length g.ages = ap (λ (x : Graph). length x.ages) going.0 in
    omega (arith, words, size, sizes, same)

-- One step of a loop.

-- what stood at a place below the next one stood below this one, or at it
pub below-next : (i n : ℕ) → i < n + 1 → (i < n) ⊎ (i ≡ n)
below-next i n less = elim (cases_lt i n) [ inl before ↦ inl before | inr past ↦ inr (omega (arith, less, past)) ]

-- what passes at each place still passes, and at the next one too
pub next-decided : (p : Plan) (c m : Course) (n k : ℕ) (xs : List (Option ℕ)) → Goes p c m → At xs n (Some k) → HasDecided m k
    → ((i j : ℕ) → i < n → At xs i (Some j) → HasDecided c j) → (i j : ℕ) → i < n + 1 → At xs i (Some j) → HasDecided m j
next-decided p c m n k xs goes here has before i j less at = elim (below-next i n less) [
  | inl old ↦ decided-on p c m j goes (before i j old at)
  | inr same ↦
      let both : Some (Some k) ≡ Some (Some j) = sym here ∙ subst (λ a. At xs a (Some j)) same at in
      subst (HasDecided m) (same_Some k j (same_Some (Some k) (Some j) both)) has
]

pub next-root : (p : Plan) (c m : Course) (n k : ℕ) (xs : List ℕ) → Goes p c m → At xs n k → HasDecided m k
    → ((i j : ℕ) → i < n → At xs i j → HasDecided c j) → (i j : ℕ) → i < n + 1 → At xs i j → HasDecided m j
next-root p c m n k xs goes here has before i j less at = elim (below-next i n less) [
  | inl old ↦ decided-on p c m j goes (before i j old at)
  | inr same ↦ subst (HasDecided m) (same_Some k j (sym here ∙ subst (λ a. At xs a j) same at)) has
]

pub next-none : (c : Course) (n : ℕ) (xs : List (Option ℕ)) → At xs n None
    → ((i j : ℕ) → i < n → At xs i (Some j) → HasDecided c j) → (i j : ℕ) → i < n + 1 → At xs i (Some j) → HasDecided c j
next-none c n xs here before i j less at = elim (below-next i n less) [
  | inl old ↦ before i j old at
  | inr same ↦ absurd (none-some j (same_Some None (Some j) (sym here ∙ subst (λ a. At xs a (Some j)) same at)))
]

-- the object at a place of the order
pub told-at : (won : List Told) (place k : ℕ) → option_map (λ (t : Told). t.object) (slice_get won place) ≡ Some k
    → (d : Decision) × At won place (told k d)
told-at won place k is = by (slice_get won place) refl is
  where
    by : (o : Option Told) → slice_get won place ≡ o → option_map (λ (t : Told). t.object) o ≡ Some k → (d : Decision) × At won place (told k d)
    by None none is = absurd (none-some k is)
    by (Some t) some is = (t.decision, some ∙ ap (λ j. Some (told j t.decision)) (same_Some t.object k is))

pub told-none : (won : List Told) (place : ℕ) → option_map (λ (t : Told). t.object) (slice_get won place) ≡ None → length won ≤ place
told-none won place is = elim (cases_lt place (length won)) [
  | inl less ↦ absurd (none-some _ (sym is ∙ ap (option_map (λ (t : Told). t.object)) (slice_get-get_or won place (told 0 decision.Marked) less)))
  | inr past ↦ past
]

pub next-scanned : (p : Plan) (g : Graph) (c m : Course) (n k : ℕ) (d : Decision) → Goes p c m → At c.won n (told k d) → HasScanned g m k
    → ((i : ℕ) (t : Told) → i < n → At c.won i t → HasScanned g c t.object)
    → (i : ℕ) (t : Told) → i < n + 1 → At m.won i t → HasScanned g m t.object
next-scanned p g c m n k d goes here scanned before i t less at =
    let within : n < length c.won = slice_get_within c.won n (told k d) here in
    let old : At c.won i t = won-before p c m i t goes (omega (arith, less, within)) at in
    elim (below-next i n less) [
      | inl less ↦ scanned-on p g c m t.object goes (before i t less old)
      | inr same ↦ subst (λ (x : Told). HasScanned g m x.object) (same_Some (told k d) t (sym here ∙ subst (λ a. At c.won a t) same old)) scanned
    ]

-- the slots of an object so far: what they hold is decided
pub record IsScanning (g : Graph) (limit : Option ℕ) (c n : Course) (j slot : ℕ) : Type 0 where
  pub goes : (p : Plan) → IsGoing p g limit c → Goes p c n
  pub decided : (i k : ℕ) → i < slot → At (slots_in g.targets j) i (Some k) → HasDecided n k

-- the next slot's object was decided
module _ (g : Graph) (limit : Option ℕ) (c n : Course) (j slot : ℕ) (scanning : IsScanning g limit c n j slot) where
  pub scans-some : (m : Course) (k : ℕ) (d : Decision) (i : ℕ) → (p : Plan) → IsGoing p g limit c → At c.won i (told j d)
      → At (slots_in g.targets j) slot (Some k) → ((q : Plan) → IsGoing q g limit n → IsAsked q n k → Goes q n m) → HasDecided m k
      → IsScanning g limit c m j (slot + 1)
  scans-some m k d i p going won at goes has = record {
    goes = λ q going. goes-then q c n m (scanning.goes q going) (step q going);
    decided = next-decided p n m slot k (slots_in g.targets j) (step p going) at has scanning.decided;
  }
    where
      step : (q : Plan) → IsGoing q g limit c → Goes q n m
      step q going =
          goes q (going-on q g limit c n going (scanning.goes q going))
          (target-asked q g n i j slot k d going.0 ((scanning.goes q going).grows i (told j d) won) at)

  -- it holds none
  pub scans-none : At (slots_in g.targets j) slot None → IsScanning g limit c n j (slot + 1)
  scans-none at = record { goes = scanning.goes; decided = next-none n slot (slots_in g.targets j) at scanning.decided }

-- the roots so far
pub record IsRooting (g : Graph) (limit : Option ℕ) (roots : List ℕ) (c n : Course) (place : ℕ) : Type 0 where
  pub goes : (p : Plan) → IsGoing p g limit c → p.roots ≡ roots → Goes p c n
  pub decided : (i k : ℕ) → i < place → At roots i k → HasDecided n k

pub roots-next : (g : Graph) (limit : Option ℕ) (roots : List ℕ) (c n m : Course) (place k : ℕ) → IsRooting g limit roots c n place
    → (p : Plan) → IsGoing p g limit c → p.roots ≡ roots → At roots place k
    → ((q : Plan) → IsGoing q g limit n → IsAsked q n k → Goes q n m) → HasDecided m k → IsRooting g limit roots c m (place + 1)
roots-next g limit roots c n m place k rooting p going same at goes has = record {
  goes = λ q going same. goes-then q c n m (rooting.goes q going same) (step q going same);
  decided = next-root p n m place k roots (step p going same) at has rooting.decided;
}
  where
    step : (q : Plan) → IsGoing q g limit c → q.roots ≡ roots → Goes q n m
    step q going same = goes q (going-on q g limit c n going (rooting.goes q going same)) (root-asked q n roots place k same at)

-- the decided objects so far were scanned
pub record IsClosing (g : Graph) (limit : Option ℕ) (c n : Course) (place : ℕ) : Type 0 where
  pub goes : (p : Plan) → IsGoing p g limit c → Goes p c n
  pub within : place ≤ length n.won
  pub scanned : (i : ℕ) (t : Told) → i < place → At n.won i t → HasScanned g n t.object

pub closes-next : (g : Graph) (limit : Option ℕ) (c n m : Course) (place k : ℕ) (d : Decision) → IsClosing g limit c n place
    → (p : Plan) → IsGoing p g limit c → At n.won place (told k d)
    → ((q : Plan) → IsGoing q g limit n → Goes q n m) → HasScanned g m k → IsClosing g limit c m (place + 1)
closes-next g limit c n m place k d closing p going at goes scanned = record {
  goes = λ q going. goes-then q c n m (closing.goes q going) (step q going);
  within = (let less : place < length m.won = slice_get_within m.won place (told k d) ((step p going).grows place (told k d) at) in omega (arith, less));
  scanned = next-scanned p g n m place k d (step p going) at scanned closing.scanned;
}
  where
    step : (q : Plan) → IsGoing q g limit c → Goes q n m
    step q going = goes q (going-on q g limit c n going (closing.goes q going))
