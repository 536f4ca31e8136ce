-- No region is filled beyond its words.
use Rattle.std.proofs.Common.{◌≡◌, ◌+◌, ◌<◌, ◌≤◌, ◌-◌, ◌==◌, eqb, ℕ, zero, suc, inl, inr, Bool, true, false, List, [], ◌∷◌, length, take, get_or, refl, ap, sym, subst, ◌∙◌, arith}
use Rattle.std.specs.Prelude.{if◌then◌else◌}
use Rattle.std.specs.List.{AllByRecursion, IsDistinct, list_any}
use Rattle.std.proofs.Math.Nat.{suc-ne-zero}
use Rattle.std.proofs.lemmas.Bool.{cases_Bool, cases_lt, eqb-true, ne_eqb}
use Rattle.std.proofs.lemmas.List.{get_or_default, take_all, take_more}
use Rattle.std.proofs.lemmas.List.Sums.{sum_by-cons, sum_by_push}
use Rattle.std.proofs.lemmas.Map.Steps.{length-le_from_distinct_below}
use Rattle.std.proofs.lemmas.Option.{slice_get-get_or}
use Rattle.bal_layout.specs.Addresses.{offset_of, region_of}
use Rattle.bal_core.specs.declared.event.Decision.{Decision}
use Rattle.bal_core.specs.declared.event.Decision.TheVariants as decision
use Rattle.bal_core.specs.declared.row.Told.{Told}
use Rattle.bal_core.specs.declared.row.Drawn.{Drawn}
use Rattle.bal_core.specs.World.{At, IsWorld, Row, State, World, blank, row_of, size_of}
use Rattle.bal_core.specs.Steps.{told, used, words_put}
use Rattle.bal_core.specs.Core.{Fits, IsCore, dry_workers}
use Rattle.bal_core.proofs.Allowed.{any-at}
use Rattle.bal_core.proofs.Dry.{one_if_dry}

pub used-next : (w : World) (won : List Told) (region i : ℕ) (x : Told) → i < length won
    → used w region (take (i + 1) won) ≡ used w region (take i won) + words_put w region (get_or won i x).object (get_or won i x).decision
used-next w won region i x within =
    ap (used w region) (take_more won i x within) ∙ sum_by_push (λ t. words_put w region t.object t.decision) (take i won) (get_or won i x)

-- all copies of one worker fit
module _ (w : World) (draws : List Drawn) (won : List Told)
    (fits : (i k a : ℕ) → At won i (told k (decision.Copied a)) → Fits w draws won i k a) where
  words-more : (region i k : ℕ) (d : Decision) → At won i (told k d) → used w region (take i won) ≤ w.shape.words
      → used w region (take i won) + words_put w region k d ≤ w.shape.words
  words-more region i k decision.Marked at most = omega (arith, most)
  words-more region i k (decision.Copied a) at most = elim (cases_Bool (region_of w.shape a == region)) [
    | inl here ↦
        let f : Fits w draws won i k a = fits i k a at in
        let same : f.drawn.region ≡ region = sym f.region ∙ eqb-true _ _ here in
        let offset : offset_of w.shape a ≡ used w region (take i won) = f.offset ∙ ap (λ r. used w r (take i won)) same in
        let within : offset_of w.shape a + size_of w k ≤ w.shape.words = f.within in
        let put : words_put w region k (decision.Copied a) ≡ size_of w k = ap (λ b. if b then size_of w k else 0) here in
        omega (arith, offset, within, put)
    | inr elsewhere ↦
        let put : words_put w region k (decision.Copied a) ≡ 0 = ap (λ b. if b then size_of w k else 0) elsewhere in
        omega (arith, most, put)
  ]

  used-so-far : (region i : ℕ) → used w region (take i won) ≤ w.shape.words
  used-so-far region zero = omega arith
  used-so-far region (suc i) = elim (cases_lt i (length won)) [
    | inl less ↦
        let x : Told = get_or won i (told 0 decision.Marked) in
        let next : suc i ≡ i + 1 = omega arith in
        let more : used w region (take (i + 1) won) ≡ used w region (take i won) + words_put w region x.object x.decision
        = used-next w won region i (told 0 decision.Marked) less in
        let most : used w region (take i won) + words_put w region x.object x.decision ≤ w.shape.words
        = words-more region i x.object x.decision (slice_get-get_or won i (told 0 decision.Marked) less) (used-so-far region i) in
        subst (λ j. used w region (take j won) ≤ w.shape.words) (sym next) (omega (arith, more, most))
    | inr past ↦
        subst (λ l. used w region l ≤ w.shape.words) (take_all i won past ∙ sym (take_all (suc i) won (omega (arith, past)))) (used-so-far region i)
  ]

  pub used-within : (region : ℕ) → used w region won ≤ w.shape.words
  used-within region = subst (λ l. used w region l ≤ w.shape.words) (take_all (length won) won (omega arith)) (used-so-far region (length won))

-- How often a region may be drawn.

-- a number that stands in a list has a place there
in-at : (q : ℕ) (xs : List ℕ) → list_any (eqb q) xs ≡ true → (i : ℕ) × At xs i q
in-at q xs any =
    let at = any-at (eqb q) xs any in
    (at.0, subst (At xs at.0) (sym (eqb-true q at.1 at.3)) at.2)

-- numbers that have one place each are distinct
AreSingle : List ℕ → Type 0
AreSingle xs = (i j q : ℕ) → At xs i q → At xs j q → i ≡ j

apart-first : (x : ℕ) (xs ys : List ℕ) → ((i : ℕ) → At ys i x → ⊥) → ((i q : ℕ) → At xs i q → (j : ℕ) × At ys j q) → AllByRecursion (λ y. eqb x y ≡ false) xs
apart-first x [] ys none within = tt
apart-first x (y ∷ xs) ys none within = (
  ne_eqb x y (λ same. let at = within zero y refl in none at.0 (subst (At ys at.0) (sym same) at.1)),
  apart-first x xs ys none (λ i q at. within (suc i) q at),
)

distinct-places : (xs : List ℕ) → AreSingle xs → IsDistinct eqb xs
unfolding AreSingle IsDistinct
distinct-places [] single = tt
distinct-places (x ∷ xs) single = (
  apart-first x xs xs (λ i at. suc-ne-zero i (single (suc i) zero x at refl)) (λ i q at. (i, at)),
  distinct-places xs (λ i j q one two. suc_same i j (single (suc i) (suc j) q one two)),
)
  where
    suc_same : (i j : ℕ) → suc i ≡ suc j → i ≡ j
    suc_same i j same = omega (arith, same)

-- a pool has no more regions than the heap
pub few-regions : (w : World) → IsWorld w → length w.pool ≤ w.shape.regions
unfolding AreSingle
few-regions w is =
    length-le_from_distinct_below w.pool w.shape.regions (distinct-places w.pool is.distinct)
    (λ q any. let at = in-at q w.pool any in is.regions at.0 q at.1)

few-dry : (crew : List Row) → dry_workers crew ≤ length crew
few-dry [] = omega arith
few-dry (row ∷ crew) = by row.dry refl (few-dry crew) (sum_by-cons one_if_dry row crew)
  where
    by : (b : Bool) → row.dry ≡ b → dry_workers crew ≤ length crew → dry_workers (row ∷ crew) ≡ one_if_dry row + dry_workers crew
        → dry_workers (row ∷ crew) ≤ length (row ∷ crew)
    by true is few sum = let one : one_if_dry row ≡ 1 = ap (λ b. if b then 1 else 0) is in omega (arith, one, few, sum)
    by false is few sum = let none : one_if_dry row ≡ 0 = ap (λ b. if b then 1 else 0) is in omega (arith, none, few, sum)

pub few-draws : (s : State) → IsCore s → s.counter ≤ 2079
few-draws s core =
    let pool : length s.world.pool ≤ s.world.shape.regions = few-regions s.world core.world in
    let regions : s.world.shape.regions ≤ 2047 = core.world.shape.most_regions in
    let dry : dry_workers s.crew ≡ s.counter - length s.world.pool = core.drained.dry in
    let crew : dry_workers s.crew ≤ length s.crew = few-dry s.crew in
    let most : length s.crew ≤ 32 = core.most in
    omega (arith, pool, regions, dry, crew, most)

-- no worker fills a region beyond its words
pub few-words : (s : State) (n region : ℕ) → IsCore s → used s.world region (row_of s n).won ≤ 65536
few-words s n region core =
    let most : used s.world region (row_of s n).won ≤ s.world.shape.words
    = used-within s.world (row_of s n).drawn (row_of s n).won (core.packed.fits n) region in
    let words : s.world.shape.words ≤ 65536 = core.world.shape.most_words in
    omega (arith, most, words)

pub few-words-in : (s : State) (n region : ℕ) (row : Row) → IsCore s → n < length s.crew → row ≡ get_or s.crew n row → used s.world region row.won ≤ 65536
few-words-in s n region row core within is =
    subst (λ (r : Row). used s.world region r.won ≤ 65536) (get_or_default s.crew n blank row within ∙ sym is) (few-words s n region core)
