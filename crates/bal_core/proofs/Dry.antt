-- How many workers were given no region.
use Rattle.std.proofs.Common.{◌≡◌, ◌⊎◌, ◌+◌, ◌-◌, ◌<◌, ◌≤◌, ℕ, inl, inr, true, false, IsTrue, List, length, get_or, set, ap, sym, subst, ◌∙◌, arith}
use Rattle.std.specs.Prelude.{if◌then◌else◌}
use Rattle.std.proofs.lemmas.List.Sums.{get_or-le-sum_by, sum_by-set}
use Rattle.bal_core.specs.World.{Row, State, World, blank, row_of}
use Rattle.bal_core.specs.Core.{IsDrained, dry_workers}

abbrev pub one_if_dry : Row → ℕ
one_if_dry row = if row.dry then 1 else 0

pub dry-same : (crew : List Row) (n : ℕ) (row : Row) → n < length crew → row.dry ≡ (get_or crew n blank).dry → dry_workers (set crew n row) ≡ dry_workers crew
dry-same crew n row within same =
    let sums : dry_workers (set crew n row) + one_if_dry (get_or crew n blank) ≡ dry_workers crew + one_if_dry row
    = sum_by-set one_if_dry crew n row blank within in
    let own : one_if_dry row ≡ one_if_dry (get_or crew n blank) = ap (λ b. if b then 1 else 0) same in
    omega (arith, sums, own)

pub dry-more : (crew : List Row) (n : ℕ) (row : Row) → n < length crew → row.dry ≡ true → (get_or crew n blank).dry ≡ false
    → dry_workers (set crew n row) ≡ dry_workers crew + 1
dry-more crew n row within now before =
    let sums : dry_workers (set crew n row) + one_if_dry (get_or crew n blank) ≡ dry_workers crew + one_if_dry row
    = sum_by-set one_if_dry crew n row blank within in
    let own : one_if_dry row ≡ 1 = ap (λ b. if b then 1 else 0) now in
    let old : one_if_dry (get_or crew n blank) ≡ 0 = ap (λ b. if b then 1 else 0) before in
    omega (arith, sums, own, old)

-- a worker was given none, so a draw came after the last region
pub dry-past : (s : State) (n : ℕ) → n < length s.crew → IsTrue (row_of s n).dry → IsDrained s → length s.world.pool < s.counter
dry-past s n within dry d =
    let most : one_if_dry (row_of s n) ≤ dry_workers s.crew = get_or-le-sum_by one_if_dry s.crew n blank within in
    let one : one_if_dry (row_of s n) ≡ 1 = ap (λ b. if b then 1 else 0) dry in
    let past : dry_workers s.crew ≡ s.counter - length s.world.pool = d.dry in
    omega (arith, most, one, past)

-- the counter stays
pub drained-same : (s t : State) → t.world ≡ s.world → t.counter ≡ s.counter → dry_workers t.crew ≡ dry_workers s.crew
    → (IsTrue t.drained → IsTrue s.drained ⊎ (length s.world.pool < s.counter)) → IsDrained s → IsDrained t
drained-same s t world counter dry drained d = record {
  dry =
      dry ∙ d.dry ∙ ap (λ (w : World). s.counter - length w.pool) (sym world) ∙ ap (λ c. c - length t.world.pool) (sym counter);
  drained = λ here. past (elim (drained here) [ inl before ↦ d.drained before | inr now ↦ now ]);
}
  where
    past : length s.world.pool < s.counter → length t.world.pool < t.counter
    past less = subst (λ (w : World). length w.pool < t.counter) (sym world) (subst (λ c. length s.world.pool < c) (sym counter) less)

-- it rises by one: by a region, or past the pool's end by a worker that was not dry
pub drained-next : (s t : State) → t.world ≡ s.world → t.counter ≡ s.counter + 1
    → ((s.counter < length s.world.pool) × (dry_workers t.crew ≡ dry_workers s.crew))
    ⊎ ((length s.world.pool ≤ s.counter) × (dry_workers t.crew ≡ dry_workers s.crew + 1))
    → t.drained ≡ s.drained → IsDrained s → IsDrained t
drained-next s t world counter cases same d = record { dry = dry cases; drained = λ here. past (d.drained (sym same ∙ here)) }
  where
    pool : length t.world.pool ≡ length s.world.pool
    pool = ap (λ (w : World). length w.pool) world

    dry : ((s.counter < length s.world.pool) × (dry_workers t.crew ≡ dry_workers s.crew))
        ⊎ ((length s.world.pool ≤ s.counter) × (dry_workers t.crew ≡ dry_workers s.crew + 1))
        → dry_workers t.crew ≡ t.counter - length t.world.pool
    dry (inl here) =
        let before : dry_workers s.crew ≡ s.counter - length s.world.pool = d.dry in
        omega (arith, before, pool, counter, here.0, here.1)
    dry (inr here) =
        let before : dry_workers s.crew ≡ s.counter - length s.world.pool = d.dry in
        omega (arith, before, pool, counter, here.0, here.1)

    past : length s.world.pool < s.counter → length t.world.pool < t.counter
    past less = omega (arith, less, pool, counter)
