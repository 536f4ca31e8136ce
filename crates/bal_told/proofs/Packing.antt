-- The workers of an evacuation shared it as the rules say.
use Rattle.std.proofs.Common.{ℕ, IsTrue, List, length}
use Rattle.std.specs.List.{range_with_len}
use Rattle.bal_layout.specs.Regions.{free_regions}
use Rattle.bal_core.specs.Finished.{Evacuation}
use Rattle.bal_model.specs.declared.config.Config.{Config}
use Rattle.bal_model.specs.declared.event.Kept.{Kept}
use Rattle.bal_rules.specs.Board.{Board}
use Rattle.bal_rules.specs.Packing.{IsPacking, KeepsLimit, copies_by, crew, is_one_worker, workers_into}
use Rattle.bal_told.specs.Telling.{causes_of}
use Rattle.bal_told.specs.Whole.{IsWhole}
use Rattle.bal_told.proofs.Buffers.{by-crew, one-worker, packed}
use Rattle.bal_told.proofs.Causes.{each-is_cause, for-a_cause, in-order, limit-kept}
use Rattle.bal_told.proofs.Lists.{each-from_at}
use Rattle.bal_told.proofs.Pool.{is-drained}

module _ (c : Config) (b : Board) (chosen : List ℕ) (e : Evacuation) (kept : List Kept) (whole : IsWhole c b chosen e kept) where
  pub is-packing : IsPacking c b chosen (length kept) kept (causes_of e)
  is-packing = record {
    by_the_crew = by-crew c b chosen e kept whole;
    one_worker = each-from_at (λ (q : ℕ). IsTrue (is_one_worker (workers_into kept q))) (free_regions b.regions) (λ i q at. one-worker c b chosen e kept whole q);
    packed = packed c b chosen e kept whole;
    marked_for_a_cause = for-a_cause c b chosen e kept whole;
    causes_in_order = in-order c b chosen e kept whole;
    each_cause = each-is_cause c b chosen e kept whole (is-drained c b chosen e kept whole);
    limit_kept = each-from_at (λ (w : ℕ). KeepsLimit c.abort_after (copies_by kept w)) (range_with_len 0 (crew c b chosen)) (λ i w at. limit-kept c b chosen e kept whole w);
  }
