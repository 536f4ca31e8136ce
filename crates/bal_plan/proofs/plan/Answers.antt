use Rattle.std.proofs.Common.{◌≡◌, ℕ, ◌*◌, ◌++◌, ◌∙◌, length, map, ap, arith, refl, subst, sym}
use Rattle.std.specs.Prelude.{unwrap_or}
use Rattle.std.proofs.lemmas.List.{append-nil, length-replicate}
use Rattle.bal_layout.specs.Shape.{Shape}
use Rattle.bal_table.specs.Moves.{Forwarding, moved_to}
use Rattle.bal_table.proofs.Lemmas.{moved-none}
use Rattle.bal_plan.specs.declared.Cursor.{Cursor}
use Rattle.bal_plan.specs.Plan.{packed_as, starts_below}
use Rattle.bal_plan.specs.Planning.{IsPlannedTo}
use Rattle.bal_plan.proofs.Planned.{planned-all, planned-none}
use Rattle.bal_plan.proofs.plan.Goals as goal

pub loop-region-init : goal.loop-region-init
loop-region-init c =
    let t = c.args.table.now in
    let table = c.geometry-geometry.ensures.limits in
    let moves = c.clear.new.self in
    let words = length c.args.moves.now.words in
    let list = c.args.packed.now.list in
    let zero : 0 ≡ 0 * t.shape.words = omega arith in
    let start : Cursor = record { next = 0; end = c.words.result } in
    let stays : (a : ℕ) → moved_to moves a ≡ a =
    λ a. ap (λ (m : Forwarding). moved_to m a) c.clear.ensures ∙ ap (λ o. unwrap_or o a) (moved-none words a) in
    record {
      plan = subst (λ n. IsPlannedTo t (moved_to moves) n start) zero
          (planned-none t table (moved_to moves) start stays refl (c.words.ensures.number ∙ ap (λ (s : Shape). s.words) c.geometry-geometry.ensures.shape));
      told = subst (λ n. list ≡ list ++ map (packed_as t (moved_to moves)) (starts_below t n)) zero (sym (append-nil list));
      heap = ap (λ (m : Forwarding). length m.words) c.clear.ensures ∙ (length-replicate words 0 ∙ c.requires.heap);
      room = refl;
    }

pub returns-clause-plan : goal.returns-clause-plan
returns-clause-plan c =
    let t = c.args.table.now in
    let end : c.loop-region.region ≡ t.shape.regions =
    omega (arith, c.loop-region-test.false, c.loop-region.auto.region-end, c.regions-region-end.ensures.number, ap (λ (s : Shape). s.regions) c.geometry-geometry.ensures.shape) in
    planned-all t c.geometry-geometry.ensures.limits (moved_to c.loop-region.moves) c.loop-region.cursor
    (subst (λ k. IsPlannedTo t (moved_to c.loop-region.moves) (k * t.shape.words) c.loop-region.cursor) end c.loop-region.invariant.plan)
