use Rattle.std.proofs.Common.{◌≡◌, ◌+◌, ◌*◌, ◌∙◌, ap, arith, sym}
use Rattle.bal_compact.specs.Packing.{IsMovedTo}
use Rattle.bal_compact.proofs.Packs.{moved-none, same-end, to-end}
use Rattle.bal_layout.specs.Shape.{Shape}
use Rattle.bal_plan.specs.Plan.{words_into}
use Rattle.bal_table.specs.Moves.{moved_to}
use Rattle.bal_compact.proofs.packing.pack.Goals as goal
use Rattle.bal_compact.proofs.packing.pack.Goals.{After-move_region-words}

pub loop-region-init : goal.loop-region-init
loop-region-init c = record {
  moved = moved-none c.args.table.now (moved_to c.args.moves.now) c.set_current.new.self c.requires.may c.set_current.ensures c.geometry.ensures.limits
      (0 * c.set_current.new.self.shape.words) (omega arith);
  shape = c.requires.shape;
}

pub move_region-words-requires-clause-within : goal.move_region-words-requires-clause-within
move_region-words-requires-clause-within c = omega (
  arith,
  c.loop-region-test.true,
  c.regions-region-end.ensures.number,
  ap (λ (s : Shape). s.regions) c.geometry.ensures.shape,
  ap (λ t. t.shape.regions) c.set_current.ensures,
  ap (λ (s : Shape). s.regions) c.loop-region.invariant.moved.shape,
)

pub move_region-words-requires-clause-moving : goal.move_region-words-requires-clause-moving
move_region-words-requires-clause-moving c = (c.args.table.now, c.loop-region.invariant.moved)

-- the region's objects have moved
moved : (c : After-move_region-words) → IsMovedTo c.args.table.now c.move_region-words.new.table (moved_to c.args.moves.now) c.loop-region.region
    ((c.loop-region.region + 1) * c.move_region-words.new.table.shape.words)
moved c = same-end c.args.table.now c.move_region-words.new.table (moved_to c.args.moves.now) c.loop-region.region (c.loop-region.region + 1) c.loop-region.table.shape
    c.loop-region.invariant.moved.shape (c.move_region-words.ensures.moving c.args.table.now c.loop-region.invariant.moved)

pub leave_region-requires-clause-within : goal.leave_region-requires-clause-within
leave_region-requires-clause-within c = omega (
  arith,
  c.loop-region-test.true,
  c.regions-region-end.ensures.number,
  ap (λ (s : Shape). s.regions) c.geometry.ensures.shape,
  ap (λ t. t.shape.regions) c.set_current.ensures,
  ap (λ (s : Shape). s.regions) (moved (goal.at.leave_region-requires-clause-within c).After-move_region-words).shape,
)

pub leave_region-requires-clause-shape : goal.leave_region-requires-clause-shape
leave_region-requires-clause-shape c =
    c.loop-region.invariant.shape ∙ sym (moved (goal.at.leave_region-requires-clause-shape c).After-move_region-words).shape

pub leave_region-requires-clause-moved : goal.leave_region-requires-clause-moved
leave_region-requires-clause-moved c =
    let m = moved (goal.at.leave_region-requires-clause-moved c).After-move_region-words in
    let to = moved_to c.args.moves.now in
    let q = c.loop-region.region in (
      c.args.table.now,
      to,
      m,
      c.move_region-words.ensures.words c.args.table.now c.loop-region.invariant.moved
          ∙ ap (λ (s : Shape). words_into c.args.table.now to ((q + 1) * s.words) q) (c.loop-region.invariant.moved.shape ∙ sym m.shape),
    )

pub loop-region-preserved : goal.loop-region-preserved
loop-region-preserved c =
    let t = c.args.table.now in
    let to = moved_to c.args.moves.now in
    let q = c.loop-region.region in
    let m = moved (goal.at.loop-region-preserved c).After-move_region-words in
    let words : c.move_region-words.result ≡ words_into t to ((q + 1) * c.move_region-words.new.table.shape.words) q =
    c.move_region-words.ensures.words t c.loop-region.invariant.moved
    ∙ ap (λ (s : Shape). words_into t to ((q + 1) * s.words) q) (c.loop-region.invariant.moved.shape ∙ sym m.shape) in
    record {
      moved = same-end t c.leave_region.new.table to (q + 1) (q + 1) c.move_region-words.new.table.shape m.shape (c.leave_region.ensures.left t to m words);
      shape = c.leave_region.ensures.cards ∙ c.loop-region.invariant.shape;
    }

pub open_last-requires : goal.open_last-requires
open_last-requires c =
    let i = c.loop-region.invariant.moved in
    let end : c.loop-region.region ≡ c.loop-region.table.shape.regions = omega (
      arith,
      c.loop-region-test.false,
      c.loop-region.auto.region-end,
      c.regions-region-end.ensures.number,
      ap (λ (s : Shape). s.regions) c.geometry.ensures.shape,
      ap (λ t. t.shape.regions) c.set_current.ensures,
      ap (λ (s : Shape). s.regions) i.shape,
    ) in
    record {
      moved = (c.args.table.now, moved_to c.args.moves.now, to-end c.args.table.now c.loop-region.table (moved_to c.args.moves.now) c.loop-region.region i end, c.requires.last);
    }

pub returns-clause-packed : goal.returns-clause-packed
returns-clause-packed c =
    let i = c.loop-region.invariant.moved in
    let end : c.loop-region.region ≡ c.loop-region.table.shape.regions = omega (
      arith,
      c.loop-region-test.false,
      c.loop-region.auto.region-end,
      c.regions-region-end.ensures.number,
      ap (λ (s : Shape). s.regions) c.geometry.ensures.shape,
      ap (λ t. t.shape.regions) c.set_current.ensures,
      ap (λ (s : Shape). s.regions) i.shape,
    ) in
    c.open_last.ensures c.args.table.now (moved_to c.args.moves.now) (to-end c.args.table.now c.loop-region.table (moved_to c.args.moves.now) c.loop-region.region i end) c.requires.last
