use Rattle.std.proofs.Common.{◌≡◌, ◌+◌, ◌*◌, ◌<◌, ◌∙◌, ap, arith, subst, sym}
use Rattle.bal_layout.specs.Shape.{Shape}
use Rattle.bal_table.specs.Moves.{moved_to}
use Rattle.bal_plan.specs.Plan.{words_at}
use Rattle.bal_plan.specs.Planning.{IsPlannedTo, with_room}
use Rattle.bal_plan.proofs.Planned.{IsPlace, place, planned-next}
use Rattle.bal_plan.proofs.Sizes.{IsSized, sized}
use Rattle.bal_plan.proofs.plan_object.Goals as goal
use Rattle.bal_plan.proofs.plan_object.Goals.{After-room_for-place}

-- what the object takes
size : (c : After-room_for-place) → IsSized c.args.table.now c.args.address
size c = sized c.args.table.now c.args.address c.geometry-geometry.ensures.limits c.requires.object

-- and where it goes
there : (c : After-room_for-place)
    → IsPlace c.args.table.now c.geometry-geometry.ensures.limits (moved_to c.args.moves.now) c.args.address c.args.cursor c.requires.plan c.requires.object c.room_for-place.result
there c =
    let t = c.args.table.now in
    let words = c.words.ensures.number ∙ ap (λ (s : Shape). s.words) c.geometry-geometry.ensures.shape in
    let room : with_room t.shape.words c.args.cursor (words_at t c.args.address) ≡ c.room_for-place.result =
    sym (c.room_for-place.ensures
    ∙ (ap (λ n. with_room n c.args.cursor c.words_at-words.result) words ∙ ap (with_room t.shape.words c.args.cursor) c.words_at-words.ensures)) in
    subst (IsPlace t c.geometry-geometry.ensures.limits (moved_to c.args.moves.now) c.args.address c.args.cursor c.requires.plan c.requires.object) room
    (place t c.geometry-geometry.ensures.limits (moved_to c.args.moves.now) c.args.address c.args.cursor c.requires.plan c.requires.object)

pub room_for-place-requires-clause-next : goal.room_for-place-requires-clause-next
room_for-place-requires-clause-next c =
    let t = c.args.table.now in
    let table = c.geometry-geometry.ensures.limits in
    let s = sized t c.args.address table c.requires.object in
    omega (
      arith,
      c.words_at-words.ensures,
      s.address,
      s.small,
      table.shape.words_in_all,
      table.shape.most_words,
      c.requires.plan.behind c.args.address c.requires.object (omega arith),
    )

pub set_place-requires-clause-from : goal.set_place-requires-clause-from
set_place-requires-clause-from c = omega (arith, (size (goal.at.set_place-requires-clause-from c).After-room_for-place).address, c.requires.heap)

pub set_place-requires-clause-to : goal.set_place-requires-clause-to
set_place-requires-clause-to c = omega (arith, (size (goal.at.set_place-requires-clause-to c).After-room_for-place).address, (there (goal.at.set_place-requires-clause-to c).After-room_for-place).down, c.requires.heap)

pub region_of-requires : goal.region_of-requires
region_of-requires c =
    let place = c.room_for-place.result.next in
    subst (λ (s : Shape). place < s.regions * s.words) (sym c.geometry-geometry.ensures.shape) (omega (arith, (size (goal.at.region_of-requires c).After-room_for-place).address, (there (goal.at.region_of-requires c).After-room_for-place).down))

pub overflow_add-result : goal.overflow_add-result
overflow_add-result c =
    let s = size (goal.at.overflow_add-result c).After-room_for-place in
    let table = c.geometry-geometry.ensures.limits in
    omega (arith, c.words_at-words.ensures, s.address, s.small, (there (goal.at.overflow_add-result c).After-room_for-place).down, table.shape.words_in_all, table.shape.most_words)

pub returns-clause-plan : goal.returns-clause-plan
returns-clause-plan c =
    let t = c.args.table.now in
    let d = c.room_for-place.result in
    subst (λ n. IsPlannedTo t (moved_to c.set_place.new.moves) (c.args.address + 1) (record { next = d.next + n; end = d.end })) (sym c.words_at-words.ensures)
    (planned-next t c.geometry-geometry.ensures.limits (moved_to c.args.moves.now) c.args.address c.args.cursor c.requires.plan c.requires.object d (there (goal.at.returns-clause-plan c).After-room_for-place)
    (moved_to c.set_place.new.moves) c.set_place.ensures.own c.set_place.ensures.others)
