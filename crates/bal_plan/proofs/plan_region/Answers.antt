use Rattle.std.proofs.Common.{◌≡◌, ℕ, ◌+◌, ◌*◌, ◌<◌, ◌≤◌, ◌++◌, ◌∙◌, List, [], ◌∷◌, length, map, None, Some, ap, arith, length-append, subst, sym}
use Rattle.bal_layout.specs.Addresses.{address_in}
use Rattle.bal_layout.specs.Shape.{Shape}
use Rattle.bal_model.specs.declared.event.Packed.{Packed}
use Rattle.bal_region.specs.Land.{Land, first_from}
use Rattle.bal_table.specs.Moves.{moved_to}
use Rattle.bal_table.specs.Table.{land_at}
use Rattle.bal_plan.specs.Plan.{IsObject, packed_as, starts_below}
use Rattle.bal_plan.specs.Planning.{IsPlannedTo}
use Rattle.bal_plan.proofs.Found.{count-found, found-inside, found-object, none-behind, none-between, none-left, region-ends, region-inside}
use Rattle.bal_plan.proofs.Planned.{planned-gap, told-next}
use Rattle.bal_plan.proofs.Starts.{starts-fewer, starts-gap}
use Rattle.bal_plan.proofs.plan_region.Goals as goal
use Rattle.bal_plan.proofs.plan_region.Goals.{After-address-address, In-Some, In_default}

-- the next object of the region starts there
next : (c : In-Some) → first_from (land_at c.args.table.now c.args.region) c.loop-offset.at ≡ Some c.in-Some.offset
next c = sym (c.in-Some.ensures.least ∙ ap (λ (l : Land). first_from l c.loop-offset.at) c.region.ensures)

inside : (c : In-Some) → c.in-Some.offset + 1 ≤ c.args.table.now.shape.words
inside c = omega (arith, found-inside c.args.table.now c.args.region c.loop-offset.at c.geometry-geometry.ensures.limits c.requires.within c.in-Some.offset (next c))

-- none starts before it
between : (c : In-Some) (a : ℕ) → c.args.region * c.args.table.now.shape.words + c.loop-offset.at ≤ a
    → a < address_in c.args.table.now.shape c.args.region c.in-Some.offset → IsObject c.args.table.now a → ⊥
between c = none-between c.args.table.now c.args.region c.loop-offset.at c.geometry-geometry.ensures.limits c.requires.within c.in-Some.offset (next c)

counted : (c : In-Some) → length (starts_below c.args.table.now (c.args.region * c.args.table.now.shape.words + (c.in-Some.offset + 1)))
    ≡ length (starts_below c.args.table.now (c.args.region * c.args.table.now.shape.words + c.loop-offset.at)) + 1
counted c = count-found c.args.table.now c.args.region c.loop-offset.at c.geometry-geometry.ensures.limits c.requires.within c.in-Some.offset (next c)

-- this is its address
place : (c : After-address-address) → address_in c.args.table.now.shape c.args.region c.in-Some.offset ≡ c.address-address.result
place c = sym (c.address-address.ensures.address ∙ ap (λ (s : Shape). address_in s c.args.region c.in-Some.offset) c.geometry-geometry.ensures.shape)

pub address-address-requires-clause-offset : goal.address-address-requires-clause-offset
address-address-requires-clause-offset c = omega (
  arith,
  inside (goal.at.address-address-requires-clause-offset c).In-Some,
  ap (λ (s : Shape). s.words) c.geometry-geometry.ensures.shape,
)

pub plan_object-cursor-requires-clause-object : goal.plan_object-cursor-requires-clause-object
plan_object-cursor-requires-clause-object c =
    let at = goal.at.plan_object-cursor-requires-clause-object c in
    subst (IsObject c.args.table.now) (place at.After-address-address)
    (found-object c.args.table.now c.args.region c.loop-offset.at c.geometry-geometry.ensures.limits c.requires.within c.in-Some.offset (next at.In-Some))

pub plan_object-cursor-requires-clause-room : goal.plan_object-cursor-requires-clause-room
plan_object-cursor-requires-clause-room c =
    let t = c.args.table.now in
    let q = c.args.region in
    let i = c.loop-offset.invariant in
    let at = goal.at.plan_object-cursor-requires-clause-room c in
    let o = c.in-Some.offset in
    omega (
      arith,
      c.requires.room,
      i.count,
      i.room,
      counted at.In-Some,
      starts-fewer t (q * t.shape.words + (o + 1)) (t.shape.regions * t.shape.words)
          (omega (arith, inside at.In-Some, region-inside t q c.loop-offset.at c.geometry-geometry.ensures.limits c.requires.within)),
    )

pub plan_object-cursor-requires-clause-plan : goal.plan_object-cursor-requires-clause-plan
plan_object-cursor-requires-clause-plan c =
    let t = c.args.table.now in
    let at = goal.at.plan_object-cursor-requires-clause-plan c in
    subst (λ a. IsPlannedTo t (moved_to c.loop-offset.moves) a c.loop-offset.cursor) (place at.After-address-address)
    (planned-gap t c.geometry-geometry.ensures.limits (moved_to c.loop-offset.moves) (c.args.region * t.shape.words + c.loop-offset.at)
    (address_in t.shape c.args.region c.in-Some.offset) c.loop-offset.cursor c.loop-offset.invariant.plan
    (omega (arith, c.in-Some.ensures.behind)) (between at.In-Some))

pub loop-offset-smaller : goal.loop-offset-smaller
loop-offset-smaller c = omega (arith, inside (goal.at.loop-offset-smaller c).In-Some, c.in-Some.ensures.behind)

pub loop-offset-preserved : goal.loop-offset-preserved
loop-offset-preserved c =
    let t = c.args.table.now in
    let q = c.args.region in
    let o = c.in-Some.offset in
    let low = q * t.shape.words + c.loop-offset.at in
    let a = c.address-address.result in
    let i = c.loop-offset.invariant in
    let at = goal.at.loop-offset-preserved c in
    let old = moved_to c.loop-offset.moves in
    let new = moved_to c.plan_object-cursor.new.moves in
    let object = subst (IsObject t) (place at.After-address-address)
    (found-object t q c.loop-offset.at c.geometry-geometry.ensures.limits c.requires.within o (next at.In-Some)) in
    let after : a + 1 ≡ q * t.shape.words + (o + 1) = omega (arith, place at.After-address-address) in
    let gap : starts_below t low ≡ starts_below t a = sym (ap (starts_below t) (sym (place at.After-address-address))
    ∙ starts-gap t low (address_in t.shape q o) (omega (arith, c.in-Some.ensures.behind)) (between at.In-Some)) in
    record {
      plan = subst (λ n. IsPlannedTo t new n c.plan_object-cursor.result) after c.plan_object-cursor.ensures.plan;
      told = λ before is. subst (λ n. c.plan_object-cursor.new.packed.list ≡ before ++ map (packed_as t new) (starts_below t n)) after
          (told-next t old new a before c.loop-offset.packed.list c.plan_object-cursor.new.packed.list object c.plan_object-cursor.ensures.others
          (i.told before is ∙ ap (λ (l : List ℕ). before ++ map (packed_as t old) l) gap) c.plan_object-cursor.ensures.told);
      heap = c.plan_object-cursor.ensures.heap ∙ i.heap;
      count = omega (
        arith,
        i.count,
        counted at.In-Some,
        ap (λ (l : List Packed). length l) c.plan_object-cursor.ensures.told,
        length-append c.loop-offset.packed.list (packed_as t new a ∷ []),
      );
      room = omega (
        arith,
        i.room,
        c.plan_object-cursor.ensures.room,
        ap (λ (l : List Packed). length l) c.plan_object-cursor.ensures.told,
        length-append c.loop-offset.packed.list (packed_as t new a ∷ []),
      );
      within = inside at.In-Some;
    }

-- none is found any more
none : (c : In_default) → first_from (land_at c.args.table.now c.args.region) c.loop-offset.at ≡ None
none c = sym (ap (λ (l : Land). first_from l c.loop-offset.at) c.region.ensures) ∙ (sym c.first_from.ensures.least ∙ c.in_default.is)

pub returns-clause-plan : goal.returns-clause-plan
returns-clause-plan c =
    let t = c.args.table.now in
    let q = c.args.region in
    let i = c.loop-offset.invariant in
    let table = c.geometry-geometry.ensures.limits in
    subst (λ n. IsPlannedTo t (moved_to c.loop-offset.moves) n c.loop-offset.cursor) (sym (region-ends t q c.loop-offset.at table c.requires.within))
    (planned-gap t table (moved_to c.loop-offset.moves) (q * t.shape.words + c.loop-offset.at) (q * t.shape.words + t.shape.words) c.loop-offset.cursor i.plan
    (omega (arith, i.within)) (none-behind t q c.loop-offset.at table c.requires.within (none c)))

pub returns-clause-told : goal.returns-clause-told
returns-clause-told c before is =
    let t = c.args.table.now in
    let i = c.loop-offset.invariant in
    i.told before is
    ∙ ap (λ (l : List ℕ). before ++ map (packed_as t (moved_to c.loop-offset.moves)) l)
    (sym (none-left t c.args.region c.loop-offset.at c.geometry-geometry.ensures.limits c.requires.within i.within (none c)))
