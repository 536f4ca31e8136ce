use Rattle.std.proofs.Common.{◌≡◌, ℕ, ◌+◌, ◌*◌, ◌≤◌, ◌∙◌, List, length, None, Some, ap, arith, sym}
use Rattle.bal_region.specs.Land.{Land, first_from}
use Rattle.bal_table.specs.Table.{land_at}
use Rattle.bal_plan.specs.Plan.{starts_below}
use Rattle.bal_plan.proofs.Found.{count-found, found-behind, found-inside, none-left, region-within}
use Rattle.bal_plan.proofs.Starts.{starts-few}
use Rattle.bal_plan.proofs.count_in.Goals as goal
use Rattle.bal_plan.proofs.count_in.Goals.{In-Some}

-- the next object of the region starts there
next : (c : In-Some) → first_from (land_at c.args.table.now c.args.region) c.loop-offset.at ≡ Some c.in-Some.offset
next c = sym (c.in-Some.ensures.least ∙ ap (λ (l : Land). first_from l c.loop-offset.at) c.region.ensures)

inside : (c : In-Some) → c.in-Some.offset + 1 ≤ c.args.table.now.shape.words
inside c = omega (arith, found-inside c.args.table.now c.args.region c.loop-offset.at c.geometry.ensures.limits c.requires c.in-Some.offset (next c))

-- and then it is counted too
counted : (c : In-Some) → length (starts_below c.args.table.now (c.args.region * c.args.table.now.shape.words + (c.in-Some.offset + 1)))
    ≡ length (starts_below c.args.table.now (c.args.region * c.args.table.now.shape.words + c.loop-offset.at)) + 1
counted c = count-found c.args.table.now c.args.region c.loop-offset.at c.geometry.ensures.limits c.requires c.in-Some.offset (next c)

pub overflow_add-count : goal.overflow_add-count
overflow_add-count c =
    let t = c.args.table.now in
    let q = c.args.region in
    omega (
      arith,
      c.loop-offset.invariant.count,
      counted c,
      inside c,
      starts-few t (q * t.shape.words + (c.in-Some.offset + 1)),
      region-within t q c.loop-offset.at c.geometry.ensures.limits c.requires,
    )

pub overflow_add-at : goal.overflow_add-at
overflow_add-at c = omega (arith, inside c, c.geometry.ensures.limits.shape.most_words)

pub loop-offset-smaller : goal.loop-offset-smaller
loop-offset-smaller c =
    omega (arith, inside c, found-behind c.args.table.now c.args.region c.loop-offset.at c.geometry.ensures.limits c.requires c.in-Some.offset (next c))

pub loop-offset-preserved : goal.loop-offset-preserved
loop-offset-preserved c = record { count = omega (arith, c.loop-offset.invariant.count, counted c); within = inside c }

pub returns : goal.returns
returns c =
    let i = c.loop-offset.invariant in
    let none : first_from (land_at c.args.table.now c.args.region) c.loop-offset.at ≡ None =
    sym (ap (λ (l : Land). first_from l c.loop-offset.at) c.region.ensures) ∙ (sym c.first_from.ensures.least ∙ c.in_default.is) in
    i.count ∙ sym (ap (λ (l : List ℕ). length l) (none-left c.args.table.now c.args.region c.loop-offset.at c.geometry.ensures.limits c.requires i.within none))
