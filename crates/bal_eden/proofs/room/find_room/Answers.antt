use Rattle.std.proofs.Common.{◌≡◌, ◌<◌, ◌∙◌, ◌⊎◌, arith, false, inl, inr, get_or, length, sym}
use Rattle.std.proofs.lemmas.Option.{none-some, slice_get-get_or}
use Rattle.bal_rules.specs.Room.{fits_current}
use Rattle.bal_layout.specs.Regions.{free_regions}
use Rattle.bal_eden.proofs.Finding.{finds-fresh, finds-here, finds-nowhere}
use Rattle.bal_eden.proofs.room.find_room.Goals as goal
use Rattle.bal_eden.proofs.room.find_room.Goals.{else-want-free-via-then-want-free+else-fits_current, else-want-free-via-else-want-free, then-not-within_budget-via-then-not-within_budget, then-not-within_budget-via-else-not-within_budget+then-free-want}

pub returns-then-fits_current : goal.returns-then-fits_current
returns-then-fits_current c =
    finds-here c.args.table.now c.args.soft c.args.want.now c.free_count-free.result c.free_count-free.ensures.count
    c.if-want-free.true (sym c.fits_current.ensures ∙ c.if-fits_current.true)

pub returns-then-not-within_budget : goal.returns-then-not-within_budget
returns-then-not-within_budget c =
    let t = c.args.table.now in
    let w = c.args.want.now in
    let here : (c.free_count-free.result < w.leaves) ⊎ (fits_current t.shape t.regions t.current w.words ≡ false) = elim c.else-want-free.branch [
      | else-want-free-via-then-want-free+else-fits_current v ↦ inr (sym v.fits_current.ensures ∙ v.if-fits_current.false)
      | else-want-free-via-else-want-free v ↦ inl v.if-want-free.false
    ] in
    finds-nowhere t c.args.soft w c.free_count-free.result c.free_count-free.ensures.count here
    (elim c.then-not-within_budget.branch [
      | then-not-within_budget-via-then-not-within_budget v ↦ inl (sym c.within_budget.ensures ∙ v.if-not-within_budget.true)
      | then-not-within_budget-via-else-not-within_budget+then-free-want v ↦ inr v.if-free-want.true
    ])

pub returns-in_default : goal.returns-in_default
returns-in_default c =
    let free = free_regions c.args.table.now.regions in
    let some : 0 < length free = omega (arith, c.free_count-free.ensures.count, c.if-free-want.false) in
    absurd (none-some (get_or free 0 0) (sym c.in_default.is ∙ (c.lowest_free.ensures.lowest ∙ slice_get-get_or free 0 0 some)))

pub returns : goal.returns
returns c =
    let t = c.args.table.now in
    let w = c.args.want.now in
    let here : (c.free_count-free.result < w.leaves) ⊎ (fits_current t.shape t.regions t.current w.words ≡ false) = elim c.else-want-free.branch [
      | else-want-free-via-then-want-free+else-fits_current v ↦ inr (sym v.fits_current.ensures ∙ v.if-fits_current.false)
      | else-want-free-via-else-want-free v ↦ inl v.if-want-free.false
    ] in
    finds-fresh t c.args.soft w c.free_count-free.result c.free_count-free.ensures.count c.in-Some.region here
    (sym c.within_budget.ensures ∙ c.if-not-within_budget.false) c.if-free-want.false (sym c.lowest_free.ensures.lowest ∙ c.in-Some.is)
