use Rattle.std.proofs.Common.{◌≡◌, ◌<◌, ◌*◌, ◌∙◌, Some, ap, arith, subst, sym, ℕ}
use Rattle.bal_layout.specs.Addresses.{address_in, offset_of}
use Rattle.bal_layout.specs.Shape.{Shape}
use Rattle.bal_region.specs.Land.{Land, first_from, object_at, object_in}
use Rattle.bal_region.proofs.Lemmas.{first-is, object-starts, object-there}
use Rattle.bal_table.specs.Changes.{MayMoveDown}
use Rattle.bal_table.specs.Table.{IsTable, Table, land_at}
use Rattle.bal_table.proofs.Places.{address-is, address-region}
use Rattle.bal_table.proofs.Seen.{objects-at, start-inside}
use Rattle.bal_table.proofs.Slid.{may-move}
use Rattle.bal_table.proofs.tests.slide_first.Goals as goal

-- nothing lies below the first object of a region
first-moves : (t : Table) (q at : ℕ) → IsTable t → q < t.shape.regions → first_from (land_at t q) 0 ≡ Some at
    → MayMoveDown t (address_in t.shape q at) (address_in t.shape q 0)
first-moves t q at table within is =
    let l = land_at t q in
    let land = (table.each q within).land in
    let first = (first-is l 0 at land).0 is in
    let inside = start-inside t q at table within first.0 in
    let here = address-region t.shape q at inside in
    may-move t (address_in t.shape q at) (address_in t.shape q 0) (object_in l.words at) table (objects-at t q at inside ∙ object-there l at first.0)
    (address-region t.shape q 0 (omega (arith, inside)) ∙ sym here) (omega arith)
    (λ b other stands own less.
    let same = own ∙ here in
    let starts = (object-starts l (offset_of t.shape b) other (ap (λ r. object_at (land_at t r) (offset_of t.shape b)) (sym same) ∙ stands)).0 in
    absurd (omega (arith, less, first.2 (offset_of t.shape b) starts (omega arith), address-is t.shape b, ap (λ r. r * t.shape.words) same)))

pub slide-requires : goal.slide-requires
slide-requires c =
    let t = c.args.table.now in
    let q = c.args.region in
    let at = c.in_ok-offset.offset in
    let shape = c.geometry-geometry.ensures.shape in
    let table = c.geometry-geometry.ensures.limits in
    let within : q < t.shape.regions = omega (arith, c.if-region-regions.false, c.regions.ensures.number, ap (λ (s : Shape). s.regions) shape) in
    let first = ap (λ (l : Land). first_from l 0) (sym c.region.ensures) ∙ (sym c.first_from.ensures.least ∙ c.in_ok-offset.was) in
    let from = c.address-from.ensures.address ∙ ap (λ s. address_in s q at) shape in
    let to = c.address.ensures.address ∙ ap (λ s. address_in s q 0) shape in
    subst (λ a. MayMoveDown t a c.address.result) (sym from) (subst (MayMoveDown t (address_in t.shape q at)) (sym to) (first-moves t q at table within first))
