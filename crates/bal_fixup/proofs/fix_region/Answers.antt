use Rattle.std.proofs.Common.{◌≡◌, ◌<◌, ltb, Option, Some, ap, arith, subst, sym, ◌∙◌}
use Rattle.std.specs.Prelude.{All, IsSome}
use Rattle.std.proofs.lemmas.Bool.{and_right, le-ltb}
use Rattle.bal_fixup.specs.Mended.{IsReference, mended_thing}
use Rattle.bal_fixup.specs.Mending.{lies_before, lies_in}
use Rattle.bal_fixup.proofs.Objects.{mended-none}
use Rattle.bal_fixup.proofs.Regions.{next-inside, next-left, next-object, region-done, region-next}
use Rattle.bal_fixup.proofs.Stay.{same-none, same-then}
use Rattle.bal_fixup.proofs.fix_region.Goals as goal
use Rattle.bal_fixup.proofs.fix_region.Goals.{After-address, In-Some}
use Rattle.bal_layout.specs.Addresses.{address_in, offset_of}
use Rattle.bal_layout.specs.Shape.{Shape}
use Rattle.bal_region.specs.Land.{Land, first_from}
use Rattle.bal_table.specs.Moves.{moved_to}
use Rattle.bal_table.specs.Table.{land_at, refs_in, things_of}
use Rattle.bal_table.proofs.Lemmas.{address-region}
use Rattle.bal_words.specs.Things.{Thing, Updated}

-- the next object of the region starts there
next : (c : In-Some) → first_from (land_at c.loop-offset.table c.args.region) c.loop-offset.at ≡ Some c.in-Some.offset
next c = sym (c.in-Some.ensures.least ∙ ap (λ (l : Land). first_from l c.loop-offset.at) c.region.ensures)

inside : (c : In-Some) → c.in-Some.offset < c.args.table.now.shape.words
inside c =
    let i = c.loop-offset.invariant in
    next-inside c.args.table.now c.loop-offset.table c.args.region c.loop-offset.at (moved_to c.args.moves.now) c.geometry-geometry.ensures.limits c.requires.within i.same i.mended
    c.in-Some.offset (next c)

-- this is its address
place : (c : After-address) → c.address.result ≡ address_in c.args.table.now.shape c.args.region c.in-Some.offset
place c = c.address.ensures.address ∙ ap (λ (s : Shape). address_in s c.args.region c.in-Some.offset) c.geometry-geometry.ensures.shape

pub loop-offset-init : goal.loop-offset-init
loop-offset-init c =
    let t = c.args.table.now in
    record {
      mended = mended-none (things_of t) (lies_before t.shape c.args.region 0) (moved_to c.args.moves.now)
          (λ a. and_right (lies_in t.shape c.args.region a) (ltb (offset_of t.shape a) 0) (le-ltb (offset_of t.shape a) 0 (omega arith)));
      same = same-none t;
    }

pub address-requires-clause-offset : goal.address-requires-clause-offset
address-requires-clause-offset c =
    omega (arith, inside (goal.at.address-requires-clause-offset c).In-Some, ap (λ (s : Shape). s.words) c.geometry-geometry.ensures.shape)

pub fix_object-requires-clause-object : goal.fix_object-requires-clause-object
fix_object-requires-clause-object c =
    let at = goal.at.fix_object-requires-clause-object c in
    let i = c.loop-offset.invariant in
    subst (λ a. IsSome (things_of c.loop-offset.table a)) (sym (place at.After-address))
    (next-object c.args.table.now c.loop-offset.table c.args.region c.loop-offset.at (moved_to c.args.moves.now) c.geometry-geometry.ensures.limits c.requires.within i.same i.mended
    c.in-Some.offset (next at.In-Some))

pub fix_object-requires-clause-references : goal.fix_object-requires-clause-references
fix_object-requires-clause-references c =
    let at = goal.at.fix_object-requires-clause-references c in
    let t = c.args.table.now in
    let i = c.loop-offset.invariant in
    let left = next-left t c.loop-offset.table c.args.region c.loop-offset.at (moved_to c.args.moves.now) c.geometry-geometry.ensures.limits c.requires.within i.same i.mended
    c.in-Some.offset (next at.In-Some) in
    subst (λ a. All IsReference (refs_in (things_of c.loop-offset.table a))) (sym (place at.After-address))
    (subst (λ (o : Option Thing). All IsReference (refs_in o)) (sym left)
    (c.requires.references (address_in t.shape c.args.region c.in-Some.offset) (address-region t.shape c.args.region c.in-Some.offset (inside at.In-Some))))

pub loop-offset-smaller : goal.loop-offset-smaller
loop-offset-smaller c = omega (arith, inside (goal.at.loop-offset-smaller c).In-Some, c.in-Some.ensures.behind)

pub loop-offset-preserved : goal.loop-offset-preserved
loop-offset-preserved c =
    let at = goal.at.loop-offset-preserved c in
    let t = c.args.table.now in
    let now = c.loop-offset.table in
    let i = c.loop-offset.invariant in
    let to = moved_to c.args.moves.now in
    record {
      mended = region-next t now c.args.region c.loop-offset.at to c.geometry-geometry.ensures.limits c.requires.within i.same i.mended
          c.in-Some.offset (next at.In-Some) c.fix_object.new.table
          (subst (λ a. Updated (things_of now) (things_of c.fix_object.new.table) a (mended_thing to (things_of now a))) (place at.After-address) c.fix_object.ensures.mended);
      same = same-then t now c.fix_object.new.table i.same c.fix_object.ensures.same;
    }

pub returns-clause-mended : goal.returns-clause-mended
returns-clause-mended c =
    let i = c.loop-offset.invariant in
    region-done c.args.table.now c.loop-offset.table c.args.region c.loop-offset.at (moved_to c.args.moves.now) c.geometry-geometry.ensures.limits c.requires.within i.same i.mended
    (sym (ap (λ (l : Land). first_from l c.loop-offset.at) c.region.ensures) ∙ (sym c.first_from.ensures.least ∙ c.in_default.is))
