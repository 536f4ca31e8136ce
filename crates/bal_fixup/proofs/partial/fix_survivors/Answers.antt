use Rattle.std.proofs.Common.{◌≡◌, ◌<◌, ◌+◌, ℕ, inl, inr, ltb, None, Option, Some, ap, arith, subst, sym, true, ◌∙◌}
use Rattle.std.specs.Prelude.{All, IsSome}
use Rattle.std.proofs.lemmas.Bool.{and_right, le-ltb}
use Rattle.bal_fixup.specs.Dirtied.{BecameDirty, HasReference}
use Rattle.bal_fixup.specs.Mended.{IsReference, mended_thing}
use Rattle.bal_fixup.specs.Mending.{lies_before, lies_in}
use Rattle.bal_fixup.proofs.Dirty.{dirty-moved, dirty-none, dirty-same, dirty-then, word-same}
use Rattle.bal_fixup.proofs.Objects.{mended-none}
use Rattle.bal_fixup.proofs.Regions.{first-same, next-first-is, next-inside, next-left, next-object, region-done, region-next}
use Rattle.bal_fixup.proofs.Stay.{same-none, same-then}
use Rattle.bal_fixup.proofs.partial.fix_survivors.Goals as goal
use Rattle.bal_fixup.proofs.partial.fix_survivors.Goals.{After-address-address, After-dirty_object, In-Some}
use Rattle.bal_layout.specs.Addresses.{address_in, offset_of, region_of}
use Rattle.bal_layout.specs.Shape.{Shape}
use Rattle.bal_region.specs.Land.{Land, first_from, starts_at}
use Rattle.bal_table.specs.Moves.{moved_to}
use Rattle.bal_table.specs.Table.{land_at, refs_in, things_of}
use Rattle.bal_table.proofs.Lemmas.{Before, address-region, next-after, next-first, next-here, none-after}
use Rattle.bal_words.specs.Things.{Thing, Updated}

-- the next object of the region starts there
next : (c : In-Some) → first_from (land_at c.loop-offset.table c.args.region) c.loop-offset.at ≡ Some c.in-Some.offset
next c = sym (c.in-Some.ensures.least ∙ ap (λ (l : Land). first_from l c.loop-offset.at) c.region.ensures)

-- and started there before
first : (c : In-Some) → first_from (land_at c.args.table.now c.args.region) c.loop-offset.at ≡ Some c.in-Some.offset
first c = sym (first-same c.args.table.now c.loop-offset.table c.args.region c.loop-offset.at c.loop-offset.invariant.same) ∙ next c

starts : (c : In-Some) → starts_at (land_at c.args.table.now c.args.region) c.in-Some.offset ≡ true
starts c =
    let i = c.loop-offset.invariant in
    (next-first-is c.args.table.now c.loop-offset.table c.args.region c.loop-offset.at (moved_to c.args.moves.now) c.geometry-geometry.ensures.limits c.requires.within i.same i.mended
    c.in-Some.offset (next c)).0

inside : (c : In-Some) → c.in-Some.offset < c.args.table.now.shape.words
inside c =
    let i = c.loop-offset.invariant in
    next-inside c.args.table.now c.loop-offset.table c.args.region c.loop-offset.at (moved_to c.args.moves.now) c.geometry-geometry.ensures.limits c.requires.within i.same i.mended
    c.in-Some.offset (next c)

-- this is its address
place : (c : After-address-address) → c.address-address.result ≡ address_in c.args.table.now.shape c.args.region c.in-Some.offset
place c = c.address-address.ensures.address ∙ ap (λ (s : Shape). address_in s c.args.region c.in-Some.offset) c.geometry-geometry.ensures.shape

-- it is as it was
left : (c : In-Some) → things_of c.loop-offset.table (address_in c.args.table.now.shape c.args.region c.in-Some.offset)
    ≡ things_of c.args.table.now (address_in c.args.table.now.shape c.args.region c.in-Some.offset)
left c =
    let i = c.loop-offset.invariant in
    next-left c.args.table.now c.loop-offset.table c.args.region c.loop-offset.at (moved_to c.args.moves.now) c.geometry-geometry.ensures.limits c.requires.within i.same i.mended
    c.in-Some.offset (next c)

pub loop-offset-init : goal.loop-offset-init
loop-offset-init c =
    let t = c.args.table.now in
    record {
      mended = mended-none (things_of t) (lies_before t.shape c.args.region 0) (moved_to c.args.moves.now)
          (λ a. and_right (lies_in t.shape c.args.region a) (ltb (offset_of t.shape a) 0) (le-ltb (offset_of t.shape a) 0 (omega arith)));
      same = same-none t;
      dirty = dirty-none t c.args.cards.now (Before t c.args.region 0) (λ a i before. omega (arith, before.1));
      within = omega arith;
    }

pub address-address-requires-clause-offset : goal.address-address-requires-clause-offset
address-address-requires-clause-offset c =
    omega (arith, inside (goal.at.address-address-requires-clause-offset c).In-Some, ap (λ (s : Shape). s.words) c.geometry-geometry.ensures.shape)

object : (c : In-Some) → IsSome (things_of c.loop-offset.table (address_in c.args.table.now.shape c.args.region c.in-Some.offset))
object c =
    let i = c.loop-offset.invariant in
    next-object c.args.table.now c.loop-offset.table c.args.region c.loop-offset.at (moved_to c.args.moves.now) c.geometry-geometry.ensures.limits c.requires.within i.same i.mended
    c.in-Some.offset (next c)

pub dirty_object-requires-clause-object : goal.dirty_object-requires-clause-object
dirty_object-requires-clause-object c =
    let at = goal.at.dirty_object-requires-clause-object c in
    subst (λ a. IsSome (things_of c.loop-offset.table a)) (sym (place at.After-address-address)) (object at.In-Some)

pub fix_object-requires-clause-object : goal.fix_object-requires-clause-object
fix_object-requires-clause-object c =
    let at = goal.at.fix_object-requires-clause-object c in
    subst (λ a. IsSome (things_of c.loop-offset.table a)) (sym (place at.After-address-address)) (object at.In-Some)

pub fix_object-requires-clause-references : goal.fix_object-requires-clause-references
fix_object-requires-clause-references c =
    let at = goal.at.fix_object-requires-clause-references c in
    let t = c.args.table.now in
    subst (λ a. All IsReference (refs_in (things_of c.loop-offset.table a))) (sym (place at.After-address-address))
    (subst (λ (o : Option Thing). All IsReference (refs_in o)) (sym (left at.In-Some))
    (c.requires.references (address_in t.shape c.args.region c.in-Some.offset) (address-region t.shape c.args.region c.in-Some.offset (inside at.In-Some))))

pub loop-offset-smaller : goal.loop-offset-smaller
loop-offset-smaller c = omega (arith, inside (goal.at.loop-offset-smaller c).In-Some, c.in-Some.ensures.behind)

pub loop-offset-preserved : goal.loop-offset-preserved
loop-offset-preserved c =
    let at = goal.at.loop-offset-preserved c in
    let t = c.args.table.now in
    let now = c.loop-offset.table in
    let q = c.args.region in
    let from = c.loop-offset.at in
    let offset = c.in-Some.offset in
    let i = c.loop-offset.invariant in
    let to = moved_to c.args.moves.now in
    let table = c.geometry-geometry.ensures.limits in
    let here = c.address-address.result in
    let same : (a : ℕ) → a ≡ here → things_of now a ≡ things_of t a =
    (λ a e. subst (λ b. things_of now b ≡ things_of t b) (sym (e ∙ place at.After-address-address)) (left at.In-Some)) in
    let own : BecameDirty c.loop-offset.cards c.dirty_object.new.cards (HasReference t (λ holder number. holder ≡ here)) =
    dirty-moved t now c.loop-offset.cards c.dirty_object.new.cards (λ holder number. holder ≡ here) c.dirty_object.ensures.dirty
    (λ a k p e slot. let old = (i.same.slots a k p).0 slot in (old, sym (word-same t now a k p table c.dirty_object.ensures.limits (same a e) old slot)))
    (λ a k p e slot. let new = (i.same.slots a k p).1 slot in (new, word-same t now a k p table c.dirty_object.ensures.limits (same a e) slot new)) in
    record {
      mended = region-next t now q from to table c.requires.within i.same i.mended offset (next at.In-Some) c.fix_object.new.table
          (subst (λ a. Updated (things_of now) (things_of c.fix_object.new.table) a (mended_thing to (things_of now a))) (place at.After-address-address) c.fix_object.ensures.mended);
      same = same-then t now c.fix_object.new.table i.same c.fix_object.ensures.same;
      dirty = dirty-then t c.args.cards.now c.loop-offset.cards c.dirty_object.new.cards
          (Before t q from) (λ holder number. holder ≡ here) (Before t q (offset + 1)) i.dirty own
          (λ a k before. next-after t q from table c.requires.within offset (first at.In-Some) (starts at.In-Some) a k c.in-Some.ensures.behind before)
          (λ a k e. next-here t q from table c.requires.within offset (first at.In-Some) (starts at.In-Some) a k (e ∙ place at.After-address-address))
          (λ a k p slot before. elim (next-first t q from table c.requires.within offset (first at.In-Some) (starts at.In-Some) a k p slot before) [
            | inl earlier ↦ inl earlier
            | inr e ↦ inr (e ∙ sym (place at.After-address-address))
          ]);
      within = omega (arith, inside at.In-Some);
    }

pub returns-clause-mended : goal.returns-clause-mended
returns-clause-mended c =
    let i = c.loop-offset.invariant in
    region-done c.args.table.now c.loop-offset.table c.args.region c.loop-offset.at (moved_to c.args.moves.now) c.geometry-geometry.ensures.limits c.requires.within i.same i.mended
    (sym (ap (λ (l : Land). first_from l c.loop-offset.at) c.region.ensures) ∙ (sym c.first_from.ensures.least ∙ c.in_default.is))

pub returns-clause-dirty : goal.returns-clause-dirty
returns-clause-dirty c =
    let t = c.args.table.now in
    let q = c.args.region in
    let at = c.loop-offset.at in
    let none : first_from (land_at t q) at ≡ None =
    sym (first-same t c.loop-offset.table q at c.loop-offset.invariant.same)
    ∙ (sym (ap (λ (l : Land). first_from l at) c.region.ensures) ∙ (sym c.first_from.ensures.least ∙ c.in_default.is)) in
    dirty-same t c.args.cards.now c.loop-offset.cards (Before t q at) (λ holder number. region_of t.shape holder ≡ q)
    c.loop-offset.invariant.dirty (λ a i before. before.0)
    (λ a i p slot here. none-after t q at c.geometry-geometry.ensures.limits c.requires.within none a i p slot here)
