use Rattle.std.proofs.Common.{◌≡◌, ◌+◌, ◌<◌, inl, inr, Some, None, ap, arith, subst, sym, ◌∙◌}
use Rattle.std.specs.Prelude.{IsSome, IsTrue}
use Rattle.bal_layout.specs.Addresses.{address_in, region_of}
use Rattle.bal_layout.specs.Shape.{Shape}
use Rattle.bal_region.specs.Land.{Land, first_from, starts_at}
use Rattle.bal_table.specs.Table.{land_at, things_of}
use Rattle.bal_table.proofs.Lemmas.{Before, next-after, next-first, next-here, next-inside, none-after, start-address}
use Rattle.bal_rebuild.proofs.Dirtied.{dirtied-none, dirtied-same, dirtied-shape, dirtied-then}
use Rattle.bal_rebuild.proofs.dirty_region.Goals as goal
use Rattle.bal_rebuild.proofs.dirty_region.Goals.{In-Some}

-- the next object of the region
next : (c : In-Some) → first_from (land_at c.args.table.now c.args.region) c.loop-offset.from ≡ Some c.in-Some.offset
next c = sym (c.in-Some.ensures.least ∙ ap (λ (l : Land). first_from l c.loop-offset.from) c.region.ensures)

starts : (c : In-Some) → IsTrue (starts_at (land_at c.args.table.now c.args.region) c.in-Some.offset)
starts c = subst (λ (l : Land). IsTrue (starts_at l c.in-Some.offset)) c.region.ensures c.in-Some.ensures.start

inside : (c : In-Some) → c.in-Some.offset < c.args.table.now.shape.words
inside c = next-inside c.args.table.now c.args.region c.loop-offset.from c.geometry-geometry.ensures.limits c.requires.within c.in-Some.offset (next c) (starts c)

pub loop-offset-init : goal.loop-offset-init
loop-offset-init c = record {
  dirtied = dirtied-none c.args.table.now c.args.into c.args.cards.now (Before c.args.table.now c.args.region 0) (λ a i before. omega (arith, before.1));
  from = omega arith;
}

pub address-requires : goal.address-requires
address-requires c =
    let at = (goal.at.address-requires c).In-Some in
    record {
      region = omega (arith, c.requires.within, ap (λ (s : Shape). s.regions) c.geometry-geometry.ensures.shape);
      offset = omega (arith, inside at, ap (λ (s : Shape). s.words) c.geometry-geometry.ensures.shape);
    }

pub dirty_object-requires-clause-object : goal.dirty_object-requires-clause-object
dirty_object-requires-clause-object c =
    let at = (goal.at.dirty_object-requires-clause-object c).In-Some in
    let t = c.args.table.now in
    let address : c.address.result ≡ address_in t.shape c.args.region c.in-Some.offset =
    c.address.ensures.address ∙ ap (λ (s : Shape). address_in s c.args.region c.in-Some.offset) c.geometry-geometry.ensures.shape in
    subst (λ a. IsSome (things_of t a)) (sym address) (start-address t c.args.region c.in-Some.offset c.geometry-geometry.ensures.limits c.requires.within (starts at))

pub dirty_object-requires-clause-shape : goal.dirty_object-requires-clause-shape
dirty_object-requires-clause-shape c = dirtied-shape c.args.cards.now c.loop-offset.cards _ c.loop-offset.invariant.dirtied ∙ c.requires.shape

pub overflow_add-from : goal.overflow_add-from
overflow_add-from c =
    let at = (goal.at.overflow_add-from c).In-Some in
    omega (arith, inside at, c.geometry-geometry.ensures.limits.shape.most_words)

pub loop-offset-smaller : goal.loop-offset-smaller
loop-offset-smaller c =
    let at = (goal.at.loop-offset-smaller c).In-Some in
    omega (arith, inside at, c.in-Some.ensures.behind)

pub loop-offset-preserved : goal.loop-offset-preserved
loop-offset-preserved c =
    let at = (goal.at.loop-offset-preserved c).In-Some in
    let t = c.args.table.now in
    let q = c.args.region in
    let from = c.loop-offset.from in
    let offset = c.in-Some.offset in
    let table = c.geometry-geometry.ensures.limits in
    let address : c.address.result ≡ address_in t.shape q offset =
    c.address.ensures.address ∙ ap (λ (s : Shape). address_in s q offset) c.geometry-geometry.ensures.shape in
    record {
      dirtied = dirtied-then t c.args.into c.args.cards.now c.loop-offset.cards c.dirty_object.new.cards
          (Before t q from) (λ holder number. holder ≡ c.address.result) (Before t q (offset + 1)) c.loop-offset.invariant.dirtied c.dirty_object.ensures
          (λ a i before. next-after t q from table c.requires.within offset (next at) (starts at) a i c.in-Some.ensures.behind before)
          (λ a i here. next-here t q from table c.requires.within offset (next at) (starts at) a i (here ∙ address))
          (λ a i p slot before. elim (next-first t q from table c.requires.within offset (next at) (starts at) a i p slot before) [
            | inl earlier ↦ inl earlier
            | inr here ↦ inr (here ∙ sym address)
          ]);
      from = omega (arith, inside at);
    }

pub returns : goal.returns
returns c =
    let t = c.args.table.now in
    let q = c.args.region in
    let none : first_from (land_at t q) c.loop-offset.from ≡ None =
    sym (c.in_default.ensures.least ∙ ap (λ (l : Land). first_from l c.loop-offset.from) c.region.ensures) in
    dirtied-same t c.args.into c.args.cards.now c.loop-offset.cards (Before t q c.loop-offset.from) (λ holder number. region_of t.shape holder ≡ q)
    c.loop-offset.invariant.dirtied (λ a i before. before.0)
    (λ a i p slot here. none-after t q c.loop-offset.from c.geometry-geometry.ensures.limits c.requires.within none a i p slot here)
