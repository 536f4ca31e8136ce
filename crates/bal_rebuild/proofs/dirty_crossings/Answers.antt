use Rattle.std.proofs.Common.{◌≡◌, ℕ, ◌+◌, ◌<◌, ◌⊎◌, inl, inr, ap, arith, ◌∙◌}
use Rattle.std.proofs.lemmas.Bool.{cases_lt}
use Rattle.bal_layout.specs.Addresses.{region_of}
use Rattle.bal_layout.specs.Shape.{Shape}
use Rattle.bal_rebuild.proofs.Dirtied.{dirtied-all, dirtied-none, dirtied-shape, dirtied-then}
use Rattle.bal_table.proofs.Lemmas.{slot-within}
use Rattle.bal_rebuild.proofs.dirty_crossings.Goals as goal

below : (r q : ℕ) → r < q + 1 → (r < q) ⊎ (r ≡ q)
below r q less = elim (cases_lt r q) [ inl before ↦ inl before | inr here ↦ inr (omega (arith, less, here)) ]

pub loop-region-init : goal.loop-region-init
loop-region-init c = dirtied-none c.args.table.now c.args.into c.args.cards.now (λ holder number. region_of c.args.table.now.shape holder < 0) (λ a i less. omega (arith, less))

pub dirty_region-requires-clause-within : goal.dirty_region-requires-clause-within
dirty_region-requires-clause-within c =
    omega (arith, c.loop-region-test.true, c.regions-region-end.ensures.number, ap (λ (s : Shape). s.regions) c.geometry.ensures.shape)

pub dirty_region-requires-clause-shape : goal.dirty_region-requires-clause-shape
dirty_region-requires-clause-shape c = dirtied-shape c.args.cards.now c.loop-region.cards _ c.loop-region.invariant ∙ c.requires.shape

pub loop-region-preserved : goal.loop-region-preserved
loop-region-preserved c =
    let s = c.args.table.now.shape in
    let q = c.loop-region.region in
    dirtied-then c.args.table.now c.args.into c.args.cards.now c.loop-region.cards c.dirty_region.new.cards
    (λ holder number. region_of s holder < q) (λ holder number. region_of s holder ≡ q) (λ holder number. region_of s holder < q + 1)
    c.loop-region.invariant c.dirty_region.ensures (λ a i before. omega (arith, before)) (λ a i here. omega (arith, here))
    (λ a i p slot less. below (region_of s a) q less)

pub returns : goal.returns
returns c =
    let t = c.args.table.now in
    dirtied-all t c.args.into c.args.cards.now c.loop-region.cards (λ holder number. region_of t.shape holder < c.loop-region.region) c.loop-region.invariant
    (λ a i p slot. omega (
      arith,
      slot-within t a i p c.geometry.ensures.limits slot,
      c.loop-region-test.false,
      c.regions-region-end.ensures.number,
      ap (λ (s : Shape). s.regions) c.geometry.ensures.shape,
    ))
