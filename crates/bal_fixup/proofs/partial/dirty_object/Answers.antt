use Rattle.std.proofs.Common.{◌≡◌, ℕ, ◌+◌, ◌<◌, ◌⊎◌, inl, inr, ap, arith, length, ◌∙◌}
use Rattle.std.proofs.lemmas.Bool.{cases_lt}
use Rattle.bal_table.specs.Table.{refs_in, things_of}
use Rattle.bal_table.proofs.Lemmas.{slot-below}
use Rattle.bal_fixup.proofs.Dirty.{dirty-none, dirty-same, dirty-then}
use Rattle.bal_fixup.proofs.partial.dirty_object.Goals as goal

pub loop-number-init : goal.loop-number-init
loop-number-init c =
    dirty-none c.args.table.now c.args.cards.now (λ holder slot. (holder ≡ c.args.address) × (slot < 0)) (λ a i none. omega (arith, none.1))

pub dirty_slot-requires-clause-shape : goal.dirty_slot-requires-clause-shape
dirty_slot-requires-clause-shape c = c.loop-number.invariant.shape ∙ c.requires.shape

below : (a b i n : ℕ) → (b ≡ a) × (i < n + 1) → ((b ≡ a) × (i < n)) ⊎ ((b ≡ a) × (i ≡ n))
below a b i n (same, less) = elim (cases_lt i n) [ inl before ↦ inl (same, before) | inr here ↦ inr (same, omega (arith, less, here)) ]

pub loop-number-preserved : goal.loop-number-preserved
loop-number-preserved c =
    let a = c.args.address in
    let n = c.loop-number.number in
    dirty-then c.args.table.now c.args.cards.now c.loop-number.cards c.dirty_slot.new.cards
    (λ holder slot. (holder ≡ a) × (slot < n)) (λ holder slot. (holder ≡ a) × (slot ≡ n)) (λ holder slot. (holder ≡ a) × (slot < n + 1))
    c.loop-number.invariant c.dirty_slot.ensures (λ b i before. (before.0, omega (arith, before.1))) (λ b i here. (here.0, omega (arith, here.1)))
    (λ b i p slot less. below a b i n less)

pub returns-clause-dirty : goal.returns-clause-dirty
returns-clause-dirty c =
    let t = c.args.table.now in
    let a = c.args.address in
    let n = c.loop-number.number in
    dirty-same t c.args.cards.now c.loop-number.cards (λ holder slot. (holder ≡ a) × (slot < n)) (λ holder slot. holder ≡ a)
    c.loop-number.invariant (λ b i before. before.0)
    (λ b i p slot same. (
      same,
      omega (
        arith,
        slot-below t b i p c.geometry.ensures.limits slot,
        ap (λ d. length (refs_in (things_of t d))) same,
        c.loop-number-test.false,
        c.slots-number-end.ensures,
      ),
    ))
