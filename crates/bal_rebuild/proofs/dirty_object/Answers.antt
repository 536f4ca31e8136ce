use Rattle.std.proofs.Common.{◌≡◌, ℕ, ◌+◌, ◌<◌, ◌⊎◌, inl, inr, ap, arith, length, ◌∙◌}
use Rattle.std.proofs.lemmas.Bool.{cases_lt}
use Rattle.bal_words.specs.Things.{Thing}
use Rattle.bal_words.proofs.Lemmas.{there}
use Rattle.std.specs.Prelude.{Option}
use Rattle.bal_table.specs.Table.{refs_in, things_of}
use Rattle.bal_table.proofs.Lemmas.{slot-below, thing-slot}
use Rattle.bal_rebuild.proofs.Dirtied.{dirtied-none, dirtied-same, dirtied-shape, dirtied-then}
use Rattle.bal_rebuild.proofs.dirty_object.Goals as goal

pub loop-number-init : goal.loop-number-init
loop-number-init c =
    dirtied-none c.args.table.now c.args.into c.args.cards.now (λ holder slot. (holder ≡ c.args.address) × (slot < 0)) (λ a i none. omega (arith, none.1))

pub dirty_slot-requires-clause-slot : goal.dirty_slot-requires-clause-slot
dirty_slot-requires-clause-slot c =
    let t = c.args.table.now in
    let a = c.args.address in
    let x = there (things_of t a) c.requires.object in
    thing-slot t a c.loop-number.number x.0 c.geometry.ensures.limits x.1
    (omega (arith, c.loop-number-test.true, c.slots-number-end.ensures, ap (λ (o : Option Thing). length (refs_in o)) x.1))

pub dirty_slot-requires-clause-shape : goal.dirty_slot-requires-clause-shape
dirty_slot-requires-clause-shape c = dirtied-shape c.args.cards.now c.loop-number.cards _ c.loop-number.invariant ∙ c.requires.shape

below : (a b i n : ℕ) → (b ≡ a) × (i < n + 1) → ((b ≡ a) × (i < n)) ⊎ ((b ≡ a) × (i ≡ n))
below a b i n (same, less) = elim (cases_lt i n) [ inl before ↦ inl (same, before) | inr here ↦ inr (same, omega (arith, less, here)) ]

pub loop-number-preserved : goal.loop-number-preserved
loop-number-preserved c =
    let a = c.args.address in
    let n = c.loop-number.number in
    dirtied-then c.args.table.now c.args.into c.args.cards.now c.loop-number.cards c.dirty_slot.new.cards
    (λ holder slot. (holder ≡ a) × (slot < n)) (λ holder slot. (holder ≡ a) × (slot ≡ n)) (λ holder slot. (holder ≡ a) × (slot < n + 1))
    c.loop-number.invariant c.dirty_slot.ensures (λ b i before. (before.0, omega (arith, before.1))) (λ b i here. (here.0, omega (arith, here.1)))
    (λ b i p slot less. below a b i n less)

pub returns : goal.returns
returns c =
    let t = c.args.table.now in
    let a = c.args.address in
    let n = c.loop-number.number in
    dirtied-same t c.args.into c.args.cards.now c.loop-number.cards (λ holder slot. (holder ≡ a) × (slot < n)) (λ holder slot. holder ≡ a)
    c.loop-number.invariant (λ b i before. before.0)
    (λ b i p slot same. (
      same,
      omega (
        arith,
        slot-below t b i p c.geometry.ensures.limits slot,
        ap (λ d. length (refs_in (things_of t d))) same,
        c.loop-number-test.false,
        c.slots-number-end.ensures,
      ),
    ))
