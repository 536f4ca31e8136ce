use Rattle.std.proofs.Common.{ap, get_or, subst, sym, take, ◌∙◌}
use Rattle.bal_cards.specs.Cards.{Cards}
use Rattle.bal_fixup.specs.Mended.{IsReference}
use Rattle.bal_fixup.proofs.Placing.{all-mended, dirty-shape, is-among, not-before, slots-before}
use Rattle.bal_table.specs.Moves.{moved_to}
use Rattle.bal_table.specs.Slots.{IsSlot}
use Rattle.bal_table.specs.Table.{Table, word_at}
use Rattle.bal_fixup.proofs.partial.fix_places.Goals as goal

pub fix_place-requires-clause-shape : goal.fix_place-requires-clause-shape
fix_place-requires-clause-shape c =
    let done = take c.loop-place.place-index c.args.places.now in
    let all = all-mended (moved_to c.args.moves.now) c.args.table.now done c.geometry.ensures.limits
    (slots-before c.args.table.now c.loop-place.place-index c.args.places.now c.requires.slots) in
    ap (λ (x : Cards). x.shape) c.loop-place.invariant.dirty
    ∙ (dirty-shape done c.args.cards.now
    ∙ (c.requires.shape
    ∙ (sym (ap (λ (u : Table). u.shape) all.1.table) ∙ sym (ap (λ (u : Table). u.shape) c.loop-place.invariant.mended))))

pub fix_place-requires-clause-slot : goal.fix_place-requires-clause-slot
fix_place-requires-clause-slot c =
    let n = c.loop-place.place-index in
    let places = c.args.places.now in
    let all = all-mended (moved_to c.args.moves.now) c.args.table.now (take n places) c.geometry.ensures.limits (slots-before c.args.table.now n places c.requires.slots) in
    let s = c.requires.slots (get_or places n 0) (is-among n places c.loop-place-test.true) in
    (s.0, s.1, subst (λ (u : Table). IsSlot u s.0 s.1 (get_or places n 0)) (sym c.loop-place.invariant.mended) ((all.1.slots s.0 s.1 (get_or places n 0)).1 s.2))

pub fix_place-requires-clause-reference : goal.fix_place-requires-clause-reference
fix_place-requires-clause-reference c =
    let n = c.loop-place.place-index in
    let places = c.args.places.now in
    let all = all-mended (moved_to c.args.moves.now) c.args.table.now (take n places) c.geometry.ensures.limits (slots-before c.args.table.now n places c.requires.slots) in
    let p = get_or places n 0 in
    subst IsReference
    (sym (ap (λ (u : Table). word_at u p) c.loop-place.invariant.mended ∙ all.2 p (not-before n places c.requires.ascending c.loop-place-test.true)))
    (c.requires.references p (is-among n places c.loop-place-test.true))
