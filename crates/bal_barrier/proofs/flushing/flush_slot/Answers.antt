use Rattle.std.proofs.Common.{◌≡◌, ℕ, set, ap, sym, ◌∙◌}
use Rattle.bal_layout.specs.Addresses.{card_of}
use Rattle.bal_layout.specs.Regions.{region_at}
use Rattle.bal_barrier.specs.Flush.{place_of, with_states}
use Rattle.bal_barrier.proofs.Notes.{noting, states-noted}
use Rattle.bal_barrier.proofs.Targets.{slot-within}
use Rattle.bal_barrier.proofs.flushing.flush_slot.Goals as goal

pub slot_place-requires : goal.slot_place-requires
slot_place-requires c =
    slot-within c.args.table.now c.args.slot.now.holder c.args.slot.now.number (place_of c.args.table.now c.args.slot.now) c.geometry-geometry.ensures.limits c.requires.slot

pub returns-in-Known-clause-table : goal.returns-in-Known-clause-table
returns-in-Known-clause-table c =
    let t = c.args.table.now in
    let s = c.args.slot.now in
    let q = c.in-Some.region in
    let card : c.card_of-card.result ≡ card_of (place_of t s) = c.card_of-card.ensures.card ∙ ap card_of c.slot_place.ensures.place in
    c.note.ensures.table
    ∙ (ap (λ (k : ℕ). with_states t (set t.regions q (noting c.args.limit k (region_at t.regions q)))) card
    ∙ ap (with_states t) (states-noted c.args.limit t t.regions s q (sym c.in-Some.ensures.into)))
