use Rattle.std.proofs.Common.{◌≡◌, ◌≤◌, ◌^◌, Some, true, ap, subst, sym, ◌∙◌}
use Rattle.bal_layout.specs.Addresses.{IsAddress, region_of}
use Rattle.bal_layout.specs.Regions.{is_object}
use Rattle.bal_layout.specs.References.{target_of}
use Rattle.bal_layout.specs.Shape.{Shape}
use Rattle.bal_table.specs.Table.{role_at, word_at}
use Rattle.bal_barrier.specs.Flush.{place_of}
use Rattle.bal_barrier.proofs.Targets.{slot-within, target-region, word-small}
use Rattle.bal_barrier.proofs.flushing.region_into.Goals as goal

pub slot_place-requires : goal.slot_place-requires
slot_place-requires c =
    slot-within c.args.table.now c.args.slot.now.holder c.args.slot.now.number (place_of c.args.table.now c.args.slot.now) c.geometry-geometry.ensures.limits c.requires.slot

pub target_of-requires : goal.target_of-requires
target_of-requires c =
    let t = c.args.table.now in
    let s = c.args.slot.now in
    let word : c.word-word.result ≡ word_at t (place_of t s) = c.word-word.ensures ∙ ap (word_at t) c.slot_place.ensures.place in
    subst (λ w. w ≤ 2 ^ 32) (sym word) (word-small t (word_at t (place_of t s)) c.geometry-geometry.ensures.limits (c.requires.found.each s.holder s.number (place_of t s) c.requires.slot))

pub region_of-region-requires : goal.region_of-region-requires
region_of-region-requires c =
    let t = c.args.table.now in
    let s = c.args.slot.now in
    let word : c.word-word.result ≡ word_at t (place_of t s) = c.word-word.ensures ∙ ap (word_at t) c.slot_place.ensures.place in
    let leads : target_of (word_at t (place_of t s)) ≡ Some c.in_ok-target.target = ap target_of (sym word) ∙ sym c.in_ok-target.ensures in
    subst (λ (g : Shape). IsAddress g c.in_ok-target.target) (sym c.geometry-geometry.ensures.shape)
    (target-region t (word_at t (place_of t s)) c.in_ok-target.target c.geometry-geometry.ensures.limits (c.requires.found.each s.holder s.number (place_of t s) c.requires.slot) leads).0

pub returns-clause-objects : goal.returns-clause-objects
returns-clause-objects c =
    let t = c.args.table.now in
    let s = c.args.slot.now in
    let word : c.word-word.result ≡ word_at t (place_of t s) = c.word-word.ensures ∙ ap (word_at t) c.slot_place.ensures.place in
    let leads : target_of (word_at t (place_of t s)) ≡ Some c.in_ok-target.target = ap target_of (sym word) ∙ sym c.in_ok-target.ensures in
    let region : c.region_of-region.result ≡ region_of t.shape c.in_ok-target.target =
    c.region_of-region.ensures.region ∙ ap (λ (g : Shape). region_of g c.in_ok-target.target) c.geometry-geometry.ensures.shape in
    subst (λ q. is_object (role_at t q) ≡ true) (sym region)
    (target-region t (word_at t (place_of t s)) c.in_ok-target.target c.geometry-geometry.ensures.limits (c.requires.found.each s.holder s.number (place_of t s) c.requires.slot) leads).2
