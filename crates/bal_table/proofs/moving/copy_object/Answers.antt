use Rattle.std.proofs.Common.{◌<◌, ◌∙◌, inl, inr, ap, arith, length, sym}
use Rattle.std.proofs.lemmas.Bool.{cases_order}
use Rattle.bal_region.specs.Changes.{with_object}
use Rattle.bal_region.specs.Land.{Land, object_at}
use Rattle.bal_table.proofs.Copied.{copied-down, copied-up}
use Rattle.bal_table.proofs.moving.copy_object.Goals as goal

pub returns-then-from-to-clause-regions : goal.returns-then-from-to-clause-regions
returns-then-from-to-clause-regions c =
    let parts = c.split_at_mut-low.result in
    let cut = c.split_at_mut-low.ensures in
    copied-up c.args.regions.now parts.0.now parts.1.now cut.value c.index-low-from.result c.index-high-0.result c.place.new.self c.args.from c.args.offset c.args.to
    c.object.result.now (ap (λ (l : Land). object_at l c.args.offset) c.index-low-from.is ∙ c.object.ensures.words)
    (c.place.ensures.land ∙ ap (λ (l : Land). with_object l c.object.result.now) (sym c.index-high-0.is)) cut.front_len (omega (arith, cut.back_len, c.requires.target)) (omega (arith, cut.front_len, c.if-from-to.true)) c.index-low-from.is c.index-high-0.is

pub returns-clause-regions : goal.returns-clause-regions
returns-clause-regions c =
    let parts = c.split_at_mut-low-2.result in
    let cut = c.split_at_mut-low-2.ensures in
    let less : c.args.to < length parts.0.now = elim (cases_order c.args.from c.args.to) [
      | inl same ↦ absurd (c.requires.other same)
      | inr apart ↦ elim apart [ inl up ↦ absurd (omega (arith, up, c.if-from-to.false)) | inr down ↦ omega (arith, down, cut.front_len) ]
    ] in
    copied-down c.args.regions.now parts.0.now parts.1.now cut.value c.index-high-0-2.result c.index-low-to.result c.place-2.new.self c.args.from c.args.offset c.args.to
    c.object-2.result.now (ap (λ (l : Land). object_at l c.args.offset) c.index-high-0-2.is ∙ c.object-2.ensures.words)
    (c.place-2.ensures.land ∙ ap (λ (l : Land). with_object l c.object-2.result.now) (sym c.index-low-to.is)) cut.front_len (omega (arith, cut.back_len, c.requires.source)) less c.index-high-0-2.is c.index-low-to.is
