use Rattle.std.proofs.Common.{◌∙◌, ap, sym}
use Rattle.bal_dest.specs.Buffers.{Buffers, open_place, wants_region}
use Rattle.bal_layout.specs.Shape.{largest_of}
use Rattle.bal_dest.proofs.Held.{open-within, wants-more, wants-read}
use Rattle.bal_dest.proofs.buffers.Buffers.wants_region.Goals as goal

pub index-requires : goal.index-requires
index-requires c =
    open-within c.self.inside c.self.invariant c.args.age c.in-Some.place (ap (λ (b : Buffers). open_place b c.args.age) c.self.view_is ∙ sym (c.in-Some.ensures.place))

pub returns-clause-answer : goal.returns-clause-answer
returns-clause-answer c =
    let open_is = ap (λ (b : Buffers). open_place b c.args.age) c.self.view_is ∙ sym (c.in-Some.ensures.place) in
    wants-read c.self.inside c.self.invariant c.args.age c.in-Some.place c.args.words c.index.result.now open_is c.index.ensures c.fits.result c.fits.ensures
    ∙ ap (λ (b : Buffers). wants_region b c.args.age c.args.words) c.self.view_is

pub returns-clause-full : goal.returns-clause-full
returns-clause-full c wants few =
    let b = c.args.self.now in
    wants-more b c.args.age c.args.words (largest_of b.shape) few (sym (returns-clause-answer c) ∙ wants)
