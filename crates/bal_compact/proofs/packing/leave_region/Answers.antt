use Rattle.std.proofs.Common.{◌+◌, ◌*◌, ◌∙◌, ap, arith, refl, sym}
use Rattle.bal_layout.specs.Regions.{is_object}
use Rattle.bal_table.specs.Changes.{with_cut}
use Rattle.bal_compact.proofs.Left.{free-region, freed-region, given-out, kept-alive, kept-region}
use Rattle.bal_compact.proofs.packing.leave_region.Goals as goal

pub set_estimate-requires-clause-given_out : goal.set_estimate-requires-clause-given_out
set_estimate-requires-clause-given_out c =
    let m = c.requires.moved in
    given-out m.0 c.args.table.now m.1 c.args.region ((c.args.region + 1) * c.args.table.now.shape.words) m.2 refl c.requires.within c.args.words m.3 c.if-words-gt0.true

pub cut-requires-clause-alive : goal.cut-requires-clause-alive
cut-requires-clause-alive c =
    let m = c.requires.moved in
    kept-alive m.0 c.args.table.now m.1 c.args.region ((c.args.region + 1) * c.args.table.now.shape.words) m.2 refl c.requires.within c.args.words m.3 c.if-words-gt0.true
    c.set_estimate.new.self c.set_estimate.ensures

pub returns-then-words-gt0-clause-left : goal.returns-then-words-gt0-clause-left
returns-then-words-gt0-clause-left c before to m is =
    kept-region before c.args.table.now to c.args.region ((c.args.region + 1) * c.args.table.now.shape.words) m refl c.requires.within c.args.words is c.if-words-gt0.true
    c.cut.new.self (c.cut.ensures ∙ ap (λ t. with_cut t c.args.region) c.set_estimate.ensures) c.geometry.ensures.limits

pub returns-then-is_object-clause-left : goal.returns-then-is_object-clause-left
returns-then-is_object-clause-left c before to m is =
    freed-region before c.args.table.now to c.args.region ((c.args.region + 1) * c.args.table.now.shape.words) m refl c.requires.within
    (omega (arith, is, c.if-words-gt0.false)) c.free_region.new.table c.free_region.ensures.table

pub returns-else-is_object-clause-left : goal.returns-else-is_object-clause-left
returns-else-is_object-clause-left c before to m is =
    free-region before c.args.table.now to c.args.region ((c.args.region + 1) * c.args.table.now.shape.words) m refl c.requires.within
    (omega (arith, is, c.if-words-gt0.false)) (sym (c.is_object.ensures ∙ ap is_object c.role.ensures) ∙ c.if-is_object.false)
