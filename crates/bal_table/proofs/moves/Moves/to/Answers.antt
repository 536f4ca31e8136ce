use Rattle.std.proofs.Common.{◌<◌, ◌∙◌, ap, arith, length, subst}
use Rattle.std.proofs.lemmas.List.{get_or_read}
use Rattle.std.specs.Prelude.{IfSome}
use Rattle.bal_layout.specs.References.{target_of}
use Rattle.bal_table.specs.KeptMoves.{forwarding_of}
use Rattle.bal_table.specs.Moves.{Forwarding, moved}
use Rattle.bal_table.proofs.KeptMoving.{read-moved, read-past, went-within, word-small}
use Rattle.bal_table.proofs.moves.Moves.to.Goals as goal

pub returns-then-at-len-clause-to : goal.returns-then-at-len-clause-to
returns-then-at-len-clause-to c =
    let a = c.self.inside in
    read-past a c.args.address (omega (arith, c.if-at-len.true, c.len.ensures, a.table.ok.0)) ∙ ap (λ (m : Forwarding). moved m c.args.address) c.self.view_is

pub target_of-requires : goal.target_of-requires
target_of-requires c =
    let a = c.self.inside in
    let inside : c.args.address < length a.table.items = omega (arith, c.if-at-len.false, c.len.ensures, a.table.ok.0) in
    omega (arith, get_or_read a.table.items c.args.address c.index.result.now inside c.index.ensures 0, word-small a c.self.invariant c.args.address)

pub returns-clause-to : goal.returns-clause-to
returns-clause-to c =
    let a = c.self.inside in
    let inside : c.args.address < length a.table.items = omega (arith, c.if-at-len.false, c.len.ensures, a.table.ok.0) in
    c.target_of.ensures
    ∙ (ap target_of (c.from.ensures ∙ get_or_read a.table.items c.args.address c.index.result.now inside c.index.ensures 0)
    ∙ (read-moved a c.args.address ∙ ap (λ (m : Forwarding). moved m c.args.address) c.self.view_is))

pub returns-clause-within : goal.returns-clause-within
returns-clause-within c =
    let a = c.self.inside in
    let inside : c.args.address < length a.table.items = omega (arith, c.if-at-len.false, c.len.ensures, a.table.ok.0) in
    let to = c.target_of.ensures ∙ (ap target_of (c.from.ensures ∙ get_or_read a.table.items c.args.address c.index.result.now inside c.index.ensures 0) ∙ read-moved a c.args.address) in
    subst (λ (m : Forwarding). IfSome c.target_of.result (λ t. t < length m.words)) c.self.view_is
    (went-within (forwarding_of a) c.args.address c.target_of.result c.self.invariant.forwarding to)
