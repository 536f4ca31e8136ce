use Rattle.std.proofs.Common.{◌+◌, ◌∙◌, List, ℕ, ap, arith, length, refl}
use Rattle.bal_base.proofs.Lemmas.{length-grown}
use Rattle.bal_table.specs.Moves.{Forwarding, with_move}
use Rattle.bal_table.proofs.KeptMoving.{IsKept-again, IsKept-more, address-there, forwarding-more, known-by, new-by, room-left, word-read, word-set}
use Rattle.bal_table.proofs.moves.Moves.set.Goals as goal

pub grow-requires : goal.grow-requires
grow-requires c = omega (arith, address-there c.self.inside c.self.invariant _ c.args.address c.self.view_is c.requires.address, c.self.invariant.words)

pub index-requires : goal.index-requires
index-requires c =
    omega (arith, (length-grown (c.args.address + 1) c.self.inside.table.items).0, ap (λ (ws : List ℕ). length ws) c.grow.ensures.items, c.grow.new.items.ok.0)

pub index_mut-requires : goal.index_mut-requires
index_mut-requires c =
    omega (arith, (length-grown (c.args.address + 1) c.self.inside.table.items).0, ap (λ (ws : List ℕ). length ws) c.grow.ensures.items, c.grow.new.items.ok.0)

pub invariant_of-self : goal.invariant_of-self
invariant_of-self c =
    let a = c.self.inside in
    let at = c.args.address in
    let from = address-there a c.self.invariant _ at c.self.view_is c.requires.address in
    let within = address-there a c.self.invariant _ c.args.to c.self.view_is c.requires.to in
    IsKept-again a c.self.invariant at c.args.to from within _ refl (word-set a.table.items _ at _ c.args.to c.grow.ensures.items c.word_of.ensures)
    c.grow.ensures.capacity refl (known-by a c.self.invariant at c.index.result.now (word-read a.table.items _ at _ c.grow.ensures.items c.index.ensures) c.if-known.true)

pub returns-then-known : goal.returns-then-known
returns-then-known c =
    let a = c.self.inside in
    let at = c.args.address in
    forwarding-more a at c.args.to (address-there a c.self.invariant _ at c.self.view_is c.requires.address) _
    (word-set a.table.items _ at _ c.args.to c.grow.ensures.items c.word_of.ensures) ∙ ap (λ (m : Forwarding). with_move m at c.args.to) c.self.view_is

pub push-requires : goal.push-requires
push-requires c =
    let a = c.self.inside in
    let at = c.args.address in
    room-left a c.self.invariant at (address-there a c.self.invariant _ at c.self.view_is c.requires.address)
    (new-by a c.self.invariant at c.index.result.now (word-read a.table.items _ at _ c.grow.ensures.items c.index.ensures) c.if-known.false)

pub invariant_of-self-2 : goal.invariant_of-self-2
invariant_of-self-2 c =
    let a = c.self.inside in
    let at = c.args.address in
    let kept = c.self.invariant in
    let new = new-by a kept at c.index.result.now (word-read a.table.items _ at _ c.grow.ensures.items c.index.ensures) c.if-known.false in
    IsKept-more a kept at c.args.to (address-there a kept _ at c.self.view_is c.requires.address) (address-there a kept _ c.args.to c.self.view_is c.requires.to) _ refl
    (word-set a.table.items _ at _ c.args.to c.grow.ensures.items c.word_of.ensures) c.grow.ensures.capacity c.push.ensures.list c.push.ensures.spare new

pub returns : goal.returns
returns c =
    let a = c.self.inside in
    let table = word-set a.table.items _ c.args.address _ c.args.to c.grow.ensures.items c.word_of.ensures in
    forwarding-more a c.args.address c.args.to (address-there a c.self.invariant _ c.args.address c.self.view_is c.requires.address) _ table
    ∙ ap (λ (m : Forwarding). with_move m c.args.address c.args.to) c.self.view_is
