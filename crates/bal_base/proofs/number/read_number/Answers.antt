use Rattle.std.proofs.Common.{arith, subst, sym}
use Rattle.std.proofs.lemmas.Bool.Decides.{nat_tests}
use Rattle.bal_base.specs.Number.{SpellsNumber}
use Rattle.bal_base.proofs.Numbers.{leading-all, leading-whole}
use Rattle.bal_base.proofs.number.read_number.Goals as goal

pub returns-in_err-number : goal.returns-in_err-number
returns-in_err-number c = rw c.from_residual.ensures (λ n s. c.in_err-number.ensures n (subst (λ w. SpellsNumber w n) (sym (leading-all c.args.word.now n s)) s))

pub returns-then-not-is_empty : goal.returns-then-not-is_empty
returns-then-not-is_empty c = λ n s.
    let read = c.in_ok-number.ensures in
    let none = leading-whole c.args.word.now c.in_ok-number.rest.now n c.in_ok-number.number s read.0.1 read.1 in
    grind (arith, nat_tests, none, c.if-not-is_empty.ensures)
