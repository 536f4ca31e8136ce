use Rattle.std.proofs.Common.{◌≡◌, List, ℕ, get_or, subst, sym, true}
use Rattle.std.specs.Prelude.{IsSome}
use Rattle.bal_table.specs.Table.{things_of}
use Rattle.bal_gather.specs.Lent.{is_chosen}
use Rattle.bal_gather.proofs.Listed.{at-number}
use Rattle.bal_gather.proofs.numbered.Numbered.address_of.Goals as goal

pub returns-clause-start : goal.returns-clause-start
returns-clause-start c =
    let l = c.args.self.now in
    subst (λ (xs : List ℕ). IsSome (things_of l.table (get_or xs c.args.object 0))) (sym c.addresses.ensures) (at-number l c.args.object c.requires).0

pub returns-clause-chosen : goal.returns-clause-chosen
returns-clause-chosen c =
    let l = c.args.self.now in
    subst (λ (xs : List ℕ). is_chosen l (get_or xs c.args.object 0) ≡ true) (sym c.addresses.ensures) (at-number l c.args.object c.requires).1
