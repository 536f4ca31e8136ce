use Rattle.std.proofs.Common.{◌∙◌, Option, ap, sym, ℕ}
use Rattle.bal_eden.specs.Room.{is_within_budget}
use Rattle.bal_eden.proofs.Finding.{within_budget-some}
use Rattle.bal_eden.proofs.room.within_budget.Goals as goal

pub returns-in-Some : goal.returns-in-Some
returns-in-Some c =
    within_budget-some c.args.table.now c.in-Some.eden c.eden_count.result c.eden_count.ensures.count
    ∙ ap (λ (soft : Option ℕ). is_within_budget c.args.table.now soft) (sym c.in-Some.is)
