use Rattle.std.proofs.Common.{ap, arith, subst, sym, ◌∙◌}
use Rattle.bal_cards.specs.Cards.{Cards}
use Rattle.bal_table.specs.Table.{Table}
use Rattle.bal_barrier.specs.Flush.{LeadToObjects, with_notes}
use Rattle.bal_barrier.proofs.Targets.{lead-states}
use Rattle.bal_barrier.proofs.tests.flushes.Goals as goal

pub invariant_of-heap : goal.invariant_of-heap
invariant_of-heap c =
    let h = c.args.heap.now in
    let f = c.flush.ensures.flushed in
    record {
      shape = ap (λ (x : Cards). x.shape) f.clean ∙ (h.shape ∙ sym (ap (λ (u : Table). u.shape) f.remembered));
      found = subst LeadToObjects (sym f.remembered) (lead-states h.table (with_notes 2 h.table.regions f.made) h.table.current h.found);
      scratch = omega (arith, c.flush.ensures.scratch, h.scratch);
    }
