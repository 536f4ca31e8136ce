use Rattle.std.proofs.Common.{ap, set, subst, sym, ◌∙◌}
use Rattle.bal_layout.specs.Regions.{region_at}
use Rattle.bal_remember.specs.Remembered.{with_card}
use Rattle.bal_table.specs.Table.{Table, remembered_at}
use Rattle.bal_barrier.specs.Flush.{LeadToObjects}
use Rattle.bal_rebuild.proofs.tests.note.Goals as goal

pub invariant_of-heap : goal.invariant_of-heap
invariant_of-heap c =
    let h = c.args.heap.now in
    let t = h.table in
    let q = c.args.region in
    let list = with_card c.args.limit c.args.card (remembered_at t q) in
    record {
      shape = h.shape ∙ sym (ap (λ (u : Table). u.shape) c.note.ensures.table);
      found = subst LeadToObjects (sym c.note.ensures.table)
          (c.states_say_nothing_of_references.ensures.found t (set t.regions q (record (region_at t.regions q) { remembered = list })) t.current h.found);
    }
