use Rattle.std.proofs.Common.{◌<◌, ap, subst, sym}
use Rattle.bal_layout.specs.declared.region_state.RegionState.{RegionState}
use Rattle.bal_table.specs.Changes.{with_region}
use Rattle.bal_table.specs.Kept.{table_of}
use Rattle.bal_table.specs.Table.{IsTable, Table}
use Rattle.bal_table.proofs.Parts.{counts-kept, state-read}
use Rattle.bal_table.proofs.Tables.{IsTable-remembered}
use Rattle.bal_table.proofs.table.Table.empty_list.Goals as goal

pub invariant_of-self : goal.invariant_of-self
invariant_of-self c =
    let a = c.self.inside in
    let q = c.args.region in
    let list = c.clear.new.self in
    let kept = c.self.invariant in
    let within = subst (λ (t : Table). q < t.shape.regions) (sym c.self.view_is) c.requires in
    let read = state-read a kept q within c.index_mut.result.now c.index_mut.ensures.value in
    record {
      table = subst (λ (r : RegionState). IsTable (with_region (table_of a) q (record r { remembered = list }))) (sym read)
          (IsTable-remembered (table_of a) q list kept.table within (λ _. c.clear.ensures));
      counts = counts-kept a kept q within (record c.index_mut.result.now { remembered = list }) (ap (λ (r : RegionState). r.role) read);
    }
