use Rattle.std.proofs.Common.{◌≡◌, ◌<◌, ap, subst, sym, true}
use Rattle.bal_layout.specs.Regions.{is_object}
use Rattle.bal_layout.specs.declared.region_state.RegionState.{RegionState}
use Rattle.bal_table.specs.Changes.{with_region}
use Rattle.bal_table.specs.Kept.{table_of}
use Rattle.bal_table.specs.Table.{IsTable, Table, role_at}
use Rattle.bal_table.proofs.Parts.{counts-kept, state-read}
use Rattle.bal_table.proofs.Tables.{IsTable-remembered, object-not_free}
use Rattle.bal_table.proofs.table.Table.note.Goals as goal

pub invariant_of-self : goal.invariant_of-self
invariant_of-self c =
    let a = c.self.inside in
    let q = c.args.region in
    let list = c.note.new.self in
    let kept = c.self.invariant in
    let within = subst (λ (t : Table). q < t.shape.regions) (sym c.self.view_is) c.requires.within in
    let objects = subst (λ (t : Table). is_object (role_at t q) ≡ true) (sym c.self.view_is) c.requires.objects in
    let read = state-read a kept q within c.index_mut.result.now c.index_mut.ensures.value in
    record {
      table = subst (λ (r : RegionState). IsTable (with_region (table_of a) q (record r { remembered = list }))) (sym read)
          (IsTable-remembered (table_of a) q list kept.table within (λ free. absurd (object-not_free (role_at (table_of a) q) objects free)));
      counts = counts-kept a kept q within (record c.index_mut.result.now { remembered = list }) (ap (λ (r : RegionState). r.role) read);
    }
