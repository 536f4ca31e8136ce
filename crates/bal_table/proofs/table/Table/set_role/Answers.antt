use Rattle.std.proofs.Common.{◌≡◌, ◌<◌, List, arith, false, length, subst, sym, true}
use Rattle.std.specs.Prelude.{Some}
use Rattle.bal_layout.specs.Regions.{emptied, is_free, is_object, region_at}
use Rattle.bal_layout.specs.declared.region_state.RegionState.{RegionState}
use Rattle.bal_layout.specs.declared.region_state.Role.TheVariants.{Object}
use Rattle.bal_table.specs.Changes.{with_region}
use Rattle.bal_table.specs.Kept.{IsLowest, table_of}
use Rattle.bal_table.specs.Table.{IsTable, Table}
use Rattle.bal_table.proofs.Parts.{state-read}
use Rattle.bal_table.proofs.Roles.{counted-few, eden_state, free_state, recounted-is, recounted-less}
use Rattle.bal_table.proofs.Tables.{IsTable-role}
use Rattle.bal_table.proofs.table.Table.set_role.Goals as goal

pub recounted-self-inside-requires-clause-less : goal.recounted-self-inside-requires-clause-less
recounted-self-inside-requires-clause-less c =
    let a = c.self.inside in
    let within = subst (λ (t : Table). c.args.region < t.shape.regions) (sym c.self.view_is) c.requires.within in
    recounted-less free_state a.states.items c.args.region c.index.result.now (record c.index_mut.result.now { role = c.args.role }) a.free
    (omega (arith, within, c.self.invariant.table.regions)) c.index.ensures c.self.invariant.counts.free
    c.is_free.result c.is_free-2.result c.is_free.ensures c.is_free-2.ensures

pub recounted-self-inside-requires-clause-more : goal.recounted-self-inside-requires-clause-more
recounted-self-inside-requires-clause-more c = λ now.
    let a = c.self.inside in
    omega (arith, c.self.invariant.counts.free, counted-few 0 free_state a.states.items, c.self.invariant.table.regions, c.self.invariant.table.shape.most_regions)

pub recounted-self-inside-requires-2-clause-less : goal.recounted-self-inside-requires-2-clause-less
recounted-self-inside-requires-2-clause-less c =
    let a = c.self.inside in
    let within = subst (λ (t : Table). c.args.region < t.shape.regions) (sym c.self.view_is) c.requires.within in
    recounted-less eden_state a.states.items c.args.region c.index.result.now (record c.index_mut.result.now { role = c.args.role }) a.eden
    (omega (arith, within, c.self.invariant.table.regions)) c.index.ensures c.self.invariant.counts.eden
    c.is_eden.result c.is_eden-2.result c.is_eden.ensures c.is_eden-2.ensures

pub recounted-self-inside-requires-2-clause-more : goal.recounted-self-inside-requires-2-clause-more
recounted-self-inside-requires-2-clause-more c = λ now.
    let a = c.self.inside in
    omega (arith, c.self.invariant.counts.eden, counted-few 0 eden_state a.states.items, c.self.invariant.table.regions, c.self.invariant.table.shape.most_regions)

pub invariant_of-self : goal.invariant_of-self
invariant_of-self c =
    let a = c.self.inside in
    let q = c.args.region in
    let role = c.args.role in
    let kept = c.self.invariant in
    let within = subst (λ (t : Table). q < t.shape.regions) (sym c.self.view_is) c.requires.within in
    let less : q < length a.states.items = omega (arith, within, kept.table.regions) in
    let current = subst (λ (t : Table). t.current ≡ Some q → role ≡ Object 0) (sym c.self.view_is) c.requires.current in
    let empty = subst (λ (t : Table). is_object role ≡ false → (region_at t.regions q).used ≡ 0) (sym c.self.view_is) c.requires.empty in
    let none = subst (λ (t : Table). is_free role ≡ true → emptied (region_at t.regions q) ≡ region_at t.regions q) (sym c.self.view_is) c.requires.free in
    let read = state-read a kept q within c.index_mut.result.now c.index_mut.ensures.value in
    let state : RegionState = record c.index_mut.result.now { role = role } in
    record {
      table = subst (λ (r : RegionState). IsTable (with_region (table_of a) q (record r { role = role }))) (sym read)
          (IsTable-role (table_of a) q role kept.table within c.requires.role current empty none);
      counts = record {
        lowest = subst (λ (rs : List RegionState). IsLowest rs c.lowest_after-self-inside.result) c.deref.ensures.value c.lowest_after-self-inside.ensures;
        free = recounted-is free_state a.states.items q c.index.result.now state a.free less c.index.ensures kept.counts.free
            c.is_free.result c.is_free-2.result c.is_free.ensures c.is_free-2.ensures c.recounted-self-inside.result c.recounted-self-inside.ensures;
        eden = recounted-is eden_state a.states.items q c.index.result.now state a.eden less c.index.ensures kept.counts.eden
            c.is_eden.result c.is_eden-2.result c.is_eden.ensures c.is_eden-2.ensures c.recounted-self-inside-2.result c.recounted-self-inside-2.ensures;
      };
    }
