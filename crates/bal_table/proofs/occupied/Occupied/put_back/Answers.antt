use Rattle.std.proofs.Common.{◌≡◌, ◌∙◌, List, ap, arith, false, subst, sym, true}
use Rattle.bal_layout.specs.declared.region_state.RegionState.{RegionState}
use Rattle.bal_layout.specs.declared.region_state.Role.{Role}
use Rattle.bal_region.specs.Land.{Land}
use Rattle.bal_table.specs.Kept.{IsLowest}
use Rattle.bal_table.specs.KeptOccupied.{occupied_of}
use Rattle.bal_table.specs.Occupied.{MayPutBack, Occupied, with_put_back}
use Rattle.bal_table.specs.declared.occupied.Occupied.TheInside.{Inside}
use Rattle.bal_table.proofs.Hollow.{hollow-back, number-within, table-back, view-back, was-eden, was-free}
use Rattle.bal_table.proofs.Roles.{counted-few, eden_state, free_state, recounted-is, recounted-less}
use Rattle.bal_table.proofs.occupied.Occupied.put_back.Goals as goal

-- the region may be put back
may : (a : Inside) (o : Occupied) (l : Land) (role : Role) → occupied_of a ≡ o → MayPutBack o l role → MayPutBack (occupied_of a) l role
may a o l role view is = subst (λ (p : Occupied). MayPutBack p l role) (sym view) is

pub index_mut-state-requires : goal.index_mut-state-requires
index_mut-state-requires c =
    omega (arith, (number-within c.self.inside c.self.invariant c.args.region c.args.role (may c.self.inside c.args.self.now c.args.region c.args.role c.self.view_is c.requires) c.number-number.result c.number-number.ensures).0, c.self.inside.states.ok.0)

pub recounted-self-inside-requires-clause-less : goal.recounted-self-inside-requires-clause-less
recounted-self-inside-requires-clause-less c =
    let a = c.self.inside in
    let q = c.number-number.result in
    let r = c.index_mut-state.result.now in
    let less = number-within c.self.inside c.self.invariant c.args.region c.args.role (may c.self.inside c.args.self.now c.args.region c.args.role c.self.view_is c.requires) q c.number-number.ensures in
    let free = was-free c.self.inside c.self.invariant c.args.region c.args.role (may c.self.inside c.args.self.now c.args.region c.args.role c.self.view_is c.requires) q c.used-used.result r c.number-number.ensures c.used-used.ensures.number c.index_mut-state.ensures.value in
    recounted-less free_state a.states.items q r (record r { role = c.args.role; used = c.used-used.result; estimate = c.used-used.result }) a.free
    less.0 c.index_mut-state.ensures.value c.self.invariant.counts.free true c.is_free.result free c.is_free.ensures

pub recounted-self-inside-requires-clause-more : goal.recounted-self-inside-requires-clause-more
recounted-self-inside-requires-clause-more c = λ now.
    omega (arith, c.self.invariant.counts.free, counted-few 0 free_state c.self.inside.states.items, c.self.invariant.table.regions, c.self.invariant.table.shape.most_regions)

pub recounted-self-inside-requires-2-clause-more : goal.recounted-self-inside-requires-2-clause-more
recounted-self-inside-requires-2-clause-more c = λ now.
    omega (arith, c.self.invariant.counts.eden, counted-few 0 eden_state c.self.inside.states.items, c.self.invariant.table.regions, c.self.invariant.table.shape.most_regions)

pub lowest_after-self-inside-requires-clause-region : goal.lowest_after-self-inside-requires-clause-region
lowest_after-self-inside-requires-clause-region c =
    let less = number-within c.self.inside c.self.invariant c.args.region c.args.role (may c.self.inside c.args.self.now c.args.region c.args.role c.self.view_is c.requires) c.number-number.result c.number-number.ensures in
    omega (arith, less.0, c.deref.ensures.len, c.self.inside.states.ok.0)

pub index_mut-requires : goal.index_mut-requires
index_mut-requires c =
    omega (arith, (number-within c.self.inside c.self.invariant c.args.region c.args.role (may c.self.inside c.args.self.now c.args.region c.args.role c.self.view_is c.requires) c.number-number.result c.number-number.ensures).1, c.self.inside.regions.ok.0)

pub invariant_of-self : goal.invariant_of-self
invariant_of-self c =
    let a = c.self.inside in
    let q = c.number-number.result in
    let used = c.used-used.result in
    let r = c.index_mut-state.result.now in
    let state : RegionState = record r { role = c.args.role; used = used; estimate = used } in
    let can = may a c.args.self.now c.args.region c.args.role c.self.view_is c.requires in
    let read = c.index_mut-state.ensures.value in
    let less = number-within a c.self.invariant c.args.region c.args.role can q c.number-number.ensures in
    let free = was-free a c.self.invariant c.args.region c.args.role can q used r c.number-number.ensures c.used-used.ensures.number read in
    let eden = was-eden a c.self.invariant c.args.region c.args.role can q used r c.number-number.ensures c.used-used.ensures.number read in
    record {
      table = table-back a c.self.invariant c.args.region c.args.role can q used r c.number-number.ensures c.used-used.ensures.number read c.used-used.ensures.limits;
      counts = record {
        lowest = subst (λ (rs : List RegionState). IsLowest rs c.lowest_after-self-inside.result) c.deref.ensures.value c.lowest_after-self-inside.ensures;
        free = recounted-is free_state a.states.items q r state a.free less.0 read c.self.invariant.counts.free true c.is_free.result free c.is_free.ensures
            c.recounted-self-inside.result c.recounted-self-inside.ensures;
        eden = recounted-is eden_state a.states.items q r state a.eden less.0 read c.self.invariant.counts.eden false c.is_eden.result eden c.is_eden.ensures
            c.recounted-self-inside-2.result c.recounted-self-inside-2.ensures;
      };
      hollow = hollow-back a c.self.invariant c.args.region c.args.role can q used r c.number-number.ensures c.used-used.ensures.number read;
    }

pub returns : goal.returns
returns c =
    let a = c.self.inside in
    let can = may a c.args.self.now c.args.region c.args.role c.self.view_is c.requires in
    view-back a c.self.invariant c.args.region c.args.role can c.number-number.result c.used-used.result c.index_mut-state.result.now
    c.number-number.ensures c.used-used.ensures.number c.index_mut-state.ensures.value
    ∙ ap (λ (o : Occupied). with_put_back o c.args.region c.args.role) c.self.view_is
