use Rattle.std.proofs.Common.{ℕ, List, ap, subst, sym, ◌∙◌}
use Rattle.bal_evacuate.specs.Plan.{MayEvacuate, planned}
use Rattle.bal_gather.specs.Lent.{Lent}
use Rattle.bal_gather.specs.Objects.{graph_of}
use Rattle.bal_layout.specs.Shape.{Shape}
use Rattle.bal_partial.proofs.Evacuable.{may-evacuate}
use Rattle.bal_table.specs.Table.{IsTable}
use Rattle.bal_partial.proofs.evacuating.evacuate_gathered.Goals as goal

pub make-requires : goal.make-requires
make-requires c =
    let t = c.requires.0 in
    let chosen = c.requires.1 in
    let roots = c.requires.2 in
    let p = c.requires.3 in
    let l = c.args.numbered.now in
    let table : IsTable l.table = subst (λ (m : Lent). IsTable m.table) c.chosen.ensures c.geometry-geometry.ensures.limits in
    subst (λ (s : Shape). MayEvacuate (planned s (graph_of l) c.as_slice-held.result.now c.args.pool.items c.args.limit)) (sym (c.geometry-geometry.ensures.shape ∙ ap (λ (m : Lent). m.table.shape) c.chosen.ensures))
    (subst (λ (hs : List ℕ). MayEvacuate (planned l.table.shape (graph_of l) hs c.args.pool.items c.args.limit)) (sym c.as_slice-held.ensures.value)
    (may-evacuate t chosen roots c.args.gathered.now.held.items c.args.gathered.now.places.items l p.table p.lent
    (λ a k. c.objects_are_numbered_by_address.ensures.number l a k table)
    (c.the_objects_are_a_graph.ensures l table) p.gathered c.args.pool.items p.free c.args.limit))
