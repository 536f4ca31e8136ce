use Rattle.std.proofs.Common.{◌-◌, ap, arith, List}
use Rattle.bal_layout.specs.declared.name.Name.{Name}
use Rattle.std.specs.Prelude.{Option}
use Rattle.bal_model.specs.Plain.{refs_of, referring}
use Rattle.bal_model.proofs.GraphFacts.{object-at, changed_at-map}
use Rattle.bal_model.proofs.plain.change.write_reference.Goals as goal

pub returns-then-slot-len-clause-has : goal.returns-then-slot-len-clause-has
returns-then-slot-len-clause-has c =
    let r = ap refs_of (object-at c.args.made.now.items c.args.ordinal c.index_mut-node.result.now (omega arith) (omega arith) c.index_mut-node.ensures.value) in
    rw r (grind arith)

pub returns-clause-has : goal.returns-clause-has
returns-clause-has c =
    let r = ap refs_of (object-at c.args.made.now.items c.args.ordinal c.index_mut-node.result.now (omega arith) (omega arith) c.index_mut-node.ensures.value) in
    rw r (grind arith)

pub returns-clause-graph : goal.returns-clause-graph
returns-clause-graph c =
    let n = c.index_mut-node.result.now in
    changed_at-map c.args.made.now.items (c.args.ordinal - 1) (referring c.args.slot c.args.content) n (record { kind = n.kind; refs = c.set.new.self; values = n.values }) (omega arith) c.index_mut-node.ensures.value
    (ap (λ (refs : List (Option Name)). record { kind = n.kind; refs = refs; values = n.values.list }) c.set.ensures.list)
