use Rattle.std.proofs.Common.{◌-◌, ℕ, ap, arith, List}
use Rattle.bal_model.specs.Plain.{values_of, counting}
use Rattle.bal_model.proofs.GraphFacts.{object-at, changed_at-map}
use Rattle.bal_model.proofs.plain.change.write_value.Goals as goal

pub returns-then-slot-len-clause-has : goal.returns-then-slot-len-clause-has
returns-then-slot-len-clause-has c =
    let r = ap values_of (object-at c.args.made.now.items c.args.ordinal c.index_mut-node.result.now (omega arith) (omega arith) c.index_mut-node.ensures.value) in
    rw r (grind arith)

pub returns-clause-has : goal.returns-clause-has
returns-clause-has c =
    let r = ap values_of (object-at c.args.made.now.items c.args.ordinal c.index_mut-node.result.now (omega arith) (omega arith) c.index_mut-node.ensures.value) in
    rw r (grind arith)

pub returns-clause-graph : goal.returns-clause-graph
returns-clause-graph c =
    let n = c.index_mut-node.result.now in
    changed_at-map c.args.made.now.items (c.args.ordinal - 1) (counting c.args.slot c.args.number) n (record { kind = n.kind; refs = n.refs; values = c.set.new.self }) (omega arith) c.index_mut-node.ensures.value
    (ap (λ (values : List ℕ). record { kind = n.kind; refs = n.refs.list; values = values }) c.set.ensures.list)
