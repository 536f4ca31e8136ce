use Rattle.std.proofs.Common.{◌≡◌, [], sym, subst}
use Rattle.std.specs.Prelude.{IfOk}
use Rattle.bal_model.specs.declared.event.PartialCollection.{PartialCollection}
use Rattle.bal_heap.specs.Kept.{objects_by}
use Rattle.bal_heap.specs.Objects.{IsEvacuated, Objects}
use Rattle.bal_heap.proofs.Evacuated.{all-remembered, evacuated, kept-evacuated, shape-evacuated}
use Rattle.bal_heap.proofs.objects.Objects.evacuate.Goals as goal

pub partial-did-requires-clause-remembered : goal.partial-did-requires-clause-remembered
partial-did-requires-clause-remembered c =
    all-remembered (objects_by c.self.inside) c.self.invariant.board c.self.invariant.on (subst (λ (o : Objects). o.cards.list ≡ []) (sym c.self.view_is) c.requires.clean)

pub invariant_of-self : goal.invariant_of-self
invariant_of-self c =
    kept-evacuated (objects_by c.self.inside) c.args.older c.args.limit c.partial-did.new.table c.partial-did.new.cards c.partial-did.new.roots c.geometry.ensures.limits
    c.partial-did.ensures.shape c.self.invariant.board c.self.invariant.on c.partial-did.result c.partial-did.ensures.legal c.partial-did.ensures.meets
    c.partial-did.ensures.covered c.partial-did.ensures.same

pub returns-clause-ok : goal.returns-clause-ok
returns-clause-ok c =
    subst (λ (o : Objects). IfOk c.partial-did.result (λ (did : PartialCollection). IsEvacuated o
    (record { table = c.partial-did.new.table; cards = c.partial-did.new.cards; roots = c.partial-did.new.roots; made = c.self.inside.made.list })
    c.args.older c.args.limit did.chosen.list did.scans did.kept.list did.aborts.list)) c.self.view_is
    (evacuated (objects_by c.self.inside) c.args.older c.args.limit c.partial-did.new.table c.partial-did.new.cards c.partial-did.new.roots c.geometry.ensures.limits
    c.partial-did.ensures.shape c.self.invariant.board c.self.invariant.on c.partial-did.result c.partial-did.ensures.legal c.partial-did.ensures.meets
    c.partial-did.ensures.covered)

pub returns-clause-shape : goal.returns-clause-shape
returns-clause-shape c =
    subst (λ (o : Objects). c.partial-did.new.table.shape ≡ o.table.shape) c.self.view_is
    (shape-evacuated (objects_by c.self.inside) c.args.older c.args.limit c.partial-did.new.table c.partial-did.new.cards c.partial-did.new.roots c.geometry.ensures.limits
    c.partial-did.ensures.shape c.self.invariant.board c.self.invariant.on c.partial-did.result c.partial-did.ensures.legal c.partial-did.ensures.meets
    c.partial-did.ensures.covered c.partial-did.ensures.same)
