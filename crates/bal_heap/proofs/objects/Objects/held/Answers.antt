use Rattle.std.proofs.Common.{◌∙◌, ap, subst, sym}
use Rattle.std.specs.Prelude.{◌≤◌, ◌^◌, IfSome, IsSome}
use Rattle.bal_layout.specs.References.{target_of}
use Rattle.bal_table.specs.Table.{things_of}
use Rattle.bal_heap.specs.Kept.{objects_by}
use Rattle.bal_heap.specs.Objects.{Objects, word_in}
use Rattle.bal_heap.proofs.RootFacts.{register-finds, register-starts, word-few}
use Rattle.bal_heap.proofs.objects.Objects.held.Goals as goal

pub target_of-requires : goal.target_of-requires
target_of-requires c =
    subst (λ w. w ≤ 2 ^ 32) (sym c.register.ensures)
    (word-few c.self.inside.table (word_in (objects_by c.self.inside) c.args.thread c.args.register) c.self.invariant.on.table
    (register-finds (objects_by c.self.inside) c.args.thread c.args.register c.self.invariant c.requires.thread c.requires.register))

pub returns-clause-target : goal.returns-clause-target
returns-clause-target c =
    c.target_of.ensures ∙ (ap target_of c.register.ensures ∙ ap (λ (o : Objects). target_of (word_in o c.args.thread c.args.register)) c.self.view_is)

pub returns-clause-start : goal.returns-clause-start
returns-clause-start c =
    subst (λ (o : Objects). IfSome c.target_of.result (λ a. IsSome (things_of o.table a))) c.self.view_is
    (register-starts (objects_by c.self.inside) c.args.thread c.args.register c.target_of.result c.self.invariant c.requires.thread c.requires.register
    (c.target_of.ensures ∙ ap target_of c.register.ensures))
