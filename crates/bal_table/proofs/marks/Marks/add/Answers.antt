use Rattle.std.proofs.Common.{◌<◌, ◌∙◌, subst, sym}
use Rattle.bal_table.specs.Marks.{Marked}
use Rattle.bal_table.proofs.KeptMarking.{AreKept-more}
use Rattle.bal_table.proofs.marks.Marks.add.Goals as goal

pub invariant_of-self : goal.invariant_of-self
invariant_of-self c =
    let kept = c.self.invariant in
    let within = subst (λ (m : Marked). c.args.address < m.words) (sym c.self.view_is) c.requires.within in
    let new = sym (kept.each c.args.address) ∙ (sym c.contains.ensures ∙ c.if-contains.false) in
    AreKept-more c.self.inside kept c.args.address c.insert.new.self c.push.new.self within new c.insert.ensures.members c.insert.ensures.room c.push.ensures.list c.push.ensures.spare
