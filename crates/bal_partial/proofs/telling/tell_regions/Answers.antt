use Rattle.std.proofs.Common.{◌≡◌, ℕ, List, ap, length, subst, sym, ◌∙◌}
use Rattle.std.specs.Prelude.{IsTrue, filter, ◌↔◌, ◌⊎◌}
use Rattle.std.specs.List.{range_with_len}
use Rattle.bal_base.proofs.Lemmas.{filter-ascends}
use Rattle.bal_base.specs.Bits.{IsAscending, is_member}
use Rattle.bal_layout.specs.Regions.{is_in}
use Rattle.bal_partial.specs.Evacuating.{HasCopy}
use Rattle.bal_partial.proofs.SurvivorRegions.{HaveCopies, LiesIn, just-listed}
use Rattle.bal_partial.proofs.telling.tell_regions.Goals as goal

pub returns-clause-ascending : goal.returns-clause-ascending
returns-clause-ascending c =
    subst IsAscending (sym c.list_members.ensures) (filter-ascends (is_member c.insert_marked.new.members.members) 0 c.regions.result)

pub returns-clause-just : goal.returns-clause-just
returns-clause-just c = λ q.
    let s = c.args.geometry.now in
    let second = c.insert_marked.new.members.members in
    let listed : c.list_members.new.into.list ≡ filter (is_member second) (range_with_len 0 s.regions)
    = c.list_members.ensures ∙ ap (λ (n : ℕ). filter (is_member second) (range_with_len 0 n)) c.regions.ensures.number in
    subst (λ (l : List ℕ). IsTrue (is_in q l) ↔ (HasCopy s c.args.won.now (length c.args.won.now) q ⊎ LiesIn s c.args.marked.now q)) (sym listed)
    (just-listed s c.regions.ensures.limits c.args.won.now c.args.marked.now c.requires.copies c.requires.marked c.insert_copies.new.members.members second
    (subst (λ (old : List ℕ). HaveCopies s c.args.won.now (length c.args.won.now) old c.insert_copies.new.members.members) c.requires.no_members c.insert_copies.ensures.members)
    c.insert_marked.ensures.members q)
