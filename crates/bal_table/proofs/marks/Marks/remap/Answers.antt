use Rattle.std.proofs.Common.{◌≡◌, ◌∙◌, ap, arith, length, subst, sym, take}
use Rattle.bal_layout.specs.Regions.{is_in}
use Rattle.bal_table.specs.Marks.{Marked, StayApart, with_remapped}
use Rattle.bal_table.specs.Moves.{IsForwarding}
use Rattle.bal_table.proofs.KeptRemapping.{IsMarked-left, marks-left}
use Rattle.bal_table.proofs.marks.Marks.remap.Goals as goal

pub replace_all-requires : goal.replace_all-requires
replace_all-requires c =
    let a = c.self.inside in
    let heap = subst (λ (m : Marked). length c.args.moves.now.words ≡ m.words) (sym c.self.view_is) c.requires.heap in
    let apart = subst (λ (m : Marked). StayApart c.args.gone.now c.args.moves.now m.order) (sym c.self.view_is) c.requires.apart in
    let marked = IsMarked-left a c.self.invariant c.args.gone.now c.args.moves.now c.remove_all.new.bits.members c.remove_all.ensures.members
    c.keep_moved.new.order.list c.count_members-self-inside.result _ c.keep_moved.ensures.list (ap (take a.taken) c.as_slice.ensures) c.count_members-self-inside.ensures
    heap (subst IsForwarding c.moves.view_is c.moves.invariant.forwarding) apart in
    λ n among. omega (arith, c.self.invariant.bits, c.remove_all.ensures.room, marked.within n (ap (is_in n) (sym c.as_slice-2.ensures) ∙ among))

pub invariant_of-self : goal.invariant_of-self
invariant_of-self c =
    let a = c.self.inside in
    let kept = c.self.invariant in
    let heap = subst (λ (m : Marked). length c.args.moves.now.words ≡ m.words) (sym c.self.view_is) c.requires.heap in
    let apart = subst (λ (m : Marked). StayApart c.args.gone.now c.args.moves.now m.order) (sym c.self.view_is) c.requires.apart in
    let marked = IsMarked-left a kept c.args.gone.now c.args.moves.now c.remove_all.new.bits.members c.remove_all.ensures.members
    c.keep_moved.new.order.list c.count_members-self-inside.result _ c.keep_moved.ensures.list (ap (take a.taken) c.as_slice.ensures) c.count_members-self-inside.ensures
    heap (subst IsForwarding c.moves.view_is c.moves.invariant.forwarding) apart in
    record {
      marked = marked;
      each = λ n. c.replace_all.ensures.members n ∙ ap (is_in n) c.as_slice-2.ensures;
      bits = omega (arith, kept.bits, c.remove_all.ensures.room, c.replace_all.ensures.room);
      room = omega (arith, kept.room, c.keep_moved.ensures.room);
    }

pub returns : goal.returns
returns c =
    let a = c.self.inside in
    let front = ap (take a.taken) c.as_slice.ensures in
    marks-left a c.self.invariant c.args.gone.now c.args.moves.now c.remove_all.new.bits.members c.remove_all.ensures.members
    c.keep_moved.new.order.list c.count_members-self-inside.result _ c.keep_moved.ensures.list front c.count_members-self-inside.ensures
    ∙ ap (with_remapped c.args.gone.now c.args.moves.now) c.self.view_is
