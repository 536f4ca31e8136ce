use Rattle.std.proofs.Common.{◌≡◌, ◌+◌, ◌-◌, [], ◌≤◌, ◌<◌, ℕ, List, Bool, true, false, length, not, refl, ap, sym, subst, rules, arith}
use Rattle.std.specs.Prelude.{◌&&◌, nat_le, nat_lt}
use Rattle.std.specs.List.{filter}
use Rattle.bal_base.specs.Bits.{IsAscending}
use Rattle.bal_remember.specs.Remembered.{cards, remembered_by, without_between}
use Rattle.bal_remember.proofs.Ascending.{IsCut, between-goes, between-none, cut-found, filter-ascends, length-removed}
use Rattle.bal_remember.proofs.list.RememberedList.remove_between.Goals as goal

-- the list without these cards, whether or not it overflowed
between : (from to : ℕ) (cs ds : List ℕ) → filter (λ card. not (nat_le from card && nat_lt card to)) cs ≡ ds → (b : Bool) → remembered_by ds b ≡ without_between from to (remembered_by cs b)
between from to cs ds same true = refl
between from to cs ds same false = ap cards (sym same)

-- an empty list has nothing to take out
has-some : (cs : List ℕ) (f t : ℕ) → f < t → t ≤ length cs → cs ≡ [] → ⊥
has-some cs f t some within none = let e = ap length none in omega arith

pub returns-then-first-end : goal.returns-then-first-end
returns-then-first-end c =
    let cs = c.self.inside.cards.list in
    let low : IsCut c.args.from cs c.partition_point-first.result = cut-found _ cs _ _ c.as_slice-cards.ensures c.self.invariant.ascending c.partition_point-first.ensures.bound c.partition_point-first.ensures.partitioned (λ a r q k. search rules) in
    let high : IsCut c.args.to cs c.partition_point-end.result = cut-found _ cs _ _ c.as_slice-cards.ensures c.self.invariant.ascending c.partition_point-end.ensures.bound c.partition_point-end.ensures.partitioned (λ a r q k. search rules) in
    rw (c.remove_range.ensures.list, ← c.self.view_is) (between _ _ cs _ (between-goes _ _ cs _ _ low high (omega arith)) c.self.inside.overflowed)

pub returns-else-first-end : goal.returns-else-first-end
returns-else-first-end c =
    let cs = c.self.inside.cards.list in
    let low : IsCut c.args.from cs c.partition_point-first.result = cut-found _ cs _ _ c.as_slice-cards.ensures c.self.invariant.ascending c.partition_point-first.ensures.bound c.partition_point-first.ensures.partitioned (λ a r q k. search rules) in
    let high : IsCut c.args.to cs c.partition_point-end.result = cut-found _ cs _ _ c.as_slice-cards.ensures c.self.invariant.ascending c.partition_point-end.ensures.bound c.partition_point-end.ensures.partitioned (λ a r q k. search rules) in
    rw (← c.self.view_is) (between _ _ cs cs (between-none _ _ cs _ _ low high c.if-first-end.false) c.self.inside.overflowed)

pub invariant_of-self : goal.invariant_of-self
invariant_of-self c =
    let cs = c.self.inside.cards.list in
    let low : IsCut c.args.from cs c.partition_point-first.result = cut-found _ cs _ _ c.as_slice-cards.ensures c.self.invariant.ascending c.partition_point-first.ensures.bound c.partition_point-first.ensures.partitioned (λ a r q k. search rules) in
    let high : IsCut c.args.to cs c.partition_point-end.result = cut-found _ cs _ _ c.as_slice-cards.ensures c.self.invariant.ascending c.partition_point-end.ensures.bound c.partition_point-end.ensures.partitioned (λ a r q k. search rules) in
    let many = length-removed cs c.partition_point-first.result c.partition_point-end.result (omega arith) high.within in
    let kept : length c.remove_range.new.self.list + (c.partition_point-end.result - c.partition_point-first.result) ≡ length cs = rw c.remove_range.ensures.list many in
    record {
      ascending = rw c.remove_range.ensures.list (subst IsAscending (between-goes c.args.from c.args.to cs _ _ low high (omega arith)) (filter-ascends _ cs c.self.invariant.ascending));
      few = omega arith;
      room = omega arith;
      none = λ over. absurd (has-some cs _ _ c.if-first-end.true high.within (c.self.invariant.none over));
    }
