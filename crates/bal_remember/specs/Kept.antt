-- How a remembered list is kept.
use Rattle.std.specs.Prelude.{◌≡◌, ◌+◌, ◌≤◌, true, [], length}
use Rattle.bal_base.specs.Bits.{IsAscending}
use Rattle.bal_remember.specs.declared.list.RememberedList.TheInside.{Inside}

-- the cards ascend, there is room for as many as any list holds, and an overflowed list has none
pub record IsKept (a : Inside) : Type 0 where
  pub ascending : IsAscending a.cards.list
  pub few : length a.cards.list ≤ 1024
  pub room : 1024 ≤ length a.cards.list + a.cards.spare
  pub none : a.overflowed ≡ true → a.cards.list ≡ []
