-- What is dirty and what is remembered once lists are built anew.
use Rattle.std.specs.Prelude.{ℕ, ◌≡◌, ◌↔◌, ◌⊎◌, IsTrue, [], map}
use Rattle.bal_base.specs.Bits.{is_member}
use Rattle.bal_cards.specs.Cards.{Cards}
use Rattle.bal_layout.specs.declared.region_state.RegionState.{RegionState}
use Rattle.bal_remember.specs.Remembered.{cards}
use Rattle.bal_table.specs.Table.{Table}

-- these cards have become dirty for the next flush, and nothing else has changed
pub record AreDirtied (c d : Cards) (Which : ℕ → Type 0) : Type 0 where
  pub rest : d ≡ record c { list = d.list }
  pub each : (card : ℕ) → IsTrue (is_member d.list card) ↔ (IsTrue (is_member c.list card) ⊎ Which card)

-- no card is dirty for the next flush
abbrev pub all_flushed : Cards → Cards
all_flushed c = record c { list = [] }

-- nothing is remembered of a region
abbrev pub with_empty_list : RegionState → RegionState
with_empty_list r = record r { remembered = cards [] }

-- nor of any
abbrev pub with_empty_lists : Table → Table
with_empty_lists t = record t { regions = map with_empty_list t.regions }
