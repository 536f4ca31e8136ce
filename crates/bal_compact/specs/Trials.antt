-- Heaps on which a compaction is tried.
use Rattle.std.specs.Prelude.{◌≡◌, ℕ, ◌+◌, Some, []}
use Rattle.bal_barrier.specs.Flush.{LeadToObjects}
use Rattle.bal_layout.specs.Regions.{region_at}
use Rattle.bal_remember.specs.Remembered.{cards}
use Rattle.bal_table.specs.Table.{Table, things_of}
use Rattle.bal_words.specs.Things.{Thing}

-- each object has its address for a name, so that no two have one; no reference dangles, and nothing is remembered
pub record IsTrial (t : Table) : Type 0 where
  pub named : (a : ℕ) (x : Thing) → things_of t a ≡ Some x → x.name ≡ record { thread = 0; ordinal = a + 1 }
  pub found : LeadToObjects t
  pub lists : (q : ℕ) → (region_at t.regions q).remembered ≡ cards []
