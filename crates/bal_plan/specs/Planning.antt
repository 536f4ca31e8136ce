-- What holds while a plan is made: it is one for the objects below an address, and the next one goes behind them.
use Rattle.std.specs.Prelude.{◌≡◌, ℕ, ◌+◌, ◌*◌, ◌<◌, ◌≤◌, ◌++◌, List, map, nat_le, suc, if◌then◌else◌}
use Rattle.std.specs.List.{range_with_len}
use Rattle.bal_layout.specs.Addresses.{offset_of, region_of}
use Rattle.bal_layout.specs.Shape.{largest_of}
use Rattle.bal_rules.specs.GlobalEvents.{next_fit}
use Rattle.bal_table.specs.Table.{Table}
use Rattle.bal_plan.specs.declared.Cursor.{Cursor}
use Rattle.bal_plan.specs.Plan.{IsObject, starts_below, words_at, words_into}

-- where there is room for an object of so many words: where the last one ends, or in the next region
abbrev pub with_room : ℕ → Cursor → ℕ → Cursor
with_room room c words = if nat_le (c.next + words) c.end then c else record { next = c.end; end = c.end + room }

-- the cursor stands in a region behind so many words of it, and so many regions follow
pub record IsPlannedTo (t : Table) (to : ℕ → ℕ) (at : ℕ) (c : Cursor) : Type 0 where
  pub region : ℕ
  pub filled : ℕ
  pub later : ℕ
  pub next : c.next ≡ region * t.shape.words + filled
  pub end : c.end ≡ region * t.shape.words + t.shape.words
  pub fits : filled ≤ t.shape.words
  pub regions : region + suc later ≡ t.shape.regions
  -- all objects below the address end before it, and all others start behind it
  pub below : (a : ℕ) → IsObject t a → a < at → to a + words_at t a ≤ c.next
  pub behind : (a : ℕ) → IsObject t a → at ≤ a → c.next ≤ a
  -- nothing is planned of these
  pub ahead : (a : ℕ) → at ≤ a → to a ≡ a
  -- what went to its region takes the words before it there, and each lower region has an object
  pub words : words_into t to at region ≡ filled
  pub lower : (q : ℕ) → q < region → (b : ℕ) × IsObject t b × (b < at) × (region_of t.shape (to b) ≡ q)
  -- and is nearly full
  pub full : (q : ℕ) → q < region → t.shape.words < words_into t to at q + largest_of t.shape
  -- the plan so far
  pub down : (a : ℕ) → IsObject t a → to a ≤ a
  pub apart : (a b : ℕ) → IsObject t a → IsObject t b → a < b → b < at → to a + words_at t a ≤ to b
  pub within : (a : ℕ) → IsObject t a → a < at → offset_of t.shape (to a) + words_at t a ≤ t.shape.words
  pub packed : (a : ℕ) → IsObject t a → a < at → offset_of t.shape (to a) ≡ words_into t to a (region_of t.shape (to a))
  pub begun : (a q : ℕ) → IsObject t a → a < at → q < region_of t.shape (to a) → (b : ℕ) × IsObject t b × (b < a) × (region_of t.shape (to b) ≡ q)
  -- next fit goes on from here
  pub next_fit : (ws : List ℕ) → next_fit t.shape.words (range_with_len 0 t.shape.regions) 0 (map (words_at t) (starts_below t at) ++ ws)
      ≡ map (λ a. region_of t.shape (to a)) (starts_below t at) ++ next_fit t.shape.words (range_with_len region (suc later)) filled ws
