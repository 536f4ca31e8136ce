-- How a worker's regions are kept: beside them, by age, which one is open, so that no call looks for it.
use Rattle.std.specs.Prelude.{◌≡◌, ℕ, ◌+◌, ◌-◌, ◌<◌, ◌≤◌, ◌^◌, Option, Some, None, nat_le, length, if◌then◌else◌, slice_index_or}
use Rattle.std.specs.VecDeque.{deque_capacity}
use Rattle.bal_dest.specs.Buffers.{Buffers, IsBuffers, open_place}
use Rattle.bal_dest.specs.declared.buffers.Buffers.TheInside.{Inside}

abbrev pub buffers_of : Inside → Buffers
buffers_of a = record { shape = a.geometry; regions = a.regions.items; reserved = a.reserved; room = a.room }

-- the place among the regions that are left, by that among all that were ever added
abbrev pub left_place : ℕ → Option ℕ → Option ℕ
left_place taken None = None
left_place taken (Some number) = if nat_le taken number then Some (number - taken) else None

pub record AreKept (a : Inside) : Type 0 where
  pub buffers : IsBuffers (buffers_of a)
  -- the table has a row for each age, which leads to its open region
  pub ages : length a.last ≡ 25
  pub last : (age : ℕ) → age ≤ 24 → left_place a.taken (slice_index_or a.last age None) ≡ open_place (buffers_of a) age
  -- there is room for the regions that may still be added
  pub room : length a.regions.items + a.room ≤ deque_capacity a.regions
  pub few : a.taken + length a.regions.items + a.room < 2 ^ 32
