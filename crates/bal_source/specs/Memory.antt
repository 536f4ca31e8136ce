-- Sources and sinks in memory, as contracts see them.
use Rattle.std.specs.Prelude.{ℕ, ◌+◌, ◌-◌, ◌^◌, ◌==◌, min, List, Bool, length, drop}
use Rattle.std.specs.List.{list_any}
use Rattle.bal_source.specs.Causes.{raised}

-- what a source in memory gives from
pub record Supply : Type 0 where
  pub left : List ℕ  -- the bytes that are left
  pub piece : ℕ  -- the most that one read gives
  pub given : ℕ  -- how many bytes were given

-- how many bytes a read gives into so much room
abbrev pub portion : Supply → ℕ → ℕ
portion supply room = min (length supply.left) (min supply.piece room)

-- the supply after it gave n bytes
abbrev pub after_giving : Supply → ℕ → Supply
after_giving supply n = record supply { left = drop n supply.left; given = min (supply.given + n) (2 ^ 64 - 1) }

-- which calls fail; calls are numbered from 1
pub record Schedule : Type 0 where
  pub calls : ℕ  -- how many calls were made
  pub fails : List ℕ  -- the numbers of those that fail
  pub faults : ℕ  -- how many failed

-- whether the next call fails
abbrev pub fails_next : Schedule → Bool
fails_next schedule = list_any (λ number. number == raised schedule.calls) schedule.fails

-- the schedule after a call that did not fail
abbrev pub after_call : Schedule → Schedule
after_call schedule = record schedule { calls = raised schedule.calls }

-- the schedule after a call that failed
abbrev pub after_fault : Schedule → Schedule
after_fault schedule = record schedule { calls = raised schedule.calls; faults = raised schedule.faults }

-- a source that fails at calls chosen before
pub record FailingSupply : Type 0 where
  pub supply : Supply
  pub schedule : Schedule

-- a sink that fails at calls chosen before
pub record FailingStore : Type 0 where
  pub held : List ℕ  -- the bytes that it holds
  pub piece : ℕ  -- the most that one write takes
  pub schedule : Schedule
