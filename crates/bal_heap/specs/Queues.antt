-- How the threads' progress is kept: for each thread, the places of its rows.
use Rattle.std.specs.Prelude.{◌≡◌, ◌<◌, ◌≤◌, ◌^◌, ℕ, List, map, length, slice_index_or}
use Rattle.bal_model.specs.declared.row.Row.{Row}
use Rattle.bal_heap.specs.Turns.{Progress, places_from}
use Rattle.bal_heap.specs.declared.turns.Queue.{Queue}
use Rattle.bal_heap.specs.declared.turns.Turns.TheInside.{Inside}

abbrev pub done_in : Queue → ℕ
done_in q = q.done

abbrev pub progress_of : Inside → Progress
progress_of a = record { rows = a.trace.rows.list; done = map done_in a.queues.items }

-- a queue has just the places of its thread's rows, and no more were executed than there are
pub record IsQueueOf (rows : List Row) (t : ℕ) (q : Queue) : Type 0 where
  pub places : q.places.list ≡ places_from 0 t rows
  pub within : q.done ≤ length q.places.list

pub record HasQueues (a : Inside) : Type 0 where
  pub few : length a.trace.rows.list ≤ 2 ^ 20
  pub queues : length a.queues.items ≡ 32
  pub each : (t : ℕ) (d : Queue) → t < 32 → IsQueueOf a.trace.rows.list t (slice_index_or a.queues.items t d)
