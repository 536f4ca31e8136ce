use Rattle.std.proofs.Common.{◌≡◌, ℕ, ◌<◌, ◌≤◌, [], get_or, length}
use Rattle.bal_model.specs.Plain.{made_by}
use Rattle.bal_model.proofs.plain.marks.Marks.make.Given as goal

-- the threads below this one have no marks, and room for all that they made
abbrev pub invariant-loop-thread : goal.invariant-loop-thread
invariant-loop-thread l = record {
  threads : length l.threads.items ≡ l.thread;
  none : (t : ℕ) → (get_or l.threads.items t (record { members = []; room = 0 })).members ≡ [];
  room : (t : ℕ) → t < l.thread → made_by l.state t ≤ (get_or l.threads.items t (record { members = []; room = 0 })).room;
}
