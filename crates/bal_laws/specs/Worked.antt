-- Traces with their journals, worked out by hand from the rules. Regions have 256 words, so the largest object has 32, and
-- four cards; `filler` is as large as an object can be, and eight of them fill a region.
use Rattle.std.specs.Prelude.{ℕ, zero, suc, ◌+◌, List, [], ◌∷◌, ◌++◌, map, replicate, Some, None}
use Rattle.std.specs.List.{range_with_len}
use Rattle.bal_layout.specs.declared.name.Name.{Name}
use Rattle.bal_layout.specs.declared.name.Abort.TheVariants as abort
use Rattle.bal_model.specs.Configs.{without_options}
use Rattle.bal_model.specs.declared.config.Config.{Config}
use Rattle.bal_model.specs.declared.event.Kept.{Kept}
use Rattle.bal_model.specs.declared.event.How.TheVariants as how
use Rattle.bal_model.specs.declared.event.Packed.{Packed}
use Rattle.bal_model.specs.declared.row.Op.{Op}
use Rattle.bal_model.specs.declared.row.Op.TheVariants as op
use Rattle.bal_model.specs.declared.row.Reply.{Reply}
use Rattle.bal_model.specs.declared.row.Reply.TheVariants as reply
use Rattle.bal_model.specs.declared.row.Row.{Row}
use Rattle.bal_model.specs.Entries.{Entry, row, note, partial, begin, mark, end, global}
use Rattle.bal_rules.specs.Interim.{Rule, whole}
use Rattle.bal_laws.specs.Replay.{IsReplay}

-- a trace under a configuration, and its journal
pub record Worked : Type 0 where
  pub config : Config
  pub rows : List Row
  pub journal : List Entry

abbrev pub IsWorkedBy : Rule → Worked → Type 0
IsWorkedBy rule w = IsReplay rule w.config w.rows w.journal

abbrev pub IsWorked : Worked → Type 0
IsWorked w = IsWorkedBy whole w

-- four regions of 256 words, one of them eden, and one worker; the usual numbers for the rest
abbrev pub small : Config
small = record without_options { geometry = record { regions = 4; words = 256 }; eden = 1; workers = 1 }

-- Short forms. Rows and names are those of thread 0.

abbrev pub does : Op → Row
does o = record { thread = 0; op = o }

abbrev pub does_all : List Op → List Row
does_all ops = map does ops

-- an object of 32 words, of which register 9 holds the last
abbrev pub filler : Op
filler = op.New 9 0 30

abbrev pub x : ℕ → Name
x ordinal = record { thread = 0; ordinal = ordinal }

-- so many names from an ordinal on
abbrev pub names : ℕ → ℕ → List Name
names from count = map x (range_with_len from count)

-- the k-th row of thread 0 with its reply; one that made an object, placed in a region
abbrev pub did : ℕ → Op → Reply → Entry
did k o r = row 0 k o r None

abbrev pub made : ℕ → Op → ℕ → ℕ → Entry
made k o ordinal region = row 0 k o (reply.Name (x ordinal)) (Some (record { region = region; leaves = [] }))

abbrev pub made_array : ℕ → Op → ℕ → ℕ → List ℕ → Entry
made_array k o ordinal region leaves = row 0 k o (reply.Name (x ordinal)) (Some (record { region = region; leaves = leaves }))

-- so many fillers from the k-th row and an ordinal on, all in one region
abbrev pub fillers : ℕ → ℕ → ℕ → ℕ → List Entry
fillers zero k ordinal region = []
fillers (suc n) k ordinal region = made k filler ordinal region ∷ fillers n (k + 1) (ordinal + 1) region

-- names that a worker copied into a region, or marked
abbrev pub copies_of : ℕ → ℕ → List Name → List Kept
copies_of worker region xs = map (λ n. record { name = n; how = how.Copied region; worker = worker }) xs

abbrev pub marks_of : ℕ → List Name → List Kept
marks_of worker xs = map (λ n. record { name = n; how = how.Marked; worker = worker }) xs

abbrev pub packs_of : ℕ → List Name → List Packed
packs_of region xs = map (λ n. record { name = n; region = region }) xs

-- eight objects with so many numbers from a register on, each held by a register of its own, all in one region
abbrev pub eight_held : (values from region : ℕ) → List Entry
eight_held values from region = map (λ k. made (k + 1) (op.New k 0 values) (k + 1) region) (range_with_len from 8)

-- Thread 0 fills all four regions with such objects. Three times they are copied, then the pool is drained, and a global
-- collection takes nothing.
abbrev pub four_filled : (values : ℕ) → List Entry
four_filled values =
    eight_held values 0 0
    ++ partial (0 ∷ []) 8 (copies_of 0 1 (names 1 8)) []
    ∷ eight_held values 8 0
    ++ partial (0 ∷ []) 8 (copies_of 0 2 (names 9 8)) []
    ∷ eight_held values 16 0
    ++ partial (0 ∷ []) 8 (copies_of 0 3 (names 17 8)) []
    ∷ eight_held values 24 0
    ++ partial (0 ∷ []) 8 (marks_of 0 (names 25 8)) (abort.Drained ∷ [])
    ∷ begin
    ∷ global [] (packs_of 0 (names 25 8) ++ packs_of 1 (names 1 8) ++ packs_of 2 (names 9 8) ++ packs_of 3 (names 17 8)) ∷ []

-- A new object refers to nothing.
abbrev pub first_load : Worked
first_load = record {
  config = small;
  rows = does_all (op.New 0 1 0 ∷ op.Load 1 0 0 ∷ []);
  journal = made 1 (op.New 0 1 0) 1 0 ∷ did 2 (op.Load 1 0 0) reply.Null ∷ [];
}

-- A load through null, and one of a slot that the object lacks.
abbrev pub nil_and_slot : Worked
nil_and_slot = record {
  config = small;
  rows = does_all (op.Load 1 0 0 ∷ op.New 0 1 0 ∷ op.Load 1 0 1 ∷ []);
  journal = did 1 (op.Load 1 0 0) reply.Nil ∷ made 2 (op.New 0 1 0) 1 0 ∷ did 3 (op.Load 1 0 1) reply.Slot ∷ [];
}

-- An object that two registers and a global hold is copied once, and so is the last filler; a store through one register is
-- seen by a load through the other.
abbrev pub held_three_times : Worked
held_three_times = record {
  config = small;
  rows = does_all (op.New 0 1 2 ∷ op.GStore 0 0 ∷ op.GLoad 1 0 ∷ replicate 8 filler ++ op.Store 0 0 1 ∷ op.Load 2 1 0 ∷ []);
  journal =
      made 1 (op.New 0 1 2) 1 0 ∷ did 2 (op.GStore 0 0) reply.Ok ∷ did 3 (op.GLoad 1 0) (reply.Name (x 1)) ∷ fillers 7 4 2 0
      ++ partial (0 ∷ []) 2 (copies_of 0 1 (x 1 ∷ x 8 ∷ [])) []
      ∷ made 11 filler 9 0 ∷ did 12 (op.Store 0 0 1) reply.Ok ∷ did 13 (op.Load 2 1 0) (reply.Name (x 1)) ∷ [];
}

-- An object that a global alone holds is copied.
abbrev pub held_by_a_global : Worked
held_by_a_global = record {
  config = small;
  rows = does_all (op.New 0 1 0 ∷ op.GStore 0 0 ∷ op.Drop 0 ∷ replicate 8 filler ++ op.GLoad 1 0 ∷ []);
  journal =
      made 1 (op.New 0 1 0) 1 0 ∷ did 2 (op.GStore 0 0) reply.Ok ∷ did 3 (op.Drop 0) reply.Ok ∷ fillers 7 4 2 0
      ++ partial (0 ∷ []) 2 (copies_of 0 1 (x 1 ∷ x 8 ∷ [])) []
      ∷ made 11 filler 9 0 ∷ did 12 (op.GLoad 1 0) (reply.Name (x 1)) ∷ [];
}

-- Three objects: one that refers to itself, and two that refer to each other.
abbrev pub ring_rows : List Op
ring_rows = op.New 0 1 0 ∷ op.Store 0 0 0 ∷ op.New 1 1 0 ∷ op.New 2 1 0 ∷ op.Store 1 0 2 ∷ op.Store 2 0 1 ∷ op.Drop 2 ∷ []

abbrev pub ring_journal : List Entry
ring_journal =
    made 1 (op.New 0 1 0) 1 0 ∷ did 2 (op.Store 0 0 0) reply.Ok ∷ made 3 (op.New 1 1 0) 2 0 ∷ made 4 (op.New 2 1 0) 3 0
    ∷ did 5 (op.Store 1 0 2) reply.Ok ∷ did 6 (op.Store 2 0 1) reply.Ok ∷ did 7 (op.Drop 2) reply.Ok ∷ []

-- A ring is kept as long as a register holds one of its objects. References inside a region need no card.
abbrev pub a_held_ring : Worked
a_held_ring = record {
  config = small;
  rows = does_all (ring_rows ++ replicate 8 filler);
  journal =
      ring_journal ++ fillers 7 8 4 0
      ++ partial (0 ∷ []) 4 (copies_of 0 1 (names 1 3 ++ x 10 ∷ [])) [] ∷ made 15 filler 11 0 ∷ [];
}

-- Once no register holds it the ring is gone, though its objects refer to each other.
abbrev pub a_dropped_ring : Worked
a_dropped_ring = record {
  config = small;
  rows = does_all (ring_rows ++ op.Drop 1 ∷ replicate 8 filler);
  journal =
      ring_journal ++ did 8 (op.Drop 1) reply.Ok ∷ fillers 7 9 4 0
      ++ partial (0 ∷ []) 2 (copies_of 0 1 (x 1 ∷ x 10 ∷ [])) [] ∷ made 16 filler 11 0 ∷ [];
}

-- An object that was copied already comes to hold a young one, which nothing else holds.
abbrev pub old_holder_rows : List Op
old_holder_rows = op.New 0 1 0 ∷ replicate 8 filler ++ op.New 1 0 1 ∷ op.Store 0 0 1 ∷ op.Drop 1 ∷ []

abbrev pub old_holder_journal : List Entry
old_holder_journal =
    made 1 (op.New 0 1 0) 1 0 ∷ fillers 7 2 2 0
    ++ partial (0 ∷ []) 2 (copies_of 0 1 (x 1 ∷ x 8 ∷ [])) [] ∷ made 9 filler 9 0
    ∷ made 10 (op.New 1 0 1) 10 0 ∷ did 11 (op.Store 0 0 1) reply.Ok ∷ did 12 (op.Drop 1) reply.Ok ∷ []

-- The write barrier's card finds the old holder, so the young object is kept.
abbrev pub held_by_an_old_object : Worked
held_by_an_old_object = record {
  config = small;
  rows = does_all (old_holder_rows ++ replicate 7 filler ++ op.Load 2 0 0 ∷ []);
  journal =
      old_holder_journal ++ fillers 6 13 11 0
      ++ note 0 4 (x 1) 0 ∷ partial (0 ∷ []) 2 (copies_of 0 2 (x 10 ∷ x 16 ∷ [])) [] ∷ made 19 filler 17 0
      ∷ did 20 (op.Load 2 0 0) (reply.Name (x 10)) ∷ [];
}

-- The old holder is garbage itself and still keeps the young object, until a global collection takes both.
abbrev pub held_by_garbage : Worked
held_by_garbage = record {
  config = small;
  rows = does_all (old_holder_rows ++ op.Drop 0 ∷ replicate 7 filler ++ op.Gc ∷ []);
  journal =
      old_holder_journal ++ did 13 (op.Drop 0) reply.Ok ∷ fillers 6 14 11 0
      ++ note 0 4 (x 1) 0 ∷ partial (0 ∷ []) 2 (copies_of 0 2 (x 10 ∷ x 16 ∷ [])) [] ∷ made 20 filler 17 0
      ∷ global (x 1 ∷ x 8 ∷ x 10 ∷ x 16 ∷ []) (packs_of 0 (x 17 ∷ [])) ∷ did 21 op.Gc reply.Ok ∷ [];
}

-- A list of one card overflows, so its region isn't chosen and ages as it is; a global collection empties the list.
abbrev pub an_overflowed_list : Worked
an_overflowed_list = record {
  config = record small { cards = 1 };
  rows = does_all (op.New 0 1 29 ∷ op.New 1 1 29 ∷ op.New 2 1 29 ∷ replicate 6 filler
      ++ op.New 3 0 30 ∷ op.Store 0 0 3 ∷ op.Store 1 0 3 ∷ op.Store 2 0 3 ∷ replicate 7 filler
      ++ op.Gc ∷ replicate 4 filler);
  journal =
      made 1 (op.New 0 1 29) 1 0 ∷ made 2 (op.New 1 1 29) 2 0 ∷ made 3 (op.New 2 1 29) 3 0 ∷ fillers 5 4 4 0
      ++ partial (0 ∷ []) 4 (copies_of 0 1 (names 1 3 ++ x 8 ∷ [])) [] ∷ made 9 filler 9 0
      ∷ made 10 (op.New 3 0 30) 10 0
      ∷ did 11 (op.Store 0 0 3) reply.Ok ∷ did 12 (op.Store 1 0 3) reply.Ok ∷ did 13 (op.Store 2 0 3) reply.Ok ∷ fillers 6 14 11 0
      ++ note 0 4 (x 1) 0 ∷ note 0 5 (x 3) 0 ∷ partial [] 0 [] [] ∷ made 20 filler 17 2
      ∷ global (x 8 ∷ x 9 ∷ names 11 6) (packs_of 0 (x 10 ∷ names 1 3 ++ x 17 ∷ [])) ∷ did 21 op.Gc reply.Ok ∷ fillers 3 22 18 0
      ++ partial (0 ∷ []) 5 (copies_of 0 1 (names 1 3 ++ x 10 ∷ x 20 ∷ [])) [] ∷ made 25 filler 21 0 ∷ [];
}

-- The worker wishes to stop before its first copy: what is kept is marked where it lies, and the region stays.
abbrev pub marked_in_place : Worked
marked_in_place = record {
  config = record small { abort_after = Some 0 };
  rows = held_three_times.rows;
  journal =
      made 1 (op.New 0 1 2) 1 0 ∷ did 2 (op.GStore 0 0) reply.Ok ∷ did 3 (op.GLoad 1 0) (reply.Name (x 1)) ∷ fillers 7 4 2 0
      ++ partial (0 ∷ []) 2 (marks_of 0 (x 1 ∷ x 8 ∷ [])) (abort.Wished 0 ∷ [])
      ∷ made 11 filler 9 1 ∷ did 12 (op.Store 0 0 1) reply.Ok ∷ did 13 (op.Load 2 1 0) (reply.Name (x 1)) ∷ [];
}

-- After three copies the worker wishes to stop, and marks the other four.
abbrev pub abandoned_midway : Worked
abandoned_midway = record {
  config = record small { abort_after = Some 3 };
  rows = does_all (map (λ k. op.New k 0 2) (range_with_len 0 7) ++ replicate 7 filler ++ op.Drop 9 ∷ filler ∷ []);
  journal =
      map (λ k. made (k + 1) (op.New k 0 2) (k + 1) 0) (range_with_len 0 7) ++ fillers 7 8 8 0
      ++ did 15 (op.Drop 9) reply.Ok
      ∷ partial (0 ∷ []) 7 (copies_of 0 1 (names 1 3) ++ marks_of 0 (names 4 4)) (abort.Wished 0 ∷ [])
      ∷ made 16 filler 15 2 ∷ [];
}

-- Two eden regions are full of live objects and one region is free: it takes one half of them, and the pool is drained.
abbrev pub a_drained_pool : Worked
a_drained_pool = record {
  config = record small { eden = 2 };
  rows = does_all (op.Arr 0 31 ∷ map (λ k. op.New k 0 30) (range_with_len 1 16));
  journal =
      made_array 1 (op.Arr 0 31) 1 0 (1 ∷ [])
      ∷ map (λ k. made (k + 1) (op.New k 0 30) (k + 1) 0) (range_with_len 1 7)
      ++ map (λ k. made (k + 1) (op.New k 0 30) (k + 1) 2) (range_with_len 8 8)
      ++ partial (0 ∷ 2 ∷ []) 16 (copies_of 0 3 (names 1 8) ++ marks_of 0 (names 9 8)) (abort.Drained ∷ [])
      ∷ made 17 (op.New 16 0 30) 17 0 ∷ [];
}

-- An array that nothing holds is gone, and its leaf is free: the next collection copies into it. A leaf's slots belong to
-- the array, so no card is noted.
abbrev pub a_dead_array : Worked
a_dead_array = record {
  config = small;
  rows = does_all (op.Arr 0 31 ∷ op.New 1 0 1 ∷ op.Store 0 5 1 ∷ op.Drop 0 ∷ op.Drop 1 ∷ replicate 16 filler);
  journal =
      made_array 1 (op.Arr 0 31) 1 0 (1 ∷ []) ∷ made 2 (op.New 1 0 1) 2 0
      ∷ did 3 (op.Store 0 5 1) reply.Ok ∷ did 4 (op.Drop 0) reply.Ok ∷ did 5 (op.Drop 1) reply.Ok ∷ fillers 7 6 3 0
      ++ partial (0 ∷ []) 1 (copies_of 0 2 (x 9 ∷ [])) [] ∷ made 13 filler 10 0 ∷ fillers 7 14 11 0
      ++ partial (0 ∷ []) 1 (copies_of 0 1 (x 17 ∷ [])) [] ∷ made 21 filler 18 0 ∷ [];
}

-- Thread 0 fills all four regions with live objects, and thread 1 is told that the heap is full. Once one object is
-- dropped there is room.
abbrev pub a_full_heap : Worked
a_full_heap = record {
  config = small;
  rows = does_all (map (λ k. op.New k 0 30) (range_with_len 0 32))
      ++ record { thread = 1; op = op.New 0 0 30 } ∷ does (op.Drop 0) ∷ record { thread = 1; op = op.New 0 0 30 } ∷ [];
  journal =
      four_filled 30
      ++ row 1 1 (op.New 0 0 30) reply.Full None
      ∷ did 33 (op.Drop 0) reply.Ok
      ∷ partial (3 ∷ []) 8 (marks_of 0 (names 17 8)) (abort.Drained ∷ [])
      ∷ global (x 1 ∷ []) (packs_of 0 (names 25 8) ++ packs_of 1 (names 2 8) ++ packs_of 2 (names 10 8) ++ packs_of 3 (names 18 7))
      ∷ row 1 2 (op.New 0 0 30) (reply.Name (record { thread = 1; ordinal = 1 })) (Some (record { region = 3; leaves = [] })) ∷ [];
}

-- An array that wants five leaves never fits into four regions, though the heap is empty.
abbrev pub too_large_an_array : Worked
too_large_an_array = record {
  config = small;
  rows = does_all (op.Arr 0 1025 ∷ []);
  journal = partial [] 0 [] [] ∷ global [] [] ∷ did 1 (op.Arr 0 1025) reply.Full ∷ [];
}

-- seven fillers, the last of which is dropped, and one more, which finds no soft room
abbrev pub burst : List Op
burst = replicate 7 filler ++ op.Drop 9 ∷ filler ∷ []

-- A mark cycle over five partial collections. Between two steps a reference moves from an object that isn't listed yet to
-- one that is: the object after it is never listed, and stays. What was garbage at the beginning goes.
abbrev pub a_mark_cycle : Worked
a_mark_cycle = record {
  config = record small { geometry = record { regions = 8; words = 256 }; mark_every = 2; mark_step = 1 };
  rows = does_all (op.New 0 1 0 ∷ op.New 1 1 0 ∷ op.New 2 0 0 ∷ op.New 3 0 0 ∷ op.Store 1 0 3 ∷ op.Drop 3 ∷ burst
      ++ op.Drop 2 ∷ burst ++ burst
      ++ op.Load 5 1 0 ∷ op.Store 0 0 5 ∷ op.Store 1 0 4 ∷ op.Drop 5 ∷ burst ++ burst);
  journal =
      made 1 (op.New 0 1 0) 1 0 ∷ made 2 (op.New 1 1 0) 2 0 ∷ made 3 (op.New 2 0 0) 3 0 ∷ made 4 (op.New 3 0 0) 4 0
      ∷ did 5 (op.Store 1 0 3) reply.Ok ∷ did 6 (op.Drop 3) reply.Ok
      ∷ fillers 7 7 5 0 ++ did 14 (op.Drop 9) reply.Ok
      ∷ partial (0 ∷ []) 4 (copies_of 0 1 (names 1 4)) [] ∷ made 15 filler 12 0
      ∷ did 16 (op.Drop 2) reply.Ok
      ∷ fillers 7 17 13 0 ++ did 24 (op.Drop 9) reply.Ok
      ∷ partial (0 ∷ []) 0 [] [] ∷ begin ∷ made 25 filler 20 0
      ∷ fillers 7 26 21 0 ++ did 33 (op.Drop 9) reply.Ok
      ∷ partial (0 ∷ []) 0 [] [] ∷ mark (x 1 ∷ []) ∷ made 34 filler 28 0
      ∷ did 35 (op.Load 5 1 0) (reply.Name (x 4)) ∷ did 36 (op.Store 0 0 5) reply.Ok
      ∷ did 37 (op.Store 1 0 4) reply.Ok ∷ did 38 (op.Drop 5) reply.Ok
      ∷ fillers 7 39 29 0 ++ did 46 (op.Drop 9) reply.Ok
      ∷ partial (0 ∷ []) 0 [] [] ∷ mark (x 2 ∷ []) ∷ made 47 filler 36 0
      ∷ fillers 7 48 37 0 ++ did 55 (op.Drop 9) reply.Ok
      ∷ partial (0 ∷ []) 0 [] [] ∷ mark [] ∷ end (x 3 ∷ []) ∷ made 56 filler 44 0 ∷ [];
}

-- Two workers share an evacuation: each copies into regions of its own.
abbrev pub two_workers_config : Config
two_workers_config = record small { geometry = record { regions = 8; words = 256 }; workers = 2 }

abbrev pub two_workers_rows : List Row
two_workers_rows = does_all (op.New 0 1 0 ∷ op.New 1 1 0 ∷ op.Store 0 0 1 ∷ replicate 8 filler)

abbrev pub two_workers_front : List Entry
two_workers_front = made 1 (op.New 0 1 0) 1 0 ∷ made 2 (op.New 1 1 0) 2 0 ∷ did 3 (op.Store 0 0 1) reply.Ok ∷ fillers 7 4 3 0

abbrev pub two_workers : Worked
two_workers = record {
  config = two_workers_config;
  rows = two_workers_rows;
  journal =
      two_workers_front
      ++ partial (0 ∷ []) 3 (copies_of 0 1 (x 1 ∷ []) ++ copies_of 1 2 (x 2 ∷ x 9 ∷ [])) [] ∷ made 11 filler 10 0 ∷ [];
}

-- One of the two stops after one copy, and marks from then on.
abbrev pub one_of_two_stops : Worked
one_of_two_stops = record {
  config = record two_workers_config { abort_after = Some 1 };
  rows = two_workers_rows;
  journal =
      two_workers_front
      ++ partial (0 ∷ []) 3 (copies_of 0 1 (x 1 ∷ []) ++ copies_of 1 2 (x 2 ∷ []) ++ marks_of 1 (x 9 ∷ [])) (abort.Wished 1 ∷ [])
      ∷ made 11 filler 10 3 ∷ [];
}
