-- Traces with their journals where a partial collection comes first and no mark cycle runs, worked out by hand. `held_three_times`
-- and `marked_in_place` are such runs too: each has one partial collection, and a mark cycle begins after four.
use Rattle.std.specs.Prelude.{◌+◌, Some, None, [], ◌∷◌, ◌++◌, map, replicate}
use Rattle.std.specs.List.{range_with_len}
use Rattle.bal_layout.specs.declared.name.Abort.TheVariants as abort
use Rattle.bal_model.specs.declared.row.Op.TheVariants as op
use Rattle.bal_model.specs.declared.row.Reply.TheVariants as reply
use Rattle.bal_model.specs.Entries.{row, partial, global}
use Rattle.bal_laws.specs.Worked.{Worked, small, does, does_all, filler, x, names, did, made, fillers, eight_held, copies_of, marks_of, packs_of}

-- The worker wishes to stop before its first copy, and wishes so at each collection. What was marked at the first one is in an
-- older region with waste then, which is chosen beside eden.
abbrev pub marked_in_place_twice : Worked
marked_in_place_twice = record {
  config = record small { abort_after = Some 0 };
  rows = does_all (op.New 0 1 2 ∷ op.GStore 0 0 ∷ op.GLoad 1 0 ∷ replicate 16 filler);
  journal =
      made 1 (op.New 0 1 2) 1 0 ∷ did 2 (op.GStore 0 0) reply.Ok ∷ did 3 (op.GLoad 1 0) (reply.Name (x 1)) ∷ fillers 7 4 2 0
      ++ partial (0 ∷ []) 2 (marks_of 0 (x 1 ∷ x 8 ∷ [])) (abort.Wished 0 ∷ [])
      ∷ fillers 8 11 9 1
      ++ partial (0 ∷ 1 ∷ []) 2 (marks_of 0 (x 1 ∷ x 16 ∷ [])) (abort.Wished 0 ∷ [])
      ∷ made 19 filler 17 2 ∷ [];
}

-- Thread 0 fills all four regions with live objects. The fourth partial collection finds no free region, and a global one takes
-- nothing. Thread 1 is told that the heap is full, and once one object is dropped there is room.
abbrev pub full_after_four_collections : Worked
full_after_four_collections = record {
  config = small;
  rows = does_all (map (λ k. op.New k 0 30) (range_with_len 0 32))
      ++ record { thread = 1; op = op.New 0 0 30 } ∷ does (op.Drop 0) ∷ record { thread = 1; op = op.New 0 0 30 } ∷ [];
  journal =
      eight_held 30 0 0
      ++ partial (0 ∷ []) 8 (copies_of 0 1 (names 1 8)) []
      ∷ eight_held 30 8 0
      ++ partial (0 ∷ []) 8 (copies_of 0 2 (names 9 8)) []
      ∷ eight_held 30 16 0
      ++ partial (0 ∷ []) 8 (copies_of 0 3 (names 17 8)) []
      ∷ eight_held 30 24 0
      ++ partial (0 ∷ []) 8 (marks_of 0 (names 25 8)) (abort.Drained ∷ [])
      ∷ global [] (packs_of 0 (names 25 8) ++ packs_of 1 (names 1 8) ++ packs_of 2 (names 9 8) ++ packs_of 3 (names 17 8))
      ∷ row 1 1 (op.New 0 0 30) reply.Full None
      ∷ did 33 (op.Drop 0) reply.Ok
      ∷ partial (3 ∷ []) 8 (marks_of 0 (names 17 8)) (abort.Drained ∷ [])
      ∷ global (x 1 ∷ []) (packs_of 0 (names 25 8) ++ packs_of 1 (names 2 8) ++ packs_of 2 (names 10 8) ++ packs_of 3 (names 18 7))
      ∷ row 1 2 (op.New 0 0 30) (reply.Name (record { thread = 1; ordinal = 1 })) (Some (record { region = 3; leaves = [] })) ∷ [];
}
