-- Traces with their journals where all collections are global, worked out by hand. No region grows older then, so each region
-- of objects is eden, and a region more is begun only after a collection.
use Rattle.std.specs.Prelude.{◌+◌, Some, None, [], ◌∷◌, ◌++◌, map, replicate}
use Rattle.std.specs.List.{range_with_len}
use Rattle.bal_model.specs.declared.row.Op.TheVariants as op
use Rattle.bal_model.specs.declared.row.Reply.TheVariants as reply
use Rattle.bal_model.specs.Entries.{row, global}
use Rattle.bal_laws.specs.Worked.{Worked, small, does, does_all, x, names, did, eight_held, made, packs_of}

-- Nothing is there to die or to be packed.
abbrev pub gc_of_an_empty_heap : Worked
gc_of_an_empty_heap = record {
  config = small;
  rows = does_all (op.Gc ∷ []);
  journal = global [] [] ∷ did 1 op.Gc reply.Ok ∷ [];
}

-- One register holds the last of eight objects that fill a region. The ninth finds no soft room.
abbrev pub seven_of_eight_die : Worked
seven_of_eight_die = record {
  config = small;
  rows = does_all (replicate 9 (op.New 0 0 30));
  journal =
      map (λ k. made (k + 1) (op.New 0 0 30) (k + 1) 0) (range_with_len 0 8)
      ++ global (names 1 7) (packs_of 0 (x 8 ∷ [])) ∷ made 9 (op.New 0 0 30) 9 0 ∷ [];
}

-- Thread 0 fills all four regions with live objects, the third and the fourth each after a collection that takes nothing. Then
-- thread 1 is told that the heap is full. Once one object is dropped the others move up, and there is room.
abbrev pub full_when_nothing_dies : Worked
full_when_nothing_dies = record {
  config = record small { eden = 2 };
  rows = does_all (map (λ k. op.New k 0 30) (range_with_len 0 32))
      ++ record { thread = 1; op = op.New 0 0 30 } ∷ does (op.Drop 0) ∷ record { thread = 1; op = op.New 0 0 30 } ∷ [];
  journal =
      eight_held 30 0 0
      ++ eight_held 30 8 1
      ++ global [] (packs_of 0 (names 1 8) ++ packs_of 1 (names 9 8))
      ∷ eight_held 30 16 2
      ++ global [] (packs_of 0 (names 1 8) ++ packs_of 1 (names 9 8) ++ packs_of 2 (names 17 8))
      ∷ eight_held 30 24 3
      ++ global [] (packs_of 0 (names 1 8) ++ packs_of 1 (names 9 8) ++ packs_of 2 (names 17 8) ++ packs_of 3 (names 25 8))
      ∷ row 1 1 (op.New 0 0 30) reply.Full None
      ∷ did 33 (op.Drop 0) reply.Ok
      ∷ global (x 1 ∷ []) (packs_of 0 (names 2 8) ++ packs_of 1 (names 10 8) ++ packs_of 2 (names 18 8) ++ packs_of 3 (names 26 7))
      ∷ row 1 2 (op.New 0 0 30) (reply.Name (record { thread = 1; ordinal = 1 })) (Some (record { region = 3; leaves = [] })) ∷ [];
}
