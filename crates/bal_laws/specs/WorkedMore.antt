-- More traces with their journals, worked out by hand: crews, arrays with leaves, and what a mark cycle leaves.
use Rattle.std.specs.Prelude.{ℕ, List, ◌+◌, Some, None, [], ◌∷◌, ◌++◌, map, replicate, take}
use Rattle.std.specs.List.{range_with_len}
use Rattle.bal_layout.specs.declared.name.Abort.TheVariants as abort
use Rattle.bal_model.specs.declared.config.Config.{Config}
use Rattle.bal_model.specs.declared.row.Op.TheVariants as op
use Rattle.bal_model.specs.declared.row.Reply.TheVariants as reply
use Rattle.bal_model.specs.Entries.{row, note, partial, begin, mark, end, global}
use Rattle.bal_laws.specs.Worked.{Worked, small, does_all, filler, x, names, did, eight_held, four_filled, made, made_array, fillers, copies_of, marks_of, packs_of, burst, a_held_ring, a_mark_cycle, abandoned_midway}

-- Four workers may share a collection, but three free regions feed one of them alone.
abbrev pub few_regions_for_four : Worked
few_regions_for_four = record a_held_ring { config = record small { workers = 4 } }

-- A mark cycle over five partial collections. The first object is listed, comes to hold the fourth, and is dropped: both
-- float until the next cycle. The fifth is taken out of the second before that is listed, and a register holds it.
abbrev pub floating_garbage : Worked
floating_garbage = record {
  config = a_mark_cycle.config;
  rows = does_all (op.New 0 1 0 ∷ op.New 1 2 0 ∷ op.New 2 0 0 ∷ op.New 3 0 0 ∷ op.Store 1 0 3 ∷ op.New 3 0 0 ∷ op.Store 1 1 3 ∷ op.Drop 3 ∷ burst
      ++ op.Drop 2 ∷ burst ++ burst
      ++ op.Load 5 1 0 ∷ op.Store 0 0 5 ∷ op.Store 1 0 4 ∷ op.Drop 5 ∷ op.Load 6 1 1 ∷ op.Store 1 1 4 ∷ op.Drop 0 ∷ burst ++ burst);
  journal =
      made 1 (op.New 0 1 0) 1 0 ∷ made 2 (op.New 1 2 0) 2 0 ∷ made 3 (op.New 2 0 0) 3 0 ∷ made 4 (op.New 3 0 0) 4 0
      ∷ did 5 (op.Store 1 0 3) reply.Ok ∷ made 6 (op.New 3 0 0) 5 0 ∷ did 7 (op.Store 1 1 3) reply.Ok ∷ did 8 (op.Drop 3) reply.Ok
      ∷ fillers 7 9 6 0 ++ did 16 (op.Drop 9) reply.Ok
      ∷ partial (0 ∷ []) 5 (copies_of 0 1 (names 1 5)) [] ∷ made 17 filler 13 0
      ∷ did 18 (op.Drop 2) reply.Ok
      ∷ fillers 7 19 14 0 ++ did 26 (op.Drop 9) reply.Ok
      ∷ partial (0 ∷ []) 0 [] [] ∷ begin ∷ made 27 filler 21 0
      ∷ fillers 7 28 22 0 ++ did 35 (op.Drop 9) reply.Ok
      ∷ partial (0 ∷ []) 0 [] [] ∷ mark (x 1 ∷ []) ∷ made 36 filler 29 0
      ∷ did 37 (op.Load 5 1 0) (reply.Name (x 4)) ∷ did 38 (op.Store 0 0 5) reply.Ok
      ∷ did 39 (op.Store 1 0 4) reply.Ok ∷ did 40 (op.Drop 5) reply.Ok
      ∷ did 41 (op.Load 6 1 1) (reply.Name (x 5)) ∷ did 42 (op.Store 1 1 4) reply.Ok ∷ did 43 (op.Drop 0) reply.Ok
      ∷ fillers 7 44 30 0 ++ did 51 (op.Drop 9) reply.Ok
      ∷ partial (0 ∷ []) 0 [] [] ∷ mark (x 2 ∷ []) ∷ made 52 filler 37 0
      ∷ fillers 7 53 38 0 ++ did 60 (op.Drop 9) reply.Ok
      ∷ partial (0 ∷ []) 0 [] [] ∷ mark [] ∷ end (x 3 ∷ []) ∷ made 61 filler 45 0 ∷ [];
}

-- An array that was copied already comes to hold a young object: the card is that of the slot in its leaf. The array lies in a
-- region from its first copy on, and the young object is copied into the next one.
abbrev pub held_by_an_array : Config → (len slot : ℕ) → (leaves : List ℕ) → (region card : ℕ) → Worked
held_by_an_array c len slot leaves region card = record {
  config = c;
  rows = does_all (op.Arr 0 len ∷ replicate 8 filler ++ op.New 1 0 1 ∷ op.Store 0 slot 1 ∷ op.Drop 1 ∷ replicate 7 filler ++ op.Load 2 0 slot ∷ []);
  journal =
      made_array 1 (op.Arr 0 len) 1 0 leaves ∷ fillers 7 2 2 0
      ++ partial (0 ∷ []) 2 (copies_of 0 region (x 1 ∷ x 8 ∷ [])) [] ∷ made 9 filler 9 0
      ∷ made 10 (op.New 1 0 1) 10 0 ∷ did 11 (op.Store 0 slot 1) reply.Ok ∷ did 12 (op.Drop 1) reply.Ok ∷ fillers 6 13 11 0
      ++ note 0 card (x 1) slot ∷ partial (0 ∷ []) 2 (copies_of 0 (region + 1) (x 10 ∷ x 16 ∷ [])) [] ∷ made 19 filler 17 0
      ∷ did 20 (op.Load 2 0 slot) (reply.Name (x 10)) ∷ [];
}

-- Slot 130 lies in the array's one leaf, at word 130 of region 1: card 6.
abbrev pub held_by_an_old_array : Worked
held_by_an_old_array = held_by_an_array small 200 130 (1 ∷ []) 2 6

-- What was swept left waste, so the next partial collection chooses that region too and frees it: the one after that copies
-- into it. What floated there is gone.
abbrev pub an_older_region : Worked
an_older_region = record {
  config = floating_garbage.config;
  rows = floating_garbage.rows ++ does_all (burst ++ replicate 8 filler);
  journal =
      floating_garbage.journal ++ fillers 7 62 46 0 ++ did 69 (op.Drop 9) reply.Ok
      ∷ partial (0 ∷ 1 ∷ []) 2 (copies_of 0 2 (x 2 ∷ x 5 ∷ [])) [] ∷ made 70 filler 53 0 ∷ fillers 7 71 54 0
      ++ partial (0 ∷ []) 1 (copies_of 0 1 (x 60 ∷ [])) [] ∷ begin ∷ made 78 filler 61 0 ∷ [];
}

-- A collection takes eden and an older region: each age has a copy region of its own, though one worker copies all.
abbrev pub a_region_for_each_age : Worked
a_region_for_each_age = record {
  config = floating_garbage.config;
  rows = floating_garbage.rows ++ does_all (replicate 8 filler);
  journal =
      floating_garbage.journal ++ fillers 7 62 46 0
      ++ partial (0 ∷ 1 ∷ []) 3 (copies_of 0 2 (x 2 ∷ x 5 ∷ []) ++ copies_of 0 3 (x 52 ∷ [])) [] ∷ made 69 filler 53 0 ∷ [];
}

-- The worker copies as many as it may, and there is no more to copy: it has no wish.
abbrev pub copied_to_the_limit : Worked
copied_to_the_limit = record {
  config = record small { abort_after = Some 7 };
  rows = abandoned_midway.rows;
  journal =
      take 15 abandoned_midway.journal
      ++ partial (0 ∷ []) 7 (copies_of 0 1 (names 1 7)) [] ∷ made 16 filler 15 0 ∷ [];
}

-- Slot 290 lies in the second of two leaves, at word 34 of region 2: card 8.
abbrev pub held_by_a_second_leaf : Worked
held_by_a_second_leaf = held_by_an_array (record small { geometry = record { regions = 8; words = 256 } }) 300 290 (1 ∷ 2 ∷ []) 3 8

-- A mark cycle is due after two partial collections, and a global one between them counts from the beginning.
abbrev pub counted_anew : Worked
counted_anew = record {
  config = record small { mark_every = 2 };
  rows = does_all (replicate 9 filler ++ op.Gc ∷ replicate 8 filler);
  journal =
      fillers 8 1 1 0 ++ partial (0 ∷ []) 1 (copies_of 0 1 (x 8 ∷ [])) [] ∷ made 9 filler 9 0
      ∷ global (x 8 ∷ []) (packs_of 0 (x 9 ∷ [])) ∷ did 10 op.Gc reply.Ok ∷ fillers 7 11 10 0
      ++ partial (0 ∷ []) 1 (copies_of 0 1 (x 16 ∷ [])) [] ∷ made 18 filler 17 0 ∷ [];
}

-- eight regions, one older one in a choice, and a worker that copies nothing
abbrev pub marking_alone : Config
marking_alone = record small { geometry = record { regions = 8; words = 256 }; older = 1; abort_after = Some 0 }

-- One older region may be chosen, and the worker marks all in place, so that regions keep what they waste. Of two that waste
-- as much, the lower one is chosen.
abbrev pub one_of_two_that_waste_as_much : Worked
one_of_two_that_waste_as_much = record {
  config = marking_alone;
  rows = does_all (op.New 0 0 30 ∷ replicate 24 filler);
  journal =
      made 1 (op.New 0 0 30) 1 0 ∷ fillers 7 2 2 0
      ++ partial (0 ∷ []) 2 (marks_of 0 (x 1 ∷ x 8 ∷ [])) (abort.Wished 0 ∷ []) ∷ fillers 8 9 9 1
      ++ partial (0 ∷ 1 ∷ []) 2 (marks_of 0 (x 1 ∷ x 16 ∷ [])) (abort.Wished 0 ∷ []) ∷ fillers 8 17 17 2
      ++ partial (0 ∷ 2 ∷ []) 2 (marks_of 0 (x 1 ∷ x 24 ∷ [])) (abort.Wished 0 ∷ []) ∷ made 25 filler 25 3 ∷ [];
}

-- The lower region holds one live object more, so the other is chosen. Nothing in it is alive, and it is free again.
abbrev pub the_one_that_wastes_more : Worked
the_one_that_wastes_more = record {
  config = marking_alone;
  rows = does_all (op.New 0 0 30 ∷ op.New 1 0 30 ∷ replicate 23 filler);
  journal =
      made 1 (op.New 0 0 30) 1 0 ∷ made 2 (op.New 1 0 30) 2 0 ∷ fillers 6 3 3 0
      ++ partial (0 ∷ []) 3 (marks_of 0 (x 1 ∷ x 2 ∷ x 8 ∷ [])) (abort.Wished 0 ∷ []) ∷ fillers 8 9 9 1
      ++ partial (0 ∷ 1 ∷ []) 3 (marks_of 0 (x 1 ∷ x 2 ∷ x 16 ∷ [])) (abort.Wished 0 ∷ []) ∷ fillers 8 17 17 2
      ++ partial (1 ∷ 2 ∷ []) 1 (marks_of 0 (x 24 ∷ [])) (abort.Wished 0 ∷ []) ∷ made 25 filler 25 1 ∷ [];
}

-- Eight objects of 31 words leave eight words of each region. No more fit, though all are fewer than the heap has.
abbrev pub full_with_gaps : Worked
full_with_gaps = record {
  config = small;
  rows = does_all (map (λ k. op.New k 0 29) (range_with_len 0 32)) ++ record { thread = 1; op = op.New 0 0 29 } ∷ [];
  journal =
      four_filled 29 ++ row 1 1 (op.New 0 0 29) reply.Full None ∷ [];
}

-- Six free regions feed three workers in one age, but one alone in two.
abbrev pub few_regions_for_two_ages : Worked
few_regions_for_two_ages = record a_region_for_each_age { config = record floating_garbage.config { workers = 4 } }

-- Two eden regions are full of live objects, and four regions are free: one of the two workers copies all.
abbrev pub sixteen_alive : Worked
sixteen_alive = record {
  config = record small { geometry = record { regions = 6; words = 256 }; eden = 2; workers = 2 };
  rows = does_all (map (λ k. op.New k 0 30) (range_with_len 0 17));
  journal =
      eight_held 30 0 0 ++ eight_held 30 8 1
      ++ partial (0 ∷ 1 ∷ []) 16 (copies_of 0 2 (names 1 8) ++ copies_of 0 3 (names 9 8)) [] ∷ made 17 (op.New 16 0 30) 17 0 ∷ [];
}

-- A rule without collections: the reference from one region into the next one is noted before the object that finds no soft
-- room, and that object goes to a free region.
abbrev pub noted_before_a_placement : Worked
noted_before_a_placement = record {
  config = small;
  rows = does_all (op.New 0 1 29 ∷ replicate 7 filler ++ op.New 1 0 30 ∷ op.Store 0 0 1 ∷ replicate 8 filler);
  journal =
      made 1 (op.New 0 1 29) 1 0 ∷ fillers 7 2 2 0
      ++ made 9 (op.New 1 0 30) 9 1 ∷ did 10 (op.Store 0 0 1) reply.Ok ∷ fillers 7 11 10 1
      ++ note 1 0 (x 1) 0 ∷ made 18 filler 17 2 ∷ [];
}
