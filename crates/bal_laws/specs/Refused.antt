-- The worked journals with one event changed, so that no run begins with the events up to it.
use Rattle.std.specs.Prelude.{◌≡◌, ℕ, List, [], ◌∷◌, ◌++◌, Some, None, slice_get, take}
use Rattle.bal_layout.specs.declared.name.Abort.TheVariants as abort
use Rattle.bal_model.specs.declared.row.Op.TheVariants as op
use Rattle.bal_model.specs.declared.row.Reply.TheVariants as reply
use Rattle.bal_model.specs.Entries.{Entry, row, note, partial, begin, mark, end, global}
use Rattle.bal_rules.specs.Interim.{whole}
use Rattle.bal_rules.specs.Run.{IsRun, IsWholeRun}
use Rattle.bal_laws.specs.Worked.{Worked, x, names, did, made, made_array, filler, copies_of, marks_of, packs_of, a_dead_array, a_drained_pool, a_dropped_ring, a_full_heap, a_held_ring, a_mark_cycle, abandoned_midway, an_overflowed_list, first_load, held_three_times, held_by_an_old_object, held_by_garbage, marked_in_place, one_of_two_stops, too_large_an_array, two_workers}
use Rattle.bal_laws.specs.WorkedMore.{a_region_for_each_age, an_older_region, copied_to_the_limit, few_regions_for_four, few_regions_for_two_ages, floating_garbage, held_by_an_old_array, one_of_two_that_waste_as_much, sixteen_alive, the_one_that_wastes_more}

-- a worked journal, the place of an event in it, and another event instead
pub record Wrong : Type 0 where
  pub worked : Worked
  pub place : ℕ
  pub right : Entry
  pub wrong : Entry

-- the right event stands there, and with the other one the events up to it begin no run, whole or broken, whatever comes
-- after them and whatever the order of the threads
pub record IsRefusedThere (w : Wrong) : Type 0 where
  pub stands : slice_get w.worked.journal w.place ≡ Some w.right
  pub refused : (after : List Entry) → IsRun whole w.worked.config w.worked.rows (take w.place w.worked.journal ++ w.wrong ∷ after) → ⊥

-- the right event stands there, and with the other one the events up to it begin no whole run: at most one in which memory
-- was refused in between
pub record IsNotWholeThere (w : Wrong) : Type 0 where
  pub stands : slice_get w.worked.journal w.place ≡ Some w.right
  pub refused : (after : List Entry) → IsWholeRun whole w.worked.config w.worked.rows (take w.place w.worked.journal ++ w.wrong ∷ after) → ⊥

-- Rows.

abbrev pub a_wrong_reply_of_a_load : Wrong
a_wrong_reply_of_a_load = record {
  worked = first_load;
  place = 1;
  right = did 2 (op.Load 1 0 0) reply.Null;
  wrong = did 2 (op.Load 1 0 0) (reply.Name (x 1));
}

abbrev pub a_wrong_place_of_an_allocation : Wrong
a_wrong_place_of_an_allocation = record {
  worked = first_load;
  place = 0;
  right = made 1 (op.New 0 1 0) 1 0;
  wrong = made 1 (op.New 0 1 0) 1 1;
}

abbrev pub a_wrong_leaf_of_an_array : Wrong
a_wrong_leaf_of_an_array = record {
  worked = a_dead_array;
  place = 0;
  right = made_array 1 (op.Arr 0 31) 1 0 (1 ∷ []);
  wrong = made_array 1 (op.Arr 0 31) 1 0 (2 ∷ []);
}

abbrev pub a_wrong_name_of_an_object : Wrong
a_wrong_name_of_an_object = record {
  worked = first_load;
  place = 0;
  right = made 1 (op.New 0 1 0) 1 0;
  wrong = made 1 (op.New 0 1 0) 2 0;
}

abbrev pub a_row_that_was_skipped : Wrong
a_row_that_was_skipped = record {
  worked = first_load;
  place = 0;
  right = made 1 (op.New 0 1 0) 1 0;
  wrong = did 2 (op.Load 1 0 0) reply.Nil;
}

abbrev pub a_wrong_number_of_a_row : Wrong
a_wrong_number_of_a_row = record {
  worked = first_load;
  place = 1;
  right = did 2 (op.Load 1 0 0) reply.Null;
  wrong = did 3 (op.Load 1 0 0) reply.Null;
}

abbrev pub a_row_that_is_not_in_the_trace : Wrong
a_row_that_is_not_in_the_trace = record {
  worked = first_load;
  place = 1;
  right = did 2 (op.Load 1 0 0) reply.Null;
  wrong = did 2 (op.Drop 0) reply.Ok;
}

abbrev pub an_allocation_without_soft_room : Wrong
an_allocation_without_soft_room = record {
  worked = held_three_times;
  place = 10;
  right = partial (0 ∷ []) 2 (copies_of 0 1 (x 1 ∷ x 8 ∷ [])) [];
  wrong = made 11 filler 9 1;
}

abbrev pub full_without_a_collection : Wrong
full_without_a_collection = record {
  worked = a_full_heap;
  place = 35;
  right = partial (0 ∷ []) 8 (marks_of 0 (names 25 8)) (abort.Drained ∷ []);
  wrong = row 1 1 (op.New 0 0 30) reply.Full None;
}

abbrev pub full_with_hard_room : Wrong
full_with_hard_room = record {
  worked = a_full_heap;
  place = 42;
  right = row 1 2 (op.New 0 0 30) (reply.Name (record { thread = 1; ordinal = 1 })) (Some (record { region = 3; leaves = [] }));
  wrong = row 1 2 (op.New 0 0 30) reply.Full None;
}

abbrev pub full_with_soft_room : Wrong
full_with_soft_room = record {
  worked = held_three_times;
  place = 11;
  right = made 11 filler 9 0;
  wrong = did 11 filler reply.Full;
}

abbrev pub full_without_a_global_collection : Wrong
full_without_a_global_collection = record {
  worked = too_large_an_array;
  place = 1;
  right = global [] [];
  wrong = did 1 (op.Arr 0 1025) reply.Full;
}

-- Notes.

abbrev pub a_note_of_no_reference : Wrong
a_note_of_no_reference = record {
  worked = held_by_an_old_object;
  place = 19;
  right = note 0 4 (x 1) 0;
  wrong = note 0 4 (x 8) 0;
}

abbrev pub a_note_for_another_region : Wrong
a_note_for_another_region = record {
  worked = held_by_an_old_object;
  place = 19;
  right = note 0 4 (x 1) 0;
  wrong = note 2 4 (x 1) 0;
}

abbrev pub a_note_from_the_inside : Wrong
a_note_from_the_inside = record {
  worked = a_held_ring;
  place = 14;
  right = partial (0 ∷ []) 4 (copies_of 0 1 (names 1 3 ++ x 10 ∷ [])) [];
  wrong = note 0 0 (x 2) 0;
}

abbrev pub a_note_of_a_card_elsewhere : Wrong
a_note_of_a_card_elsewhere = record {
  worked = held_by_an_old_object;
  place = 19;
  right = note 0 4 (x 1) 0;
  wrong = note 0 0 (x 1) 0;
}

abbrev pub a_note_of_another_card_of_a_leaf : Wrong
a_note_of_another_card_of_a_leaf = record {
  worked = held_by_an_old_array;
  place = 19;
  right = note 0 6 (x 1) 130;
  wrong = note 0 4 (x 1) 130;
}

abbrev pub a_card_noted_twice : Wrong
a_card_noted_twice = record {
  worked = an_overflowed_list;
  place = 21;
  right = note 0 5 (x 3) 0;
  wrong = note 0 4 (x 2) 0;
}

abbrev pub a_note_into_an_overflowed_list : Wrong
a_note_into_an_overflowed_list = record {
  worked = an_overflowed_list;
  place = 22;
  right = partial [] 0 [] [];
  wrong = note 0 6 (x 2) 0;
}

abbrev pub a_note_with_soft_room : Wrong
a_note_with_soft_room = record {
  worked = held_by_an_old_object;
  place = 13;
  right = made 13 filler 11 0;
  wrong = note 0 4 (x 1) 0;
}

-- Partial collections.

abbrev pub a_survivor_left_out : Wrong
a_survivor_left_out = record {
  worked = a_held_ring;
  place = 14;
  right = partial (0 ∷ []) 4 (copies_of 0 1 (names 1 3 ++ x 10 ∷ [])) [];
  wrong = partial (0 ∷ []) 3 (copies_of 0 1 (names 1 2 ++ x 10 ∷ [])) [];
}

abbrev pub one_kept_too_many : Wrong
one_kept_too_many = record {
  worked = a_dropped_ring;
  place = 15;
  right = partial (0 ∷ []) 2 (copies_of 0 1 (x 1 ∷ x 10 ∷ [])) [];
  wrong = partial (0 ∷ []) 4 (copies_of 0 1 (names 1 3 ++ x 10 ∷ [])) [];
}

abbrev pub a_wrong_count_of_scans : Wrong
a_wrong_count_of_scans = record {
  worked = a_held_ring;
  place = 14;
  right = partial (0 ∷ []) 4 (copies_of 0 1 (names 1 3 ++ x 10 ∷ [])) [];
  wrong = partial (0 ∷ []) 5 (copies_of 0 1 (names 1 3 ++ x 10 ∷ [])) [];
}

abbrev pub a_wrong_choice : Wrong
a_wrong_choice = record {
  worked = a_held_ring;
  place = 14;
  right = partial (0 ∷ []) 4 (copies_of 0 1 (names 1 3 ++ x 10 ∷ [])) [];
  wrong = partial [] 0 [] [];
}

abbrev pub an_older_region_passed_over : Wrong
an_older_region_passed_over = record {
  worked = an_older_region;
  place = 79;
  right = partial (0 ∷ 1 ∷ []) 2 (copies_of 0 2 (x 2 ∷ x 5 ∷ [])) [];
  wrong = partial (0 ∷ []) 0 [] [];
}

abbrev pub the_higher_of_two_that_waste_as_much : Wrong
the_higher_of_two_that_waste_as_much = record {
  worked = one_of_two_that_waste_as_much;
  place = 26;
  right = partial (0 ∷ 2 ∷ []) 2 (marks_of 0 (x 1 ∷ x 24 ∷ [])) (abort.Wished 0 ∷ []);
  wrong = partial (1 ∷ 2 ∷ []) 1 (marks_of 0 (x 24 ∷ [])) (abort.Wished 0 ∷ []);
}

abbrev pub the_one_that_wastes_less : Wrong
the_one_that_wastes_less = record {
  worked = the_one_that_wastes_more;
  place = 26;
  right = partial (1 ∷ 2 ∷ []) 1 (marks_of 0 (x 24 ∷ [])) (abort.Wished 0 ∷ []);
  wrong = partial (0 ∷ 2 ∷ []) 3 (marks_of 0 (x 1 ∷ x 2 ∷ x 24 ∷ [])) (abort.Wished 0 ∷ []);
}

abbrev pub one_older_region_more : Wrong
one_older_region_more = record {
  worked = the_one_that_wastes_more;
  place = 26;
  right = partial (1 ∷ 2 ∷ []) 1 (marks_of 0 (x 24 ∷ [])) (abort.Wished 0 ∷ []);
  wrong = partial (0 ∷ 1 ∷ 2 ∷ []) 3 (marks_of 0 (x 1 ∷ x 2 ∷ x 24 ∷ [])) (abort.Wished 0 ∷ []);
}

abbrev pub an_overflowed_region_chosen : Wrong
an_overflowed_region_chosen = record {
  worked = an_overflowed_list;
  place = 22;
  right = partial [] 0 [] [];
  wrong = partial (0 ∷ []) 2 (copies_of 0 3 (x 10 ∷ x 16 ∷ [])) [];
}

abbrev pub a_collection_before_its_notes : Wrong
a_collection_before_its_notes = record {
  worked = held_by_an_old_object;
  place = 19;
  right = note 0 4 (x 1) 0;
  wrong = partial (0 ∷ []) 2 (copies_of 0 2 (x 10 ∷ x 16 ∷ [])) [];
}

abbrev pub a_copy_into_a_used_region : Wrong
a_copy_into_a_used_region = record {
  worked = held_by_an_old_object;
  place = 20;
  right = partial (0 ∷ []) 2 (copies_of 0 2 (x 10 ∷ x 16 ∷ [])) [];
  wrong = partial (0 ∷ []) 2 (copies_of 0 1 (x 10 ∷ x 16 ∷ [])) [];
}

abbrev pub more_copies_than_fit : Wrong
more_copies_than_fit = record {
  worked = a_drained_pool;
  place = 16;
  right = partial (0 ∷ 2 ∷ []) 16 (copies_of 0 3 (names 1 8) ++ marks_of 0 (names 9 8)) (abort.Drained ∷ []);
  wrong = partial (0 ∷ 2 ∷ []) 16 (copies_of 0 3 (names 1 9) ++ marks_of 0 (names 10 7)) (abort.Drained ∷ []);
}

abbrev pub two_loose_regions_of_a_worker : Wrong
two_loose_regions_of_a_worker = record {
  worked = a_held_ring;
  place = 14;
  right = partial (0 ∷ []) 4 (copies_of 0 1 (names 1 3 ++ x 10 ∷ [])) [];
  wrong = partial (0 ∷ []) 4 (copies_of 0 1 (x 1 ∷ []) ++ copies_of 0 2 (x 2 ∷ x 3 ∷ x 10 ∷ [])) [];
}

abbrev pub a_copy_region_shared_by_two_workers : Wrong
a_copy_region_shared_by_two_workers = record {
  worked = two_workers;
  place = 10;
  right = partial (0 ∷ []) 3 (copies_of 0 1 (x 1 ∷ []) ++ copies_of 1 2 (x 2 ∷ x 9 ∷ [])) [];
  wrong = partial (0 ∷ []) 3 (copies_of 0 1 (x 1 ∷ []) ++ copies_of 1 1 (x 2 ∷ x 9 ∷ [])) [];
}

abbrev pub a_worker_that_there_is_not : Wrong
a_worker_that_there_is_not = record {
  worked = a_held_ring;
  place = 14;
  right = partial (0 ∷ []) 4 (copies_of 0 1 (names 1 3 ++ x 10 ∷ [])) [];
  wrong = partial (0 ∷ []) 4 (copies_of 1 1 (names 1 3 ++ x 10 ∷ [])) [];
}

abbrev pub a_worker_beyond_the_crew : Wrong
a_worker_beyond_the_crew = record {
  worked = few_regions_for_four;
  place = 14;
  right = partial (0 ∷ []) 4 (copies_of 0 1 (names 1 3 ++ x 10 ∷ [])) [];
  wrong = partial (0 ∷ []) 4 (copies_of 1 1 (names 1 3 ++ x 10 ∷ [])) [];
}

abbrev pub a_mark_without_a_cause : Wrong
a_mark_without_a_cause = record {
  worked = marked_in_place;
  place = 10;
  right = partial (0 ∷ []) 2 (marks_of 0 (x 1 ∷ x 8 ∷ [])) (abort.Wished 0 ∷ []);
  wrong = partial (0 ∷ []) 2 (marks_of 0 (x 1 ∷ x 8 ∷ [])) [];
}

abbrev pub a_drained_pool_with_regions_left : Wrong
a_drained_pool_with_regions_left = record {
  worked = marked_in_place;
  place = 10;
  right = partial (0 ∷ []) 2 (marks_of 0 (x 1 ∷ x 8 ∷ [])) (abort.Wished 0 ∷ []);
  wrong = partial (0 ∷ []) 2 (marks_of 0 (x 1 ∷ x 8 ∷ [])) (abort.Drained ∷ []);
}

abbrev pub a_copy_beyond_the_limit : Wrong
a_copy_beyond_the_limit = record {
  worked = one_of_two_stops;
  place = 10;
  right = partial (0 ∷ []) 3 (copies_of 0 1 (x 1 ∷ []) ++ copies_of 1 2 (x 2 ∷ []) ++ marks_of 1 (x 9 ∷ [])) (abort.Wished 1 ∷ []);
  wrong = partial (0 ∷ []) 3 (copies_of 0 1 (x 1 ∷ []) ++ copies_of 1 2 (x 2 ∷ x 9 ∷ [])) [];
}

abbrev pub a_wish_that_came_too_soon : Wrong
a_wish_that_came_too_soon = record {
  worked = abandoned_midway;
  place = 15;
  right = partial (0 ∷ []) 7 (copies_of 0 1 (names 1 3) ++ marks_of 0 (names 4 4)) (abort.Wished 0 ∷ []);
  wrong = partial (0 ∷ []) 7 (copies_of 0 1 (names 1 2) ++ marks_of 0 (names 3 5)) (abort.Wished 0 ∷ []);
}

abbrev pub a_wish_told_twice : Wrong
a_wish_told_twice = record {
  worked = abandoned_midway;
  place = 15;
  right = partial (0 ∷ []) 7 (copies_of 0 1 (names 1 3) ++ marks_of 0 (names 4 4)) (abort.Wished 0 ∷ []);
  wrong = partial (0 ∷ []) 7 (copies_of 0 1 (names 1 3) ++ marks_of 0 (names 4 4)) (abort.Wished 0 ∷ abort.Wished 0 ∷ []);
}

abbrev pub a_collection_for_a_load : Wrong
a_collection_for_a_load = record {
  worked = first_load;
  place = 1;
  right = did 2 (op.Load 1 0 0) reply.Null;
  wrong = partial (0 ∷ []) 1 (copies_of 0 1 (x 1 ∷ [])) [];
}

abbrev pub a_collection_with_soft_room : Wrong
a_collection_with_soft_room = record {
  worked = held_three_times;
  place = 3;
  right = made 4 filler 2 0;
  wrong = partial (0 ∷ []) 1 (copies_of 0 1 (x 1 ∷ [])) [];
}

abbrev pub copies_of_two_ages_in_one_region : Wrong
copies_of_two_ages_in_one_region = record {
  worked = a_region_for_each_age;
  place = 78;
  right = partial (0 ∷ 1 ∷ []) 3 (copies_of 0 2 (x 2 ∷ x 5 ∷ []) ++ copies_of 0 3 (x 52 ∷ [])) [];
  wrong = partial (0 ∷ 1 ∷ []) 3 (copies_of 0 2 (x 2 ∷ x 5 ∷ x 52 ∷ [])) [];
}

abbrev pub a_drained_pool_with_an_unused_region : Wrong
a_drained_pool_with_an_unused_region = record {
  worked = a_drained_pool;
  place = 16;
  right = partial (0 ∷ 2 ∷ []) 16 (copies_of 0 3 (names 1 8) ++ marks_of 0 (names 9 8)) (abort.Drained ∷ []);
  wrong = partial (0 ∷ 2 ∷ []) 16 (marks_of 0 (names 1 16)) (abort.Drained ∷ []);
}

abbrev pub a_drained_pool_of_two_workers_without_a_copy : Wrong
a_drained_pool_of_two_workers_without_a_copy = record {
  worked = two_workers;
  place = 10;
  right = partial (0 ∷ []) 3 (copies_of 0 1 (x 1 ∷ []) ++ copies_of 1 2 (x 2 ∷ x 9 ∷ [])) [];
  wrong = partial (0 ∷ []) 3 (marks_of 0 (x 1 ∷ x 2 ∷ x 9 ∷ [])) (abort.Drained ∷ []);
}

abbrev pub a_worker_beyond_the_crew_of_two_ages : Wrong
a_worker_beyond_the_crew_of_two_ages = record {
  worked = few_regions_for_two_ages;
  place = 78;
  right = partial (0 ∷ 1 ∷ []) 3 (copies_of 0 2 (x 2 ∷ x 5 ∷ []) ++ copies_of 0 3 (x 52 ∷ [])) [];
  wrong = partial (0 ∷ 1 ∷ []) 3 (copies_of 0 2 (x 2 ∷ x 5 ∷ []) ++ copies_of 1 3 (x 52 ∷ [])) [];
}

abbrev pub a_pool_drained_by_too_few_words : Wrong
a_pool_drained_by_too_few_words = record {
  worked = sixteen_alive;
  place = 16;
  right = partial (0 ∷ 1 ∷ []) 16 (copies_of 0 2 (names 1 8) ++ copies_of 0 3 (names 9 8)) [];
  wrong = partial (0 ∷ 1 ∷ []) 16 (copies_of 0 2 (names 1 8) ++ copies_of 0 3 (names 9 6) ++ marks_of 0 (names 15 2)) (abort.Drained ∷ []);
}

abbrev pub a_wish_with_nothing_left_to_copy : Wrong
a_wish_with_nothing_left_to_copy = record {
  worked = copied_to_the_limit;
  place = 15;
  right = partial (0 ∷ []) 7 (copies_of 0 1 (names 1 7)) [];
  wrong = partial (0 ∷ []) 7 (copies_of 0 1 (names 1 7)) (abort.Wished 0 ∷ []);
}

-- Mark cycles.

abbrev pub a_begin_that_is_not_due : Wrong
a_begin_that_is_not_due = record {
  worked = a_mark_cycle;
  place = 15;
  right = made 15 filler 12 0;
  wrong = begin;
}

abbrev pub a_global_collection_before_a_due_begin : Wrong
a_global_collection_before_a_due_begin = record {
  worked = a_full_heap;
  place = 36;
  right = begin;
  wrong = global [] (packs_of 0 (names 25 8) ++ packs_of 1 (names 1 8) ++ packs_of 2 (names 9 8) ++ packs_of 3 (names 17 8));
}

abbrev pub a_second_begin : Wrong
a_second_begin = record {
  worked = a_mark_cycle;
  place = 37;
  right = mark (x 1 ∷ []);
  wrong = begin;
}

abbrev pub a_mark_of_a_name_that_is_not_owed : Wrong
a_mark_of_a_name_that_is_not_owed = record {
  worked = a_mark_cycle;
  place = 37;
  right = mark (x 1 ∷ []);
  wrong = mark (x 3 ∷ []);
}

abbrev pub a_mark_of_a_name_before_its_holder : Wrong
a_mark_of_a_name_before_its_holder = record {
  worked = a_mark_cycle;
  place = 37;
  right = mark (x 1 ∷ []);
  wrong = mark (x 4 ∷ []);
}

abbrev pub a_mark_of_a_listed_name : Wrong
a_mark_of_a_listed_name = record {
  worked = a_mark_cycle;
  place = 52;
  right = mark (x 2 ∷ []);
  wrong = mark (x 1 ∷ []);
}

abbrev pub a_mark_step_with_fewer_names : Wrong
a_mark_step_with_fewer_names = record {
  worked = a_mark_cycle;
  place = 37;
  right = mark (x 1 ∷ []);
  wrong = mark [];
}

abbrev pub a_mark_step_with_more_names : Wrong
a_mark_step_with_more_names = record {
  worked = a_mark_cycle;
  place = 37;
  right = mark (x 1 ∷ []);
  wrong = mark (x 1 ∷ x 2 ∷ []);
}

abbrev pub an_end_that_is_not_due : Wrong
an_end_that_is_not_due = record {
  worked = a_mark_cycle;
  place = 53;
  right = made 47 filler 36 0;
  wrong = end (x 3 ∷ []);
}

abbrev pub a_mark_step_where_an_end_is_due : Wrong
a_mark_step_where_an_end_is_due = record {
  worked = a_mark_cycle;
  place = 64;
  right = end (x 3 ∷ []);
  wrong = mark [];
}

abbrev pub an_end_that_takes_what_an_object_holds : Wrong
an_end_that_takes_what_an_object_holds = record {
  worked = a_mark_cycle;
  place = 64;
  right = end (x 3 ∷ []);
  wrong = end (x 3 ∷ x 4 ∷ []);
}

abbrev pub an_end_that_takes_what_a_register_holds : Wrong
an_end_that_takes_what_a_register_holds = record {
  worked = floating_garbage;
  place = 69;
  right = end (x 3 ∷ []);
  wrong = end (x 3 ∷ x 5 ∷ []);
}

abbrev pub an_end_that_takes_a_listed_name : Wrong
an_end_that_takes_a_listed_name = record {
  worked = floating_garbage;
  place = 69;
  right = end (x 3 ∷ []);
  wrong = end (x 1 ∷ x 3 ∷ []);
}

abbrev pub an_end_that_takes_what_floating_garbage_holds : Wrong
an_end_that_takes_what_floating_garbage_holds = record {
  worked = floating_garbage;
  place = 69;
  right = end (x 3 ∷ []);
  wrong = end (x 3 ∷ x 4 ∷ []);
}

abbrev pub an_end_that_leaves_old_garbage : Wrong
an_end_that_leaves_old_garbage = record {
  worked = a_mark_cycle;
  place = 64;
  right = end (x 3 ∷ []);
  wrong = end [];
}

abbrev pub an_end_that_takes_what_is_gone : Wrong
an_end_that_takes_what_is_gone = record {
  worked = a_mark_cycle;
  place = 64;
  right = end (x 3 ∷ []);
  wrong = end (x 3 ∷ x 5 ∷ []);
}

-- Global collections.

abbrev pub a_global_collection_that_keeps_garbage : Wrong
a_global_collection_that_keeps_garbage = record {
  worked = held_by_garbage;
  place = 23;
  right = global (x 1 ∷ x 8 ∷ x 10 ∷ x 16 ∷ []) (packs_of 0 (x 17 ∷ []));
  wrong = global (x 1 ∷ x 8 ∷ x 10 ∷ []) (packs_of 0 (x 17 ∷ x 16 ∷ []));
}

abbrev pub a_global_collection_that_hides_a_dead_one : Wrong
a_global_collection_that_hides_a_dead_one = record {
  worked = held_by_garbage;
  place = 23;
  right = global (x 1 ∷ x 8 ∷ x 10 ∷ x 16 ∷ []) (packs_of 0 (x 17 ∷ []));
  wrong = global (x 1 ∷ x 8 ∷ x 10 ∷ []) (packs_of 0 (x 17 ∷ []));
}

abbrev pub a_global_collection_that_loses_a_name : Wrong
a_global_collection_that_loses_a_name = record {
  worked = an_overflowed_list;
  place = 24;
  right = global (x 8 ∷ x 9 ∷ names 11 6) (packs_of 0 (x 10 ∷ names 1 3 ++ x 17 ∷ []));
  wrong = global (x 8 ∷ x 9 ∷ names 11 6) (packs_of 0 (x 10 ∷ names 1 3));
}

abbrev pub a_global_collection_that_packs_one_more : Wrong
a_global_collection_that_packs_one_more = record {
  worked = an_overflowed_list;
  place = 24;
  right = global (x 8 ∷ x 9 ∷ names 11 6) (packs_of 0 (x 10 ∷ names 1 3 ++ x 17 ∷ []));
  wrong = global (x 8 ∷ x 9 ∷ names 11 6) (packs_of 0 (x 10 ∷ names 1 3 ++ x 3 ∷ x 17 ∷ []));
}

abbrev pub a_global_collection_that_packs_a_name_twice : Wrong
a_global_collection_that_packs_a_name_twice = record {
  worked = an_overflowed_list;
  place = 24;
  right = global (x 8 ∷ x 9 ∷ names 11 6) (packs_of 0 (x 10 ∷ names 1 3 ++ x 17 ∷ []));
  wrong = global (x 8 ∷ x 9 ∷ names 11 6) (packs_of 0 (x 10 ∷ x 1 ∷ x 2 ∷ x 2 ∷ x 17 ∷ []));
}

abbrev pub a_global_collection_out_of_order : Wrong
a_global_collection_out_of_order = record {
  worked = an_overflowed_list;
  place = 24;
  right = global (x 8 ∷ x 9 ∷ names 11 6) (packs_of 0 (x 10 ∷ names 1 3 ++ x 17 ∷ []));
  wrong = global (x 8 ∷ x 9 ∷ names 11 6) (packs_of 0 (names 1 3 ++ x 10 ∷ x 17 ∷ []));
}

abbrev pub a_name_packed_into_the_wrong_region : Wrong
a_name_packed_into_the_wrong_region = record {
  worked = an_overflowed_list;
  place = 24;
  right = global (x 8 ∷ x 9 ∷ names 11 6) (packs_of 0 (x 10 ∷ names 1 3 ++ x 17 ∷ []));
  wrong = global (x 8 ∷ x 9 ∷ names 11 6) (packs_of 0 (x 10 ∷ names 1 3) ++ packs_of 1 (x 17 ∷ []));
}

abbrev pub a_global_collection_that_is_not_due : Wrong
a_global_collection_that_is_not_due = record {
  worked = a_held_ring;
  place = 14;
  right = partial (0 ∷ []) 4 (copies_of 0 1 (names 1 3 ++ x 10 ∷ [])) [];
  wrong = global (names 4 6) (packs_of 0 (names 1 3 ++ x 10 ∷ []));
}

abbrev pub a_global_collection_with_soft_room : Wrong
a_global_collection_with_soft_room = record {
  worked = held_three_times;
  place = 11;
  right = made 11 filler 9 0;
  wrong = global [] (packs_of 0 (x 1 ∷ x 8 ∷ []));
}

abbrev pub a_gc_without_a_collection : Wrong
a_gc_without_a_collection = record {
  worked = held_by_garbage;
  place = 23;
  right = global (x 1 ∷ x 8 ∷ x 10 ∷ x 16 ∷ []) (packs_of 0 (x 17 ∷ []));
  wrong = did 21 op.Gc reply.Ok;
}

-- Where only a whole run is refused.

abbrev pub a_slot_noted_twice : Wrong
a_slot_noted_twice = record {
  worked = an_overflowed_list;
  place = 21;
  right = note 0 5 (x 3) 0;
  wrong = note 0 5 (x 1) 0;
}

abbrev pub an_end_that_was_left_out : Wrong
an_end_that_was_left_out = record {
  worked = a_mark_cycle;
  place = 64;
  right = end (x 3 ∷ []);
  wrong = made 56 filler 44 0;
}

abbrev pub a_begin_that_was_left_out : Wrong
a_begin_that_was_left_out = record {
  worked = a_mark_cycle;
  place = 26;
  right = begin;
  wrong = made 25 filler 20 0;
}
