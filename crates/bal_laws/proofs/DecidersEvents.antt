-- Whether a note, or a partial collection, may come.
use Rattle.std.proofs.Common.{ℕ, List, [], ◌∷◌, ◌||◌, not, Option, Some, None, length}
use Rattle.std.specs.Prelude.{filter}
use Rattle.std.specs.List.{list_any, range_with_len}
use Rattle.bal_layout.specs.declared.name.Name.{Name}
use Rattle.bal_layout.specs.declared.name.Abort.{Abort}
use Rattle.bal_layout.specs.declared.name.Abort.TheVariants as abort
use Rattle.bal_model.specs.declared.config.Config.{Config}
use Rattle.bal_model.specs.declared.event.Kept.{Kept}
use Rattle.bal_layout.specs.Regions.{region_at, all_regions, free_regions}
use Rattle.bal_rules.specs.Board.{Board, place_of, names_placed, is_empty, words_of_all}
use Rattle.bal_remember.specs.Remembered.{remembers}
use Rattle.bal_rules.specs.Choice.{choice, is_remembered}
use Rattle.bal_model.specs.Kept.{kept_names}
use Rattle.bal_rules.specs.NoteEvents.{IsNote, Slot, lies_outside, refers_into, is_card_of, same_slot}
use Rattle.bal_rules.specs.Packing.{IsPacking, IsEvacuation, IsWish, IsDrained, IsCause, KeepsLimit, crew, is_pool_filled, is_pool_used, copies_by, workers_into, is_one_worker, loose_regions, same_buffer, has_causes, ordered_causes}
use Rattle.bal_rules.specs.PartialEvents.{IsPartial, IsCopyRegion, placed_in, names_kept, names_copied_into, names_marked, lands_in, next_age, age_of_name, destination_age}
use Rattle.bal_model.specs.Plain.{reference}
use Rattle.bal_laws.proofs.Deciders.{Decided, always, never, is_true, at_most, below, both, like, each, equal, numbers, lists}
use Rattle.bal_laws.proofs.DecidersWords.{names, aborts}

-- a note
abbrev pub is_note : (c : Config) (b : Board) (noted : List Slot) (q card : ℕ) (holder : Name) (i : ℕ) → Decided (IsNote c b noted q card holder i)
is_note c b noted q card holder i =
    like (λ h. record { from_outside = h.0; refers = h.1.0; new_card = h.1.1.0; of_the_slot = h.1.1.1.0; once = h.1.1.1.1 })
    (λ r. (r.from_outside, (r.refers, (r.new_card, (r.of_the_slot, r.once)))))
    (both (is_true (lies_outside (place_of b.present holder) q))
    (both (is_true (refers_into b q (reference b.plain holder i)))
    (both (is_true (not (remembers (region_at b.regions q).remembered card)))
    (both (is_true (is_card_of c.geometry (place_of b.present holder) i card))
    (is_true (not (list_any (same_slot (record { holder = holder; number = i })) noted)))))))

-- the copies in a region
abbrev pub is_copy_region : (c : Config) (b : Board) (kept : List Kept) (q : ℕ) → Decided (IsCopyRegion c b kept q)
is_copy_region c b kept q =
    like (λ h. record { one_age = h.0; fits = h.1 }) (λ r. (r.one_age, r.fits))
    (both (each (λ (x : Name). equal numbers (next_age (age_of_name b x)) (destination_age b kept q)) (names_copied_into kept q))
    (at_most (words_of_all c b (names_copied_into kept q)) c.geometry.words))

-- a partial collection
abbrev pub is_partial : (c : Config) (b : Board) (chosen : List ℕ) (scans : ℕ) (kept : List Kept) → Decided (IsPartial c b chosen scans kept)
is_partial c b chosen scans kept =
    like
    (λ h. record {
      the_choice = h.0;
      all_flushed = h.1.0;
      each_scanned = h.1.1.0;
      just_the_kept = h.1.1.1.0;
      by_a_worker = h.1.1.1.1.0;
      from_the_pool = h.1.1.1.1.1.0;
      copies = h.1.1.1.1.1.1;
    })
    (λ r. (r.the_choice, (r.all_flushed, (r.each_scanned, (r.just_the_kept, (r.by_a_worker, (r.from_the_pool, r.copies)))))))
    (both (equal (lists numbers) chosen (choice c b.regions))
    (both (each (λ (q : ℕ). is_true (is_remembered b q)) (all_regions b.regions))
    (both (equal numbers scans (length kept))
    (both (equal (lists names) (names_kept kept) (kept_names b.plain (names_placed b.present) (names_placed (placed_in chosen b))))
    (both (each (λ (k : Kept). below k.worker c.workers) kept)
    (both (each (λ (k : Kept). is_true (lands_in (free_regions b.regions) k.how)) kept)
    (each (is_copy_region c b kept) (free_regions b.regions))))))))

-- why it was abandoned
abbrev pub is_wish : (limit : Option ℕ) (copies scans : ℕ) → Decided (IsWish limit copies scans)
is_wish None copies scans = never
is_wish (Some limit) copies scans = both (equal numbers copies limit) (below limit scans)

abbrev pub is_drained : (c : Config) (b : Board) (chosen : List ℕ) (kept : List Kept) → Decided (IsDrained c b chosen kept)
is_drained c b chosen kept =
    like (λ h. record { filled = h.0; used = h.1 }) (λ r. (r.filled, r.used))
    (both (is_true (is_pool_filled c b chosen kept)) (is_true (is_pool_used c b chosen kept)))

abbrev pub is_cause : (c : Config) (b : Board) (chosen : List ℕ) (scans : ℕ) (kept : List Kept) (cause : Abort) → Decided (IsCause c b chosen scans kept cause)
is_cause c b chosen scans kept (abort.Wished w) = is_wish c.abort_after (copies_by kept w) scans
is_cause c b chosen scans kept abort.Drained = is_drained c b chosen kept

abbrev pub keeps_limit : (limit : Option ℕ) (copies : ℕ) → Decided (KeepsLimit limit copies)
keeps_limit None copies = always
keeps_limit (Some limit) copies = at_most copies limit

-- how its workers shared it
abbrev pub is_packing : (c : Config) (b : Board) (chosen : List ℕ) (scans : ℕ) (kept : List Kept) (causes : List Abort) → Decided (IsPacking c b chosen scans kept causes)
is_packing c b chosen scans kept causes =
    like
    (λ h. record {
      by_the_crew = h.0;
      one_worker = h.1.0;
      packed = h.1.1.0;
      marked_for_a_cause = h.1.1.1.0;
      causes_in_order = h.1.1.1.1.0;
      each_cause = h.1.1.1.1.1.0;
      limit_kept = h.1.1.1.1.1.1;
    })
    (λ r. (r.by_the_crew, (r.one_worker, (r.packed, (r.marked_for_a_cause, (r.causes_in_order, (r.each_cause, r.limit_kept)))))))
    (both (each (λ (k : Kept). below k.worker (crew c b chosen)) kept)
    (both (each (λ (q : ℕ). is_true (is_one_worker (workers_into kept q))) (free_regions b.regions))
    (both (each (λ (q : ℕ). equal (lists numbers) (filter (same_buffer b kept q) (loose_regions c b kept)) (q ∷ [])) (loose_regions c b kept))
    (both (is_true (is_empty (names_marked kept) || has_causes causes))
    (both (equal (lists aborts) causes (ordered_causes (crew c b chosen) causes))
    (both (each (is_cause c b chosen scans kept) causes)
    (each (λ (w : ℕ). keeps_limit c.abort_after (copies_by kept w)) (range_with_len 0 (crew c b chosen)))))))))

abbrev pub is_evacuation : (c : Config) (b : Board) (chosen : List ℕ) (scans : ℕ) (kept : List Kept) (causes : List Abort) → Decided (IsEvacuation c b chosen scans kept causes)
is_evacuation c b chosen scans kept causes =
    like (λ h. record { partial = h.0; packing = h.1 }) (λ r. (r.partial, r.packing)) (both (is_partial c b chosen scans kept) (is_packing c b chosen scans kept causes))
