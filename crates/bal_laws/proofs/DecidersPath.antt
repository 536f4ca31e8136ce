-- Whether an event may come at a stage of a row's path.
use Rattle.std.proofs.Common.{◌&&◌}
use Rattle.bal_model.specs.declared.config.Config.{Config}
use Rattle.bal_rules.specs.Board.{Board}
use Rattle.bal_model.specs.Entries.{Entry, note, partial, begin, mark, end, global}
use Rattle.bal_rules.specs.Interim.{Rule}
use Rattle.bal_rules.specs.Path.{Stage, opened, marking, ending, collected, Turn, IsLegal, lacks_room, may_start_global}
use Rattle.bal_laws.proofs.Deciders.{Decided, never, is_true, both}
use Rattle.bal_laws.proofs.DecidersEvents.{is_note, is_evacuation}
use Rattle.bal_laws.proofs.DecidersCycles.{no_cycle, is_mark, is_end, is_global}

-- an event before the row's own
abbrev pub is_legal : (rule : Rule) (c : Config) (turn : Turn) (stage : Stage) (b : Board) (e : Entry) → Decided (IsLegal rule c turn stage b e)
is_legal rule c turn (opened noted) b (note q card holder slot) = both (is_true (rule.notes_cards && lacks_room c turn b)) (is_note c b noted q card holder slot)
is_legal rule c turn (opened noted) b (partial chosen scans kept aborts) =
    both (is_true (rule.evacuates && lacks_room c turn b)) (is_evacuation c b chosen scans kept aborts)
is_legal rule c turn (opened noted) b (global dead packed) = both (is_true (may_start_global rule c turn b)) (is_global c b dead packed)
is_legal rule c turn marking b begin = no_cycle b.cycle
is_legal rule c turn marking b (mark names) = is_mark c b names
is_legal rule c turn ending b (end dead) = is_end b dead
is_legal rule c turn collected b (global dead packed) = both (is_true (lacks_room c turn b)) (is_global c b dead packed)
is_legal rule c turn stage b e = never
