-- The board after any event.
use Rattle.std.specs.Prelude.{List, fold}
use Rattle.bal_model.specs.declared.config.Config.{Config}
use Rattle.bal_rules.specs.Board.{Board}
use Rattle.bal_model.specs.Entries.{Entry, row, note, partial, begin, mark, end, global}
use Rattle.bal_rules.specs.GlobalEvents.{after_global}
use Rattle.bal_rules.specs.MarkEvents.{after_begin, after_mark, after_end}
use Rattle.bal_rules.specs.NoteEvents.{after_note}
use Rattle.bal_rules.specs.PartialEvents.{after_partial}
use Rattle.bal_rules.specs.RowEvents.{after_row}

abbrev pub after : Config → Board → Entry → Board
after c b (row t k o r p) = after_row c b t o r p
after c b (note q card holder slot) = after_note c b q card
after c b (partial chosen scans kept aborts) = after_partial c b chosen kept
after c b begin = after_begin b
after c b (mark names) = after_mark b names
after c b (end dead) = after_end c b dead
after c b (global dead packed) = after_global c b dead packed

-- the board after these events
abbrev pub after_all : Config → Board → List Entry → Board
after_all c b entries = fold (after c) b entries
