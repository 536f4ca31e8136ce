-- The text of a journal: one line for each event, of words with one space between them.
use Rattle.std.specs.Prelude.{ℕ, List, [], ◌∷◌, ◌++◌, map, flat_map, codes, Option, Some, None}
use Rattle.std.specs.Fmt.{decimal}
use Rattle.bal_layout.specs.declared.name.Name.{Name}
use Rattle.bal_layout.specs.declared.name.Abort.{Abort}
use Rattle.bal_layout.specs.declared.name.Abort.TheVariants as abort
use Rattle.bal_model.specs.declared.row.Reply.{Reply}
use Rattle.bal_model.specs.declared.row.Reply.TheVariants as reply
use Rattle.bal_model.specs.declared.event.How.{How}
use Rattle.bal_model.specs.declared.event.How.TheVariants as how
use Rattle.bal_model.specs.declared.event.Kept.{Kept}
use Rattle.bal_model.specs.declared.event.Packed.{Packed}
use Rattle.bal_model.specs.Entries.{Entry, Spot, row, note, partial, begin, mark, end, global}
use Rattle.bal_model.specs.Spelling.{op_word, op_numbers}

-- a name is written with a point: 0.1
abbrev pub name_word : Name → List ℕ
name_word x = decimal x.thread ++ codes "." ++ decimal x.ordinal

abbrev pub name_words : List Name → List (List ℕ)
name_words names = map name_word names

abbrev pub reply_word : Reply → List ℕ
reply_word (reply.Name x) = name_word x
reply_word reply.Null = codes "null"
reply_word (reply.Number n) = decimal n
reply_word reply.Ok = codes "ok"
reply_word reply.Nil = codes "nil"
reply_word reply.Slot = codes "slot"
reply_word reply.Full = codes "full"

-- where an allocation was placed: `in 3`, and for an arraylet `in 3 leaves 4 5`
abbrev pub leaves_words : List ℕ → List (List ℕ)
leaves_words [] = []
leaves_words (q ∷ qs) = codes "leaves" ∷ map decimal (q ∷ qs)

abbrev pub place_words : Option Spot → List (List ℕ)
place_words None = []
place_words (Some spot) = codes "in" ∷ decimal spot.region ∷ leaves_words spot.leaves

-- a kept object with its worker: 0.1:c0>3 for a copy into region 3, 0.1:m0 for a mark
abbrev pub how_word : How → ℕ → List ℕ
how_word (how.Copied q) worker = codes "c" ++ decimal worker ++ codes ">" ++ decimal q
how_word how.Marked worker = codes "m" ++ decimal worker

abbrev pub kept_word : Kept → List ℕ
kept_word k = name_word k.name ++ codes ":" ++ how_word k.how k.worker

-- why an evacuation was abandoned
abbrev pub cause_words : Abort → List (List ℕ)
cause_words (abort.Wished worker) = codes "wished" ∷ decimal worker ∷ []
cause_words abort.Drained = codes "drained" ∷ []

abbrev pub abort_words : List Abort → List (List ℕ)
abort_words [] = []
abort_words (cause ∷ causes) = codes "abort" ∷ flat_map cause_words (cause ∷ causes)

-- a packed object with its region: 0.1>3
abbrev pub packed_word : Packed → List ℕ
packed_word k = name_word k.name ++ codes ">" ++ decimal k.region

-- the first word of an event's line, and the others
abbrev pub kind_word : Entry → List ℕ
kind_word (row t k o r p) = codes "row"
kind_word (note q card holder slot) = codes "note"
kind_word (partial chosen scans kept aborts) = codes "partial"
kind_word begin = codes "begin"
kind_word (mark names) = codes "mark"
kind_word (end dead) = codes "end"
kind_word (global dead packed) = codes "global"

abbrev pub more_words : Entry → List (List ℕ)
more_words (row t k o r p) =
    decimal t ∷ decimal k ∷ op_word o ∷ map decimal (op_numbers o) ++ codes "=" ∷ reply_word r ∷ place_words p
more_words (note q card holder slot) = decimal q ∷ decimal card ∷ name_word holder ∷ decimal slot ∷ []
more_words (partial chosen scans kept aborts) =
    codes "chosen" ∷ map decimal chosen ++ codes "scans" ∷ decimal scans ∷ codes "kept" ∷ map kept_word kept ++ abort_words aborts
more_words begin = []
more_words (mark names) = name_words names
more_words (end dead) = codes "dead" ∷ name_words dead
more_words (global dead packed) = codes "dead" ∷ name_words dead ++ codes "packed" ∷ map packed_word packed

-- words that follow others, each after a space
abbrev pub spaced : List (List ℕ) → List ℕ
spaced words = flat_map (λ w. 32 ∷ w) words

-- a line ends with a line feed
unfoldable pub line : Entry → List ℕ
line e = kind_word e ++ spaced (more_words e) ++ 10 ∷ []

abbrev pub journal_text : List Entry → List ℕ
journal_text entries = flat_map line entries
