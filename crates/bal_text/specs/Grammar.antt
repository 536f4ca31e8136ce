-- How a line is read from the front of a text: the readings of numbers, names, replies, operations and lists, and of the
-- lines that are put together from them. The reader goes by these. That they give exactly the lines of events is proved
-- (first_back and first_again in proofs/LineFacts.antt), so what is promised of a journal's text does not speak of them.
use Rattle.std.specs.Prelude.{ℕ, ◌^◌, ◌&&◌, List, [], ◌∷◌, Option, Some, None, Bool, true, false, nat_lt, codes, drop, length, map, option_map, if◌then◌else◌}
use Rattle.std.specs.Option.{option_and_then, option_or}
use Rattle.std.specs.Str.{bytes_eq}
use Rattle.std.specs.Str.Parse.{digits_value}
use Rattle.std.specs.Fmt.{decimal}
use Rattle.bal_base.specs.Number.{leading_digits}
use Rattle.bal_layout.specs.declared.name.Name.{Name}
use Rattle.bal_layout.specs.declared.name.Abort.{Abort}
use Rattle.bal_layout.specs.declared.name.Abort.TheVariants as abort
use Rattle.bal_model.specs.declared.row.Op.{Op}
use Rattle.bal_model.specs.declared.row.Reply.{Reply}
use Rattle.bal_model.specs.declared.row.Reply.TheVariants as reply
use Rattle.bal_model.specs.declared.event.How.{How}
use Rattle.bal_model.specs.declared.event.How.TheVariants as how
use Rattle.bal_model.specs.declared.event.Kept.{Kept}
use Rattle.bal_model.specs.declared.event.Packed.{Packed}
use Rattle.bal_model.specs.Entries.{Entry, Spot, row, note, partial, begin, mark, end, global}
use Rattle.bal_layout.specs.Names.{is_before}
use Rattle.bal_model.specs.Spelling.{Field, Value, op_of, spelling, wants}
use Rattle.bal_model.specs.Text.{reply_word}
use Rattle.bal_model.specs.declared.row.Word.{Word}
use Rattle.bal_model.specs.declared.row.Word.TheVariants as word
use Rattle.bal_text.specs.Lines.{is_placed, is_kept_before, is_cause_before}
use Rattle.bal_text.specs.Readings.{after, behind, ended, followed, items, made, only, optional, rising, spelled}

-- a number of 64 bits: the value of all digits that stand there, if these are how it is spelled
abbrev pub number_of : List ℕ → Option ℕ
number_of word =
    if nat_lt (digits_value 10 word) (2 ^ 64) && bytes_eq (decimal (digits_value 10 word)) word then Some (digits_value 10 word) else None

unfoldable pub value_at : List ℕ → Option (ℕ × List ℕ)
value_at text = option_map (λ n. (n, drop (length (leading_digits text)) text)) (number_of (leading_digits text))

-- a number below the limit
abbrev pub number_at : ℕ → List ℕ → Option (ℕ × List ℕ)
number_at limit text = only (λ n. nat_lt n limit) value_at text

-- a number after a space
abbrev pub spaced_at : ℕ → List ℕ → Option (ℕ × List ℕ)
spaced_at limit text = after (codes " ") (number_at limit) text

-- the name that a thread's number and what stands after it are
abbrev pub name_from : ℕ → List ℕ → Option (Name × List ℕ)
name_from thread text =
    if nat_lt thread (2 ^ 32)
    then made (λ n. record { thread = thread; ordinal = n }) (after (codes ".") (number_at (2 ^ 32))) text
    else None

unfoldable pub name_at : List ℕ → Option (Name × List ℕ)
name_at text = option_and_then (λ p. name_from p.0 p.1) (value_at text)

unfoldable pub spaced_name_at : List ℕ → Option (Name × List ℕ)
spaced_name_at text = after (codes " ") name_at text

-- a reply: one of the words, or a name, or else a number
abbrev pub reply_words : List Reply
reply_words = reply.Ok ∷ reply.Null ∷ reply.Nil ∷ reply.Slot ∷ reply.Full ∷ []

abbrev pub numbered_reply_at : List ℕ → Option (Reply × List ℕ)
numbered_reply_at text =
    option_and_then (λ p. option_or (made reply.Name (name_from p.0) p.1) (Some (reply.Number p.0, p.1))) (value_at text)

unfoldable pub word_reply_at : List ℕ → Option (Reply × List ℕ)
word_reply_at text = spelled reply_word reply_words text

unfoldable pub reply_at : List ℕ → Option (Reply × List ℕ)
reply_at text = option_or (word_reply_at text) (numbered_reply_at text)

-- the words of operations, the frequent ones first
abbrev pub op_words : List Word
op_words =
    word.Load ∷ word.Store ∷ word.New ∷ word.Drop ∷ word.Arr ∷ word.Get ∷ word.Put ∷ word.GLoad ∷ word.GStore ∷ word.Gc ∷ []

unfoldable pub word_at : List ℕ → Option (Word × List ℕ)
word_at text = spelled (λ w. 32 ∷ spelling w) op_words text

-- the limits of the numbers after a word: only the value of a put may have 64 bits
abbrev pub third_limit : Word → ℕ
third_limit word.Put = 2 ^ 64
third_limit w = 2 ^ 32

abbrev pub limit_of : Field → ℕ
limit_of Value = 2 ^ 64
limit_of f = 2 ^ 32

abbrev pub limits : Word → List ℕ
limits w = map limit_of (wants w)

abbrev pub numbers_at : List ℕ → List ℕ → Option (List ℕ × List ℕ)
numbers_at [] text = Some ([], text)
numbers_at (limit ∷ more) text = made (λ p. p.0 ∷ p.1) (followed (spaced_at limit) (numbers_at more)) text

-- the operation of a word, with the numbers after it
abbrev pub op_from : Word → List ℕ → Option (Op × List ℕ)
op_from w text = option_and_then (λ p. option_map (λ o. (o, p.1)) (op_of w p.0)) (numbers_at (limits w) text)

unfoldable pub op_at : List ℕ → Option (Op × List ℕ)
op_at text = option_and_then (λ p. op_from p.0 p.1) (word_at text)

-- an arraylet has a leaf at least, and any other object has none
unfoldable pub leaves_at : List ℕ → Option (List ℕ × List ℕ)
leaves_at text = optional (codes " leaves") (items (spaced_at 2047)) text

-- where an object was placed
unfoldable pub spot_at : List ℕ → Option (Spot × List ℕ)
spot_at text = made (λ p. record { region = p.0; leaves = p.1 }) (after (codes " in") (followed (spaced_at 2047) leaves_at)) text

-- the place of a row that has one, or of one that has none
abbrev pub place_at : Bool → List ℕ → Option (Option Spot × List ℕ)
place_at true text = made (λ s. Some s) spot_at text
place_at false text = Some (None, text)

-- what a row answered: a word, which has no place, or else a number or a name, with its place if it is that of a new object
unfoldable pub word_answer_at : List ℕ → Option ((Reply × Option Spot) × List ℕ)
word_answer_at text = made (λ r. (r, None)) word_reply_at text

unfoldable pub numbered_answer_at : Op → List ℕ → Option ((Reply × Option Spot) × List ℕ)
numbered_answer_at o text = option_and_then (λ p. made (λ s. (p.0, s)) (place_at (is_placed o p.0)) p.1) (numbered_reply_at text)

unfoldable pub answer_at : Op → List ℕ → Option ((Reply × Option Spot) × List ℕ)
answer_at o text = option_or (word_answer_at text) (numbered_answer_at o text)

abbrev pub placed_at : Name → List ℕ → Option ((Reply × Option Spot) × List ℕ)
placed_at name text = made (λ s. (reply.Name name, Some s)) spot_at text

-- a row up to its answer: its thread and its number, and what it does
unfoldable pub front_at : List ℕ → Option ((ℕ × (ℕ × Op)) × List ℕ)
front_at text =
    ended (codes " = ") (after (codes "row") (followed (spaced_at (2 ^ 32)) (followed (spaced_at (2 ^ 32)) op_at))) text

-- the lines of the events
unfoldable pub row_at : List ℕ → Option (Entry × List ℕ)
row_at text =
    option_and_then (λ p. ended (codes "\n") (made (λ a. row p.0.0 p.0.1.0 p.0.1.1 a.0 a.1) (answer_at p.0.1.1)) p.1) (front_at text)

unfoldable pub note_at : List ℕ → Option (Entry × List ℕ)
note_at text =
    ended (codes "\n") (made (λ p. note p.0 p.1.0 p.1.1.0 p.1.1.1)
    (after (codes "note") (followed (spaced_at 2047) (followed (spaced_at (2 ^ 18)) (followed spaced_name_at (spaced_at (2 ^ 32))))))) text

-- how an object was kept, and by which worker
abbrev pub copied_at : List ℕ → Option ((How × ℕ) × List ℕ)
copied_at text = made (λ p. (how.Copied p.1, p.0)) (after (codes "c") (followed (number_at 32) (after (codes ">") (number_at 2047)))) text

unfoldable pub how_at : List ℕ → Option ((How × ℕ) × List ℕ)
how_at text =
    option_or (copied_at text) (made (λ w. (how.Marked, w)) (after (codes "m") (number_at 32)) text)

-- the items of lists, each after a space
unfoldable pub kept_at : List ℕ → Option (Kept × List ℕ)
kept_at text = made (λ p. record { name = p.0; how = p.1.0; worker = p.1.1 }) (followed spaced_name_at (after (codes ":") how_at)) text

unfoldable pub packed_at : List ℕ → Option (Packed × List ℕ)
packed_at text = made (λ p. record { name = p.0; region = p.1 }) (followed spaced_name_at (after (codes ">") (number_at 2047))) text

unfoldable pub cause_at : List ℕ → Option (Abort × List ℕ)
cause_at text =
    option_or (option_map (λ rest. (abort.Drained, rest)) (behind (codes " drained") text)) (made abort.Wished (after (codes " wished") (spaced_at 32)) text)

-- why an evacuation was abandoned, if it was
unfoldable pub aborts_at : List ℕ → Option (List Abort × List ℕ)
aborts_at text = optional (codes " abort") (rising is_cause_before cause_at) text

-- how many objects a partial collection scanned, and the word after it
unfoldable pub scans_at : List ℕ → Option (ℕ × List ℕ)
scans_at text = ended (codes " kept") (after (codes " scans") (spaced_at (2 ^ 32))) text

unfoldable pub partial_at : List ℕ → Option (Entry × List ℕ)
partial_at text =
    ended (codes "\n") (made (λ p. partial p.0 p.1.0 p.1.1.0 p.1.1.1)
    (after (codes "partial chosen") (followed (rising nat_lt (spaced_at 2047)) (followed scans_at (followed (rising is_kept_before kept_at) aborts_at))))) text

unfoldable pub begin_at : List ℕ → Option (Entry × List ℕ)
begin_at text = option_map (λ rest. (begin, rest)) (behind (codes "begin\n") text)

unfoldable pub mark_at : List ℕ → Option (Entry × List ℕ)
mark_at text = ended (codes "\n") (made mark (after (codes "mark") (items spaced_name_at))) text

unfoldable pub end_at : List ℕ → Option (Entry × List ℕ)
end_at text = ended (codes "\n") (made end (after (codes "end dead") (rising is_before spaced_name_at))) text

unfoldable pub global_at : List ℕ → Option (Entry × List ℕ)
global_at text =
    ended (codes "\n") (made (λ p. global p.0 p.1) (after (codes "global dead") (followed (rising is_before spaced_name_at) (after (codes " packed") (items packed_at))))) text

unfoldable pub collection_at : List ℕ → Option (Entry × List ℕ)
collection_at text =
    option_or (partial_at text) (option_or (begin_at text) (option_or (mark_at text) (option_or (end_at text) (global_at text))))

-- the event of a text's first line, and what stands after the line
unfoldable pub first_of : List ℕ → Option (Entry × List ℕ)
first_of text = option_or (row_at text) (option_or (note_at text) (collection_at text))
