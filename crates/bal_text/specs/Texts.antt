-- The texts that journals have.
use Rattle.std.specs.Prelude.{◌≡◌, ℕ, ⊤, ◌+◌, List, [], ◌++◌, length}
use Rattle.std.specs.List.{AllByRecursion}
use Rattle.bal_model.specs.Entries.{Entry}
use Rattle.bal_model.specs.Text.{line, journal_text}
use Rattle.bal_text.specs.declared.reader.JournalFault.{JournalFault}
use Rattle.bal_text.specs.declared.reader.JournalFault.TheVariants as fault
use Rattle.bal_text.specs.Lines.{HasLine}

-- the text is that of these events, each of which has a line
pub record IsJournal (text : List ℕ) (entries : List Entry) : Type 0 where
  pub each : AllByRecursion HasLine entries
  pub spelled : text ≡ journal_text entries

-- line n of the text, counted from 1, is the first that is no event's: some events' lines stand before it, there is
-- something after them, and no event's line begins it
pub record HasBadLine (text : List ℕ) (n : ℕ) : Type 0 where
  pub front : List Entry
  pub rest : List ℕ
  pub each : AllByRecursion HasLine front
  pub spelled : text ≡ journal_text front ++ rest
  pub number : n ≡ length front + 1
  pub more : rest ≡ [] → ⊥
  pub why : (e : Entry) (after : List ℕ) → HasLine e → rest ≡ line e ++ after → ⊥

-- why a text has no journal
abbrev pub IsFault : List ℕ → JournalFault → Type 0
IsFault text (fault.Line n) = HasBadLine text n
IsFault text fault.NoMemory = ⊤
