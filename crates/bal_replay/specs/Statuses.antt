-- The numbers and the lines of the statuses.
use Rattle.std.specs.Prelude.{ℕ, List, [], ◌++◌, codes}
use Rattle.std.specs.Fmt.{decimal}
use Rattle.std.specs.declared.io.ErrorKind.{ErrorKind}
use Rattle.std.specs.declared.io.ErrorKind.TheVariants.{OutOfMemory}
use Rattle.bal_rows.specs.Texts.{text_of}
use Rattle.bal_replay.specs.declared.status.Status.{Status}
use Rattle.bal_replay.specs.declared.status.Status.TheVariants as status

abbrev pub number_of : Status → ℕ
number_of status.Ok = 0
number_of status.Usage = 2
number_of status.ReadFault = 3
number_of status.TooLong = 4
number_of (status.BadRow row cause) = 5
number_of status.WriteFault = 6
number_of status.NoMemory = 7

-- the line of a status, as far as it is always the same
abbrev pub fixed_line_of : Status → List ℕ
fixed_line_of status.Ok = []
fixed_line_of status.Usage = codes "balanced: usage: balanced <command> [--option number]...\n"
fixed_line_of status.ReadFault = codes "balanced: reading failed\n"
fixed_line_of status.TooLong = codes "balanced: input longer than 67108864 bytes\n"
fixed_line_of (status.BadRow row cause) = codes "balanced: row "
fixed_line_of status.WriteFault = codes "balanced: writing failed\n"
fixed_line_of status.NoMemory = codes "balanced: out of memory\n"

-- the line of a status: that of a bad row names the row and the cause
abbrev pub line_of : Status → List ℕ
line_of (status.BadRow row cause) = codes "balanced: row " ++ decimal row ++ codes ": " ++ text_of cause ++ codes "\n"
line_of s = fixed_line_of s

-- how a run ends for which the system gave no words: memory was refused, or a word is no text
abbrev pub status_without_words : ErrorKind → Status
status_without_words OutOfMemory = status.NoMemory
status_without_words _ = status.Usage
