-- The numbers of a journal's rows, and what the plain graph replies to a trace.
use Rattle.std.specs.Prelude.{◌==◌, ℕ, List, [], ◌∷◌, if◌then◌else◌}
use Rattle.bal_model.specs.Entries.{Entry, row}
use Rattle.bal_model.specs.Plain.{State, step}
use Rattle.bal_model.specs.declared.row.Reply.{Reply}
use Rattle.bal_model.specs.declared.row.Row.{Row}

-- the numbers of a thread's row events
abbrev pub numbers_of : ℕ → List Entry → List ℕ
numbers_of t [] = []
numbers_of t (row u k o r p ∷ es) = if u == t then k ∷ numbers_of t es else numbers_of t es
numbers_of t (e ∷ es) = numbers_of t es

-- what the plain graph replies to rows, one after another
abbrev pub plain_replies : State → List Row → List Reply
plain_replies s [] = []
plain_replies s (r ∷ rs) = (step s r.thread r.op).0 ∷ plain_replies (step s r.thread r.op).1 rs
