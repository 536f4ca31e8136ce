-- Marks on the objects of a plain graph: those of a thread by number, where the object with ordinal o has the number o - 1.
use Rattle.std.specs.Prelude.{ℕ, zero, suc, ◌<◌, ◌≤◌, Bool, false, List, [], length, slice_index_or}
use Rattle.bal_base.specs.Bits.{Members, is_member}
use Rattle.bal_layout.specs.declared.name.Name.{Name}
use Rattle.bal_model.specs.declared.plain.marks.Marks.{Marks}

-- the marks on the objects that a thread made; past the last thread, none
abbrev pub marks_by : Marks → ℕ → Members
marks_by m t = slice_index_or m.threads.items t (record { members = []; room = 0 })

abbrev pub has_ordinal : List ℕ → ℕ → Bool
has_ordinal members zero = false
has_ordinal members (suc i) = is_member members i

abbrev pub is_marked : Marks → Name → Bool
is_marked m x = has_ordinal (marks_by m x.thread).members x.ordinal

-- an object may be marked
pub record HasRoom (m : Marks) (x : Name) : Type 0 where
  pub thread : x.thread < length m.threads.items
  pub counted : 0 < x.ordinal
  pub room : x.ordinal ≤ (marks_by m x.thread).room
