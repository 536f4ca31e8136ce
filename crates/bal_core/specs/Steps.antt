-- The atomic steps of an evacuation: which are refused, what the others answer, and what the state is after them.
use Rattle.std.specs.Prelude.{ℕ, ◌+◌, ◌==◌, ◌&&◌, ◌||◌, Bool, true, false, not, nat_le, nat_lt, List, [], ◌∷◌, ◌++◌, length, Option, Some, None, if◌then◌else◌, slice_get, slice_set}
use Rattle.std.specs.List.{list_any, sum_by}
use Rattle.bal_layout.specs.Addresses.{offset_of, region_of}
use Rattle.bal_layout.specs.declared.name.Abort.{Abort}
use Rattle.bal_layout.specs.declared.name.Abort.TheVariants as abort
use Rattle.bal_core.specs.declared.event.Decision.{Decision}
use Rattle.bal_core.specs.declared.event.Decision.TheVariants as decision
use Rattle.bal_core.specs.declared.event.CoreEvent.{CoreEvent}
use Rattle.bal_core.specs.declared.event.CoreEvent.TheVariants as event
use Rattle.bal_core.specs.declared.event.CoreAnswer.{CoreAnswer}
use Rattle.bal_core.specs.declared.event.CoreAnswer.TheVariants as answer
use Rattle.bal_core.specs.declared.event.CoreFault.{CoreFault}
use Rattle.bal_core.specs.declared.event.CoreFault.TheVariants as fault
use Rattle.bal_core.specs.declared.row.Told.{Told}
use Rattle.bal_core.specs.declared.row.Drawn.{Drawn}
use Rattle.bal_core.specs.World.{World, Row, State, age_of, row_of, size_of, slots_of, word_of}

-- Where an object goes.

-- survivors are one age older, up to the greatest
abbrev pub next_age : ℕ → ℕ
next_age age = if nat_lt age 24 then age + 1 else 24

-- the words that a decision puts into a region: those of an object that is copied there
abbrev pub words_put : World → ℕ → ℕ → Decision → ℕ
words_put w region k (decision.Copied address) = if region_of w.shape address == region then size_of w k else 0
words_put w region k decision.Marked = 0

-- the words of a region that decisions filled
abbrev pub used : World → ℕ → List Told → ℕ
used w region won = sum_by (λ told. words_put w region told.object told.decision) won

-- an object goes to an address in a region that was drawn, behind what was won before: the region is for its next age, the
-- address is the first free word there, and the object fits
abbrev pub is_place : World → List Told → ℕ → ℕ → Drawn → Bool
is_place w won k address drawn =
    drawn.age == next_age (age_of w k) && region_of w.shape address == drawn.region
    && offset_of w.shape address == used w drawn.region won && nat_le (offset_of w.shape address + size_of w k) w.shape.words

-- The six faults.

abbrev pub worker_of : CoreEvent → ℕ
worker_of (event.Look worker k) = worker
worker_of (event.Copy worker k address) = worker
worker_of (event.Mark worker k) = worker
worker_of (event.Draw worker age) = worker
worker_of (event.Raise worker cause) = worker
worker_of (event.Raised worker) = worker

-- it is the wish of another worker
abbrev pub is_wish_of_another : ℕ → Abort → Bool
is_wish_of_another worker (abort.Wished w) = not (w == worker)
is_wish_of_another worker abort.Drained = false

-- there is no such worker
abbrev pub has_no_worker : State → CoreEvent → Bool
has_no_worker s e = not (nat_lt (worker_of e) (length s.crew))

abbrev pub wishes_for_another : CoreEvent → Bool
wishes_for_another (event.Raise worker cause) = is_wish_of_another worker cause
wishes_for_another e = false

-- the event's object is not there
abbrev pub has_no_object : State → CoreEvent → Bool
has_no_object s (event.Look worker k) = not (nat_lt k (length s.words))
has_no_object s (event.Copy worker k address) = not (nat_lt k (length s.words))
has_no_object s (event.Mark worker k) = not (nat_lt k (length s.words))
has_no_object s e = false

-- a slot holds object k
abbrev pub holds : ℕ → Option ℕ → Bool
holds k None = false
holds k (Some j) = j == k

-- some slot of the object that a worker knows holds object k
abbrev pub leads_to : World → ℕ → Told → Bool
leads_to w k told = list_any (holds k) (slots_of w told.object)

-- a worker may ask for what a root holds, and for what the objects that it knows lead to
abbrev pub is_reached : World → List Told → ℕ → Bool
is_reached w known k = list_any (λ r. r == k) w.roots || list_any (leads_to w k) known

abbrev pub is_unreached : State → Row → CoreEvent → Bool
is_unreached s row (event.Look worker k) = not (is_reached s.world row.known k)
is_unreached s row (event.Copy worker k address) = not (is_reached s.world row.known k)
is_unreached s row (event.Mark worker k) = not (is_reached s.world row.known k)
is_unreached s row e = false

-- no region that the worker drew takes the object there; and no region is drawn for an age that there is not, nor by a worker
-- whose last draw gave none
abbrev pub has_no_place : State → Row → CoreEvent → Bool
has_no_place s row (event.Copy worker k address) = not (list_any (is_place s.world row.won k address) row.drawn)
has_no_place s row (event.Draw worker age) = nat_lt 24 age || row.dry
has_no_place s row e = false

-- who neither raised the abort nor saw it raised marks nothing
abbrev pub is_not_raised : Row → CoreEvent → Bool
is_not_raised row (event.Mark worker k) = not row.saw
is_not_raised row e = false

abbrev pub is_drained : Abort → Bool
is_drained (abort.Wished w) = false
is_drained abort.Drained = true

-- only who was given no region calls the pool drained
abbrev pub is_not_drained : Row → CoreEvent → Bool
is_not_drained row (event.Raise worker cause) = is_drained cause && not row.dry
is_not_drained row e = false

-- the first fault whose test holds
abbrev pub first_fault : List (Bool × CoreFault) → Option CoreFault
first_fault [] = None
first_fault (test ∷ tests) = if test.0 then Some test.1 else first_fault tests

-- the tests of an event by a worker with this row, in their order
abbrev pub tests_by : State → Row → CoreEvent → List (Bool × CoreFault)
tests_by s row e =
    (has_no_worker s e, fault.Worker)
    ∷ (wishes_for_another e, fault.Worker)
    ∷ (has_no_object s e, fault.Object)
    ∷ (is_unreached s row e, fault.Unreached)
    ∷ (has_no_place s row e, fault.Place)
    ∷ (is_not_raised row e, fault.NotRaised)
    ∷ (is_not_drained row e, fault.NotDrained)
    ∷ []

abbrev pub fault_of : State → CoreEvent → Option CoreFault
fault_of s e = first_fault (tests_by s (row_of s (worker_of e)) e)

-- what a refusal tells of an event: nothing is wrong with it if memory was refused
abbrev pub told_by : CoreFault → Option CoreFault
told_by fault.NoMemory = None
told_by fault.Worker = Some fault.Worker
told_by fault.Object = Some fault.Object
told_by fault.Unreached = Some fault.Unreached
told_by fault.Place = Some fault.Place
told_by fault.NotRaised = Some fault.NotRaised
told_by fault.NotDrained = Some fault.NotDrained

-- Answers.

-- who finds the word open wins; who does not is told what it holds
abbrev pub answer_to_claim : Option Decision → CoreAnswer
answer_to_claim None = answer.Won
answer_to_claim (Some d) = answer.Lost d

-- the abort is raised
abbrev pub has_cause : State → Bool
has_cause s = s.drained || list_any (λ wished. wished) s.wished

abbrev pub answer_of : State → CoreEvent → CoreAnswer
answer_of s (event.Look worker k) = answer.Seen (word_of s k)
answer_of s (event.Copy worker k address) = answer_to_claim (word_of s k)
answer_of s (event.Mark worker k) = answer_to_claim (word_of s k)
answer_of s (event.Draw worker age) = answer.Drawn (slice_get s.world.pool s.counter)
answer_of s (event.Raise worker cause) = answer.Done
answer_of s (event.Raised worker) = answer.Flag (has_cause s)

-- The state after an event.

abbrev pub told : ℕ → Decision → Told
told k d = record { object = k; decision = d }

-- a worker that is told of a decision knows it
abbrev pub knowing : ℕ → Decision → Row → Row
knowing k d row = record row { known = row.known ++ told k d ∷ [] }

-- one that wins an object knows it too
abbrev pub winning : ℕ → Decision → Row → Row
winning k d row = record row { known = row.known ++ told k d ∷ []; won = row.won ++ told k d ∷ [] }

abbrev pub with_row : State → ℕ → Row → State
with_row s n row = record s { crew = slice_set s.crew n row }

-- the worker looks at a word that holds this
abbrev pub after_look : State → ℕ → ℕ → Option Decision → State
after_look s n k None = s
after_look s n k (Some found) = with_row s n (knowing k found (row_of s n))

-- the worker wants object k decided so, and its word holds this
abbrev pub after_claim : State → ℕ → ℕ → Decision → Option Decision → State
after_claim s n k d None = record s { words = slice_set s.words k (Some d); crew = slice_set s.crew n (winning k d (row_of s n)) }
after_claim s n k d (Some found) = with_row s n (knowing k found (row_of s n))

-- the worker draws a region of this ordinal, or none
abbrev pub after_draw : State → ℕ → ℕ → Option ℕ → State
after_draw s n age None = record s { counter = s.counter + 1; crew = slice_set s.crew n (record (row_of s n) { dry = true }) }
after_draw s n age (Some region) =
    record s {
      counter = s.counter + 1;
      crew = slice_set s.crew n (record (row_of s n) {
        drawn = (row_of s n).drawn ++ record { ordinal = s.counter; region = region; age = age } ∷ [];
      });
    }

abbrev pub raising : Row → Row
raising row = record row { raised = true; saw = true }

abbrev pub after_raise : State → ℕ → Abort → State
after_raise s n (abort.Wished w) = record s { wished = slice_set s.wished w true; crew = slice_set s.crew n (raising (row_of s n)) }
after_raise s n abort.Drained = record s { drained = true; crew = slice_set s.crew n (raising (row_of s n)) }

abbrev pub after : CoreEvent → State → State
after (event.Look worker k) s = after_look s worker k (word_of s k)
after (event.Copy worker k address) s = after_claim s worker k (decision.Copied address) (word_of s k)
after (event.Mark worker k) s = after_claim s worker k decision.Marked (word_of s k)
after (event.Draw worker age) s = after_draw s worker age (slice_get s.world.pool s.counter)
after (event.Raise worker cause) s = after_raise s worker cause
after (event.Raised worker) s = with_row s worker (record (row_of s worker) { saw = (row_of s worker).saw || has_cause s })

-- of a list of events in turn, those that are refused are passed over
abbrev pub after_or_passed : Option CoreFault → CoreEvent → State → State
after_or_passed None e s = after e s
after_or_passed (Some f) e s = s

unfoldable pub passing : CoreEvent → State → State
passing e s = after_or_passed (fault_of s e) e s

unfoldable pub after_all : List CoreEvent → State → State
after_all [] s = s
after_all (e ∷ events) s = after_all events (passing e s)
