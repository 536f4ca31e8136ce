-- A worker by itself: which of its events are not refused, and its state after each.
use Rattle.std.proofs.Common.{◌≡◌, ◌+◌, ◌<◌, ◌≤◌, ℕ, Bool, true, false, not, List, [], ◌∷◌, ◌++◌, length, set, get_or, Option, Some, None, IsTrue, refl, ap, sym, subst, ◌∙◌, arith}
use Rattle.std.specs.Prelude.{◌||◌, slice_get, nat_lt, if◌then◌else◌}
use Rattle.std.specs.List.{list_any}
use Rattle.std.proofs.lemmas.Bool.{lt-ltb, ltb-true}
use Rattle.std.proofs.lemmas.List.{length-append}
use Rattle.bal_layout.specs.declared.name.Abort.{Abort}
use Rattle.bal_layout.specs.declared.name.Abort.TheVariants as abort
use Rattle.bal_core.specs.declared.event.CoreEvent.{CoreEvent}
use Rattle.bal_core.specs.declared.event.CoreEvent.TheVariants as event
use Rattle.bal_core.specs.declared.event.CoreFault.{CoreFault}
use Rattle.bal_core.specs.declared.event.Decision.{Decision}
use Rattle.bal_core.specs.declared.event.Decision.TheVariants as decision
use Rattle.bal_core.specs.declared.row.Told.{Told}
use Rattle.bal_core.specs.declared.row.Drawn.{Drawn}
use Rattle.bal_core.specs.World.{State, World, row_of}
use Rattle.bal_core.specs.Steps.{after, after_all, after_claim, after_draw, after_or_passed, fault_of, first_fault, is_place, tests_by, worker_of, is_reached, passing, told}
use Rattle.bal_core.specs.Core.{IsCore}
use Rattle.bal_core.proofs.Lemmas.{core-applies}
use Rattle.bal_evacuate.specs.Course.{alone}

-- Events in turn.

pub after-append : (xs ys : List CoreEvent) (s : State) → after_all (xs ++ ys) s ≡ after_all ys (after_all xs s)
unfolding after_all
after-append [] ys s = refl
after-append (x ∷ xs) ys s = after-append xs ys (passing x s)

-- one state comes from another by events
abbrev pub Comes : State → State → Type 0
Comes s t = (events : List CoreEvent) × (t ≡ after_all events s)

pub comes-none : (s : State) → Comes s s
unfolding after_all
comes-none s = ([], refl)

pub comes-then : (s t u : State) → Comes s t → Comes t u → Comes s u
comes-then s t u one two = (one.0 ++ two.0, two.1 ∙ ap (after_all two.0) one.1 ∙ sym (after-append one.0 two.0 s))

passes : (e : CoreEvent) (s : State) → fault_of s e ≡ None → passing e s ≡ after e s
unfolding passing
passes e s none = ap (λ o. after_or_passed o e s) none

pub comes-by : (e : CoreEvent) (s t : State) → fault_of s e ≡ None → t ≡ after e s → Comes s t
unfolding after_all
comes-by e s t none is = (e ∷ [], is ∙ sym (passes e s none))

-- one event, after which the invariant holds
pub record Step (s t : State) : Type 0 where
  pub core : IsCore t
  pub comes : Comes s t

pub step-by : (e : CoreEvent) (s t : State) → IsCore s → fault_of s e ≡ None → t ≡ after e s → Step s t
step-by e s t core none is = record { core = subst IsCore (sym is) (core-applies s e core none); comes = comes-by e s t none is }

pub step-then : (s t u : State) → Step s t → Step t u → Step s u
step-then s t u one two = record { core = two.core; comes = comes-then s t u one.comes two.comes }

-- No test holds.

abbrev NoneHolds : List (Bool × CoreFault) → Type 0
NoneHolds [] = Unit
NoneHolds (test ∷ tests) = (test.0 ≡ false) × NoneHolds tests

none-first : (tests : List (Bool × CoreFault)) → NoneHolds tests → first_fault tests ≡ None
none-first [] none = refl
none-first (test ∷ tests) none = ap (λ b. if b then Some test.1 else first_fault tests) none.0 ∙ none-first tests none.1

free : (s : State) (e : CoreEvent) → NoneHolds (tests_by s (row_of s (worker_of e)) e) → fault_of s e ≡ None
free s e none = none-first (tests_by s (row_of s (worker_of e)) e) none

young-draw : (age : ℕ) → age ≤ 24 → (nat_lt 24 age || false) ≡ false
young-draw age young = by (nat_lt 24 age) refl
  where
    by : (b : Bool) → nat_lt 24 age ≡ b → (b || false) ≡ false
    by true is = let past : 24 < age = ltb-true 24 age is in absurd (omega (arith, past, young))
    by false is = refl

passed : (b : Bool) → b ≡ true → not b ≡ false
passed b is = ap not is

module _ (w : World) (words : List (Option Decision)) (won : List Told) (drawn : List Drawn) where
  -- An object is decided.

  module _ (k : ℕ) (within : k < length words) (reached : IsTrue (is_reached w won k)) (unset : get_or words k None ≡ None) where
    abbrev with : Decision → Option Abort → State
    with d cause = alone w (set words k (Some d)) (won ++ told k d ∷ []) drawn cause

    pub copy-step : (a : ℕ) → list_any (is_place w won k a) drawn ≡ true → IsCore (alone w words won drawn None)
        → Step (alone w words won drawn None) (with (decision.Copied a) None)
    copy-step a place core =
        step-by (event.Copy 0 k a) (alone w words won drawn None) (with (decision.Copied a) None) core
        (free (alone w words won drawn None) (event.Copy 0 k a) (refl, (refl, (passed _ (lt-ltb k (length words) within), (passed _ reached, (passed _ place, (refl, (refl, tt))))))))
        (sym (ap (after_claim (alone w words won drawn None) 0 k (decision.Copied a)) unset))

    pub mark-step : (cause : Abort) → IsCore (alone w words won drawn (Some cause))
        → Step (alone w words won drawn (Some cause)) (with decision.Marked (Some cause))
    mark-step cause core =
        step-by (event.Mark 0 k) (alone w words won drawn (Some cause)) (with decision.Marked (Some cause)) core
        (free (alone w words won drawn (Some cause)) (event.Mark 0 k) (refl, (refl, (passed _ (lt-ltb k (length words) within), (passed _ reached, (refl, (refl, (refl, tt))))))))
        (sym (ap (after_claim (alone w words won drawn (Some cause)) 0 k decision.Marked) unset))

  -- The abort is raised.

  pub wish-step : IsCore (alone w words won drawn None) → Step (alone w words won drawn None) (alone w words won drawn (Some (abort.Wished 0)))
  wish-step core =
      step-by (event.Raise 0 (abort.Wished 0)) (alone w words won drawn None) (alone w words won drawn (Some (abort.Wished 0))) core
      (free (alone w words won drawn None) (event.Raise 0 (abort.Wished 0)) (refl, (refl, (refl, (refl, (refl, (refl, (refl, tt)))))))) refl

  -- A region is drawn, or none is left.

  abbrev before : State
  before = alone w words won drawn None

  dry : State
  dry = after_draw (alone w words won drawn None) 0 0 None

  dry-step : (age : ℕ) → age ≤ 24 → slice_get w.pool (length drawn + 0) ≡ None → IsCore (alone w words won drawn None)
      → Step (alone w words won drawn None) dry
  unfolding dry
  dry-step age young none core =
      step-by (event.Draw 0 age) before (after_draw before 0 age None) core
      (free before (event.Draw 0 age) (refl, (refl, (refl, (refl, (young-draw age young, (refl, (refl, tt)))))))) (sym (ap (after_draw before 0 age) none))

  abbrev counted : ℕ → State
  counted n = record (alone w words won drawn (Some abort.Drained)) { counter = n }

  pub drained-step : (age : ℕ) → age ≤ 24 → slice_get w.pool (length drawn + 0) ≡ None → IsCore (alone w words won drawn None)
      → Step (alone w words won drawn None) (alone w words won drawn (Some abort.Drained))
  unfolding dry
  drained-step age young none core =
      let first : Step before dry = dry-step age young none core in
      let count : length drawn + 1 ≡ length drawn + 0 + 1 = omega arith in
      step-then before dry (alone w words won drawn (Some abort.Drained)) first
      (step-by (event.Raise 0 abort.Drained) dry (alone w words won drawn (Some abort.Drained)) first.core
      (free dry (event.Raise 0 abort.Drained) (refl, (refl, (refl, (refl, (refl, (refl, (refl, tt)))))))) (ap counted count))

  abbrev with_draw : ℕ → ℕ → ℕ → ℕ → State
  with_draw counter ordinal age region =
      record (alone w words won (drawn ++ record { ordinal = ordinal; region = region; age = age } ∷ []) None) { counter = counter }

  pub draw-step : (age region : ℕ) → age ≤ 24 → slice_get w.pool (length drawn + 0) ≡ Some region → IsCore (alone w words won drawn None)
      → Step (alone w words won drawn None) (alone w words won (drawn ++ record { ordinal = length drawn; region = region; age = age } ∷ []) None)
  draw-step age region young at core =
      let none : length drawn + 0 ≡ length drawn = omega arith in
      let more : length (drawn ++ record { ordinal = length drawn; region = region; age = age } ∷ []) ≡ length drawn + 1
      = length-append drawn (record { ordinal = length drawn; region = region; age = age } ∷ []) in
      let count : length (drawn ++ record { ordinal = length drawn; region = region; age = age } ∷ []) + 0 ≡ length drawn + 0 + 1 = omega (arith, more) in
      step-by (event.Draw 0 age) before (with_draw (length (drawn ++ record { ordinal = length drawn; region = region; age = age } ∷ []) + 0) (length drawn) age region) core
      (free before (event.Draw 0 age) (refl, (refl, (refl, (refl, (young-draw age young, (refl, (refl, tt))))))))
      (ap (λ c. with_draw c (length drawn) age region) count ∙ ap (λ o. with_draw (length drawn + 0 + 1) o age region) (sym none)
      ∙ sym (ap (after_draw before 0 age) at))
