-- What is known of an event that is not refused.
use Rattle.std.proofs.Common.{◌≡◌, ◌<◌, ℕ, zero, suc, inl, inr, Bool, true, false, List, [], ◌∷◌, Some, None, length, refl, ap, sym, ◌∙◌}
use Rattle.std.specs.Prelude.{if◌then◌else◌}
use Rattle.std.specs.List.{list_any}
use Rattle.std.proofs.Math.Seq.{take-length}
use Rattle.std.proofs.lemmas.Bool.{and_parts, eqb-true, false≢true, leb-true, ltb-true, not-false, or_cases}
use Rattle.std.proofs.lemmas.Option.{none-some}
use Rattle.bal_core.specs.declared.event.CoreEvent.{CoreEvent}
use Rattle.bal_core.specs.declared.event.Decision.{Decision}
use Rattle.bal_core.specs.declared.event.Decision.TheVariants as decision
use Rattle.bal_core.specs.declared.event.CoreFault.{CoreFault}
use Rattle.bal_core.specs.declared.row.Told.{Told}
use Rattle.bal_core.specs.declared.row.Drawn.{Drawn}
use Rattle.bal_core.specs.World.{At, State, World, row_of}
use Rattle.bal_core.specs.Steps.{fault_of, first_fault, has_no_object, has_no_place, is_not_drained, is_not_raised, is_place, is_unreached, tests_by, used, wishes_for_another, worker_of}
use Rattle.bal_core.specs.Core.{Fits}

pub record Allowed (s : State) (e : CoreEvent) : Type 0 where
  pub worker : worker_of e < length s.crew
  pub wish : wishes_for_another e ≡ false
  pub object : has_no_object s e ≡ false
  pub reached : is_unreached s (row_of s (worker_of e)) e ≡ false
  pub place : has_no_place s (row_of s (worker_of e)) e ≡ false
  pub raised : is_not_raised (row_of s (worker_of e)) e ≡ false
  pub drained : is_not_drained (row_of s (worker_of e)) e ≡ false

-- no test holds
abbrev NoneHolds : List (Bool × CoreFault) → Type 0
NoneHolds [] = Unit
NoneHolds (test ∷ tests) = (test.0 ≡ false) × NoneHolds tests

none-holds : (tests : List (Bool × CoreFault)) → first_fault tests ≡ None → NoneHolds tests
none-holds [] none = tt
none-holds (test ∷ tests) none = by test.0 refl none (λ rest. none-holds tests rest)
  where
    by : (b : Bool) → test.0 ≡ b → (if b then Some test.1 else first_fault tests) ≡ None → (first_fault tests ≡ None → NoneHolds tests)
        → (test.0 ≡ false) × NoneHolds tests
    by true is none others = absurd (none-some test.1 (sym none))
    by false is none others = (is, others none)

pub allowed : (s : State) (e : CoreEvent) → fault_of s e ≡ None → Allowed s e
allowed s e none =
    let tests : NoneHolds (tests_by s (row_of s (worker_of e)) e) = none-holds (tests_by s (row_of s (worker_of e)) e) none in
    record {
      worker = ltb-true (worker_of e) (length s.crew) (not-false _ tests.0);
      wish = tests.1.0;
      object = tests.1.1.0;
      reached = tests.1.1.1.0;
      place = tests.1.1.1.1.0;
      raised = tests.1.1.1.1.1.0;
      drained = tests.1.1.1.1.1.1.0;
    }

address_or : Decision → ℕ → ℕ
address_or (decision.Copied a) other = a
address_or decision.Marked other = other

pub same_Copied : (a b : ℕ) → decision.Copied a ≡ decision.Copied b → a ≡ b
unfolding address_or
same_Copied a b same = ap (λ d. address_or d 0) same

is_copied : Decision → Bool
is_copied (decision.Copied a) = true
is_copied decision.Marked = false

pub copied-marked : (a : ℕ) → decision.Copied a ≡ decision.Marked → ⊥
unfolding is_copied
copied-marked a same = false≢true (sym (ap is_copied same))

-- one that passes the test has a place in the list
pub any-at : {X : Type 0} (p : X → Bool) (xs : List X) → list_any p xs ≡ true → (i : ℕ) × (x : X) × At xs i x × (p x ≡ true)
any-at p [] any = absurd (false≢true any)
any-at p (x ∷ xs) any = elim (or_cases (p x) (list_any p xs) any) [
  | inl here ↦ (zero, x, refl, here)
  | inr later ↦ let at = any-at p xs later in (suc at.0, at.1, at.2, at.3)
]

-- an object that may be copied there has its place
pub fits-place : (w : World) (draws : List Drawn) (won : List Told) (k a : ℕ) → list_any (is_place w won k a) draws ≡ true
    → Fits w draws won (length won) k a
fits-place w draws won k a any =
    let at = any-at (is_place w won k a) draws any in
    let d : Drawn = at.1 in
    let within = and_parts _ _ at.3 in
    let offset = and_parts _ _ within.0 in
    let region = and_parts _ _ offset.0 in
    record {
      place = at.0;
      drawn = d;
      drew = at.2;
      region = eqb-true _ _ region.1;
      age = eqb-true _ _ region.0;
      offset = eqb-true _ _ offset.1 ∙ ap (used w d.region) (sym (take-length won));
      within = leb-true _ _ within.1;
    }
