-- Each decided object ends a walk of decided objects; at rest, all that a walk reaches is decided.
use Rattle.std.specs.Prelude.{◌↔◌}
use Rattle.std.proofs.Common.{◌≡◌, ◌<◌, ◌==◌, ℕ, zero, suc, inl, inr, true, List, [], ◌∷◌, Option, Some, None, take, ap, subst, arith}
use Rattle.std.specs.List.{list_any}
use Rattle.std.proofs.lemmas.Bool.{eqb-true, false≢true, or_cases}
use Rattle.std.proofs.lemmas.Option.{none-some}
use Rattle.bal_core.specs.declared.event.Decision.{Decision}
use Rattle.bal_core.specs.declared.row.Told.{Told}
use Rattle.bal_core.specs.World.{At, IsRoot, PointsTo, State, World, row_of, slots_of}
use Rattle.bal_core.specs.Steps.{holds, leads_to, told}
use Rattle.bal_core.specs.Core.{IsCore}
use Rattle.bal_core.specs.Rest.{EndsDecidedWalk, EndsWalk, IsAtRest, IsDecided, IsWalk}
use Rattle.bal_core.proofs.Allowed.{any-at}

at-take : {X : Type 0} (xs : List X) (i p : ℕ) (y : X) → At (take i xs) p y → (p < i) × At xs p y
at-take xs zero p y at = absurd (none-some y at)
at-take [] (suc i) p y at = absurd (none-some y at)
at-take (x ∷ xs) (suc i) zero y at = (omega arith, at)
at-take (x ∷ xs) (suc i) (suc p) y at = let rest = at-take xs i p y at in let less : p < i = rest.0 in (omega (arith, less), rest.1)

root-from : (w : World) (k : ℕ) → list_any (λ r. r == k) w.roots ≡ true → IsRoot w k
root-from w k any = let at = any-at (λ r. r == k) w.roots any in (at.0, subst (At w.roots at.0) (eqb-true at.1 k at.3) at.2)

holds-some : (k : ℕ) (o : Option ℕ) → holds k o ≡ true → o ≡ Some k
holds-some k None here = absurd (false≢true here)
holds-some k (Some j) here = ap Some (eqb-true j k here)

points-from : (w : World) (k : ℕ) (t : Told) → leads_to w k t ≡ true → PointsTo w t.object k
points-from w k t any =
    let at = any-at (holds k) (slots_of w t.object) any in
    (at.0, subst (At (slots_of w t.object) at.0) (holds-some k at.1 at.3) at.2)

-- what a worker knows, by how early it came to it
known-walk : (s : State) → IsCore s → (n b i k : ℕ) (d : Decision) → i < b → At (row_of s n).known i (told k d) → EndsDecidedWalk s k
known-walk s core n zero i k d less at = absurd (omega (arith, less))
known-walk s core n (suc b) i k d less at = elim (or_cases _ _ (core.known.reached n i k d at)) [
  | inl root ↦ ([], root-from s.world k root, (decided, tt))
  | inr led ↦
      let by = any-at (leads_to s.world k) (take i (row_of s n).known) led in
      let t : Told = by.1 in
      let before = at-take (row_of s n).known i by.0 t by.2 in
      let less-still : by.0 < i = before.0 in
      let walk : EndsDecidedWalk s t.object = known-walk s core n b by.0 t.object t.decision (omega (arith, less, less-still)) before.1 in
      (t.object ∷ walk.0, (points-from s.world k t by.3, walk.1), (decided, walk.2))
]
  where
    decided : IsDecided s k
    decided = (d, core.known.held n i k d at)

pub decided-walk : (s : State) → IsCore s → (k : ℕ) → IsDecided s k → EndsDecidedWalk s k
decided-walk s core k decided =
    let won = core.won.won k decided.0 decided.1 in
    let known = core.known.won won.0 won.1 k decided.0 won.2 in
    known-walk s core won.0 (suc known.0) known.0 k decided.0 (omega arith) known.1

pub decided-ends : (s : State) → IsCore s → (k : ℕ) → IsDecided s k → EndsWalk s.world k
decided-ends s core k decided = let walk = decided-walk s core k decided in (walk.0, walk.1)

-- along a walk
walked : (s : State) → IsAtRest s → (k : ℕ) (before : List ℕ) → IsWalk s.world (k ∷ before) → IsDecided s k
walked s rest k [] root = rest.roots k root
walked s rest k (j ∷ before) walk = rest.targets j k (walked s rest j before walk.1) walk.0

pub walked-decided : (s : State) → IsAtRest s → (k : ℕ) → EndsWalk s.world k → IsDecided s k
walked-decided s rest k walk = walked s rest k walk.0 walk.1

pub rest-exact : (s : State) → IsCore s → IsAtRest s → (k : ℕ) → IsDecided s k ↔ EndsWalk s.world k
rest-exact s core rest k = (decided-ends s core k, walked-decided s rest k)
