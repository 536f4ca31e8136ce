-- The journal's list tells of the survivors and of nothing else, and sums over it are sums over what the workers decided.
use Rattle.std.proofs.Common.{◌≡◌, ◌<◌, ℕ, inl, inr, List, [], ◌∷◌, length, refl, ap, ◌∙◌, arith}
use Rattle.std.specs.List.{AllByRecursion, Contains, sum_by}
use Rattle.std.proofs.lemmas.Bool.{cases_lt}
use Rattle.std.proofs.lemmas.List.{get_or_past}
use Rattle.std.proofs.lemmas.List.Elements.{All-from_recursion, recursion_from_All}
use Rattle.std.proofs.lemmas.List.Sorted.{All-permutation, Contains-permutation, sum_by-IsPermutation}
use Rattle.std.proofs.lemmas.Option.{slice_get-get_or, slice_get_within}
use Rattle.bal_core.specs.World.{At, IsWorld, World}
use Rattle.bal_core.specs.Rest.{EndsWalk, IsWalk}
use Rattle.bal_core.specs.Finished.{Evacuation, IsEvacuated, Survives, won_by}
use Rattle.bal_core.specs.declared.event.Decision.{Decision}
use Rattle.bal_core.specs.declared.row.Told.{Told}
use Rattle.bal_model.specs.declared.config.Config.{Config}
use Rattle.bal_model.specs.declared.event.Kept.{Kept}
use Rattle.bal_rules.proofs.Lemmas.{each-map}
use Rattle.bal_rules.specs.Board.{Board}
use Rattle.bal_told.specs.OnBoard.{IsObjectOf}
use Rattle.bal_told.specs.Telling.{name_in, survivors_of, told_as, told_by}
use Rattle.bal_told.specs.Whole.{IsWhole}
use Rattle.bal_told.proofs.Lists.{at-map, contains-at, contains-part, each-from_at, each-part, sum-no_part, sum-of_map, sum-one_part}

-- who ends a walk is an object of the graph
pub walk-within : (w : World) → IsWorld w → (k : ℕ) (before : List ℕ) → IsWalk w (k ∷ before) → k < length w.sizes
walk-within w is k [] root = is.roots k root
walk-within w is k (j ∷ before) walk = is.slots j k walk.0

-- a survivor is an object of the graph, and has a name there
pub survivor-within : (e : Evacuation) → IsEvacuated e → (n i k : ℕ) (d : Decision) → Survives e n i k d → k < length e.world.sizes
survivor-within e is n i k d here = let walk : EndsWalk e.world k = is.survivors.walked n i k d here in walk-within e.world is.world k walk.0 walk.1

pub survivor-name : (e : Evacuation) → IsEvacuated e → (n i k : ℕ) (d : Decision) → Survives e n i k d
    → At e.world.names k (name_in e.world.names k)
survivor-name e is n i k d here =
    let less : k < length e.world.sizes = survivor-within e is n i k d here in
    let same : length e.world.names ≡ length e.world.sizes = is.world.names in
    slice_get-get_or e.world.names k (record { thread = 0; ordinal = 0 }) (omega (arith, less, same))

-- what the list has of one worker's decision
pub record IsSurvivor (e : Evacuation) (k : Kept) : Type 0 where
  pub place : ℕ
  pub told : Told
  pub within : k.worker < length e.won
  pub won : At (won_by e k.worker) place told
  pub is : k ≡ told_as e.world.shape e.world.names k.worker told

module _ (c : Config) (b : Board) (chosen : List ℕ) (e : Evacuation) (kept : List Kept) (whole : IsWhole c b chosen e kept) where
  -- a survivor is an object of the board
  pub name-at : (n i k : ℕ) (d : Decision) → Survives e n i k d → At e.world.names k (name_in e.world.names k)
  name-at n i k d here = survivor-name e whole.evacuated n i k d here

  pub object-of : (n i k : ℕ) (d : Decision) → Survives e n i k d → IsObjectOf c b chosen e k (name_in e.world.names k)
  object-of n i k d here = whole.board.inside k (name_in e.world.names k) (name-at n i k d here)

  -- who decided something is of the crew
  pub worker-within : (n i : ℕ) (t : Told) → At (won_by e n) i t → n < length e.won
  worker-within n i t at = elim (cases_lt n (length e.won)) [
    | inl less ↦ less
    | inr past ↦
        let none : i < length (won_by e n) = slice_get_within (won_by e n) i t at in
        let empty : length (won_by e n) ≡ 0 = ap length (get_or_past e.won n [] past) in
        absurd (omega (arith, none, empty))
  ]

  -- each of the list is a survivor
  pub each-survivor : AllByRecursion (IsSurvivor e) kept
  each-survivor =
      recursion_from_All (IsSurvivor e) kept
      (All-permutation (IsSurvivor e) (survivors_of e) kept whole.told.same
      (All-from_recursion (IsSurvivor e) (survivors_of e) (each-part (IsSurvivor e) (told_by e) 0 (length e.won) (λ n less. of n (omega (arith, less))))))
    where
      of : (n : ℕ) → n < length e.won → AllByRecursion (IsSurvivor e) (told_by e n)
      of n less =
          each-map (λ (t : Told). (i : ℕ) × At (won_by e n) i t) (IsSurvivor e) (told_as e.world.shape e.world.names n)
          (λ t at. record { place = at.0; told = t; within = less; won = at.1; is = refl }) (won_by e n)
          (each-from_at (λ (t : Told). (i : ℕ) × At (won_by e n) i t) (won_by e n) (λ i t at. (i, at)))

  -- and each survivor is in it
  pub is-told : (n i : ℕ) (t : Told) → At (won_by e n) i t → Contains kept (told_as e.world.shape e.world.names n t)
  is-told n i t at =
      let k : Kept = told_as e.world.shape e.world.names n t in
      Contains-permutation (survivors_of e) kept k whole.told.same
      (contains-part (told_by e) 0 (length e.won) n k (omega arith) (let less : n < length e.won = worker-within n i t at in omega (arith, less))
      (contains-at (told_by e n) i k (at-map (told_as e.world.shape e.world.names n) (won_by e n) i t at)))

  -- a sum to which one worker alone gives something
  pub sum-by_one : (f : Kept → ℕ) (n : ℕ) → n < length e.won → ((m : ℕ) → (m ≡ n → ⊥) → sum_by f (told_by e m) ≡ 0)
      → sum_by f kept ≡ sum_by (λ (t : Told). f (told_as e.world.shape e.world.names n t)) (won_by e n)
  sum-by_one f n less others =
      sum_by-IsPermutation f (survivors_of e) kept whole.told.same
      ∙ sum-one_part f (told_by e) 0 (length e.won) n (omega arith) (omega (arith, less)) others
      ∙ sum-of_map f (told_as e.world.shape e.world.names n) (won_by e n)

  -- and one to which none does
  pub sum-by_none : (f : Kept → ℕ) → ((m : ℕ) → m < length e.won → sum_by f (told_by e m) ≡ 0) → sum_by f kept ≡ 0
  sum-by_none f none =
      sum_by-IsPermutation f (survivors_of e) kept whole.told.same
      ∙ sum-no_part f (told_by e) 0 (length e.won) (λ m from less. none m (omega (arith, less)))
