-- A worker that is alone draws a region only for an object that it then copies there.
use Rattle.std.proofs.Common.{◌≡◌, ◌≤◌, ◌+◌, ◌==◌, inl, inr, ℕ, zero, suc, Bool, List, [], ◌∷◌, length, max, min, refl, ap, sym, subst, ◌∙◌, arith}
use Rattle.std.specs.Prelude.{◌/◌, ◌*◌, if◌then◌else◌}
use Rattle.std.specs.List.{sum_by}
use Rattle.std.proofs.lemmas.Bool.{cases_Bool, cases_lt, eqb-true}
use Rattle.std.proofs.lemmas.List.Sums.{sum_by-cons}
use Rattle.std.proofs.lemmas.Option.{same_Some}
use Rattle.bal_layout.specs.Addresses.{region_of}
use Rattle.bal_layout.specs.declared.name.Name.{Name}
use Rattle.bal_core.specs.World.{At, age_of, size_of}
use Rattle.bal_core.specs.Core.{Fits}
use Rattle.bal_core.specs.Steps.{next_age, told, words_put}
use Rattle.bal_core.specs.Finished.{AreFilled, ArePackedTight, Evacuation, IsEvacuated, IsWithinLimit, LeavesSome, Receives, Survives, drawn_by, won_by}
use Rattle.bal_core.specs.declared.event.Decision.{Decision}
use Rattle.bal_core.specs.declared.event.Decision.TheVariants as decision
use Rattle.bal_core.specs.declared.row.Drawn.{Drawn}
use Rattle.bal_core.specs.declared.row.Told.{Told}
use Rattle.bal_model.specs.declared.config.Config.{Config}
use Rattle.bal_model.specs.declared.event.Kept.{Kept}
use Rattle.bal_rules.specs.Board.{Board}
use Rattle.bal_rules.specs.Packing.{count_of_ages, crew, pool_of}
use Rattle.bal_told.specs.OnBoard.{IsOfBoard}
use Rattle.bal_told.specs.Telling.{AreTold, name_in}
use Rattle.bal_told.specs.Whole.{AreDrawnForObjects, IsWhole}
use Rattle.bal_told.proofs.Survivors.{survivor-name}

-- a sum that is not zero has a term that is none
some-term : {X : Type 0} (f : X → ℕ) (xs : List X) → 1 ≤ sum_by f xs → (i : ℕ) × (x : X) × At xs i x × (1 ≤ f x)
some-term f [] some = absurd (omega (arith, some))
some-term f (x ∷ xs) some = elim (cases_lt 0 (f x)) [
  | inl more ↦ (zero, x, refl, omega (arith, more))
  | inr none ↦
      let all : sum_by f (x ∷ xs) ≡ f x + sum_by f xs = sum_by-cons f x xs in
      let found = some-term f xs (omega (arith, some, none, all)) in
      (suc found.0, found.1, found.2, found.3)
]

module _ (e : Evacuation) (is : IsEvacuated e) where
  -- the object that a region was drawn for
  ForObject : Drawn → Type 0
  ForObject d = (k : ℕ) × (x : Name) × At e.world.names k x × (next_age (age_of e.world k) ≡ d.age)

  copied-there : (n i : ℕ) (d : Drawn) → Receives e n i d → (j k : ℕ) (f : Decision) → Survives e n j k f
      → 1 ≤ words_put e.world d.region k f → ForObject d
  unfolding ForObject
  copied-there n i d here j k decision.Marked there some = absurd (omega (arith, some))
  copied-there n i d here j k (decision.Copied a) there some = elim (cases_Bool (region_of e.world.shape a == d.region)) [
    | inl same ↦
        let f : Fits e.world (drawn_by e n) (won_by e n) j k a = is.copies.fits n j k a there in
        let once = is.regions.once n n f.place i f.drawn d f.drew here (sym f.region ∙ eqb-true (region_of e.world.shape a) d.region same) in
        let draw : f.drawn ≡ d = same_Some f.drawn d (sym (subst (λ m. At (drawn_by e n) m f.drawn) once.1 f.drew) ∙ here) in
        (k, name_in e.world.names k, survivor-name e is n j k (decision.Copied a) there, sym f.age ∙ ap (λ (g : Drawn). g.age) draw)
    | inr elsewhere ↦
        let none : words_put e.world d.region k (decision.Copied a) ≡ 0 = ap (λ (t : Bool). if t then size_of e.world k else 0) elsewhere in
        absurd (omega (arith, some, none))
  ]

  pub drawn-for : AreFilled e → AreDrawnForObjects e
  unfolding ForObject
  drawn-for filled = record {
    object = λ n i d here.
        let found = some-term (λ (t : Told). words_put e.world d.region t.object t.decision) (won_by e n) (filled.filled n i d here) in
        copied-there n i d here found.0 found.1.object found.1.decision found.2 found.3;
  }

crew-some : (workers share : ℕ) → 1 ≤ max 1 (min workers share)
crew-some workers share = omega arith

pub whole-alone : (c : Config) (b : Board) (chosen : List ℕ) (e : Evacuation) (kept : List Kept) → IsEvacuated e → ArePackedTight e
    → IsWithinLimit c.abort_after e
    → LeavesSome e → AreFilled e → IsOfBoard c b chosen e → AreTold e kept → length e.won ≡ 1 → IsWhole c b chosen e kept
whole-alone c b chosen e kept evacuated tight limit leaves filled board told one = record {
  evacuated = evacuated;
  tight = tight;
  limit = limit;
  leaves = leaves;
  drawn = drawn-for e evacuated filled;
  board = board;
  told = told;
  one = omega (arith, one);
  most = (let some : 1 ≤ crew c b chosen = crew-some c.workers (pool_of b / (2 * count_of_ages b chosen)) in omega (arith, one, some));
  alone = λ same. filled;
}
