-- Copies leave no gaps.
use Rattle.std.proofs.Common.{◌≡◌, ◌+◌, ◌<◌, ◌≤◌, ◌==◌, ℕ, zero, suc, inl, inr, List, length, take, get_or, ap, sym, subst, ◌∙◌, arith}
use Rattle.std.specs.Prelude.{if◌then◌else◌}
use Rattle.std.proofs.lemmas.Bool.{cases_Bool, cases_lt, eqb-true}
use Rattle.std.proofs.lemmas.List.{take_all}
use Rattle.std.proofs.lemmas.Option.{slice_get-get_or}
use Rattle.bal_layout.specs.Addresses.{offset_of, region_of}
use Rattle.bal_core.specs.declared.event.Decision.{Decision}
use Rattle.bal_core.specs.declared.event.Decision.TheVariants as decision
use Rattle.bal_core.specs.declared.row.Told.{Told}
use Rattle.bal_core.specs.World.{State, row_of, size_of}
use Rattle.bal_core.specs.Steps.{told, used, words_put}
use Rattle.bal_core.specs.Core.{Fits, IsCore, Wins}
use Rattle.bal_core.specs.Finished.{IsCopyOver}
use Rattle.bal_core.proofs.Bounds.{used-next}

module _ (s : State) (n region word : ℕ) (core : IsCore s) where
  abbrev won : List Told
  won = (row_of s n).won

  -- the object that was won next lies over the word
  over : (i k : ℕ) (d : Decision) → Wins s n i k d → used s.world region (take i won) ≤ word
      → word < used s.world region (take i won) + words_put s.world region k d → IsCopyOver s n region word
  over i k decision.Marked wins from below = absurd (omega (arith, from, below))
  over i k (decision.Copied a) wins from below = elim (cases_Bool (region_of s.world.shape a == region)) [
    | inl here ↦
        let f : Fits s.world (row_of s n).drawn won i k a = core.packed.fits n i k a wins in
        let at : region_of s.world.shape a ≡ region = eqb-true _ _ here in
        let offset : offset_of s.world.shape a ≡ used s.world region (take i won) = f.offset ∙ ap (λ r. used s.world r (take i won)) (sym f.region ∙ at) in
        let put : words_put s.world region k (decision.Copied a) ≡ size_of s.world k = ap (λ b. if b then size_of s.world k else 0) here in
        record {
          place = i;
          object = k;
          address = a;
          won = wins;
          here = at;
          begins = omega (arith, offset, from);
          ends = omega (arith, offset, below, put);
        }
    | inr elsewhere ↦
        let put : words_put s.world region k (decision.Copied a) ≡ 0 = ap (λ b. if b then size_of s.world k else 0) elsewhere in
        absurd (omega (arith, from, below, put))
  ]

  so-far : (i : ℕ) → word < used s.world region (take i won) → IsCopyOver s n region word
  so-far zero below = absurd (omega (arith, below))
  so-far (suc i) below = elim (cases_lt i (length won)) [
    | inl less ↦
        let x : Told = get_or won i (told 0 decision.Marked) in
        let next : suc i ≡ i + 1 = omega arith in
        let more : used s.world region (take (i + 1) won) ≡ used s.world region (take i won) + words_put s.world region x.object x.decision
        = used-next s.world won region i (told 0 decision.Marked) less in
        let below-more : word < used s.world region (take (i + 1) won) = subst (λ j. word < used s.world region (take j won)) next below in
        elim (cases_lt word (used s.world region (take i won))) [
          | inl before ↦ so-far i before
          | inr from ↦
              over i x.object x.decision (slice_get-get_or won i (told 0 decision.Marked) less) from
              (let here : word < used s.world region (take (i + 1) won) = below-more in omega (arith, here, more))
        ]
    | inr past ↦ so-far i (subst (λ l. word < used s.world region l) (take_all (suc i) won (omega (arith, past)) ∙ sym (take_all i won past)) below)
  ]

  pub no-gaps : word < used s.world region won → IsCopyOver s n region word
  no-gaps below = so-far (length won) (subst (λ l. word < used s.world region l) (sym (take_all (length won) won (omega arith))) below)
