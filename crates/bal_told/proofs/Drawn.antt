-- Each region that was drawn, as the rules see it by the journal's list.
use Rattle.std.proofs.Common.{◌≡◌, ◌≤◌, inl, inr, ℕ, List, [], ap, sym, subst, ◌∙◌, arith}
use Rattle.std.proofs.lemmas.Option.{same_Some}
use Rattle.bal_core.specs.World.{At}
use Rattle.bal_core.specs.Finished.{Evacuation, Receives, drawn_by, filled}
use Rattle.bal_core.specs.declared.row.Drawn.{Drawn}
use Rattle.bal_model.specs.declared.config.Config.{Config}
use Rattle.bal_model.specs.declared.event.Kept.{Kept}
use Rattle.bal_rules.specs.Board.{Board, words_of_all}
use Rattle.bal_rules.specs.PartialEvents.{destination_age, names_copied_into, names_kept}
use Rattle.bal_told.specs.Whole.{IsWhole}
use Rattle.bal_told.proofs.Ages.{IsFilled, none-or_filled}
use Rattle.bal_told.proofs.Copies.{words-copied}

module _ (c : Config) (b : Board) (chosen : List ℕ) (e : Evacuation) (kept : List Kept) (whole : IsWhole c b chosen e kept) where
  pub age-drawn : (n i : ℕ) (d : Drawn) → Receives e n i d → 1 ≤ filled e n d → destination_age b kept d.region ≡ d.age
  age-drawn n i d here some = elim (none-or_filled c b chosen e kept whole d.region) [
    | inl none ↦
        let words : words_of_all c b (names_copied_into kept d.region) ≡ filled e n d = words-copied c b chosen e kept whole n i d here in
        let zero : words_of_all c b (names_copied_into kept d.region) ≡ 0 = ap (λ (ks : List Kept). words_of_all c b (names_kept ks)) (sym none) in
        absurd (omega (arith, some, words, zero))
    | inr is ↦ is.age ∙ ap (λ (f : Drawn). f.age) (same is)
  ]
    where
      same : (is : IsFilled c b e kept d.region) → is.drawn ≡ d
      same is =
          let once = whole.evacuated.regions.once is.worker n is.order i is.drawn d is.drew here is.region in
          let drawn : At (drawn_by e n) i is.drawn =
          subst (λ j. At (drawn_by e n) j is.drawn) once.1 (subst (λ m. At (drawn_by e m) is.order is.drawn) once.0 is.drew) in
          same_Some is.drawn d (sym drawn ∙ here)

  pub not-drawn : (q : ℕ) → ((n i : ℕ) (d : Drawn) → Receives e n i d → d.region ≡ q → ⊥) → names_copied_into kept q ≡ []
  not-drawn q other = elim (none-or_filled c b chosen e kept whole q) [
    | inl none ↦ ap names_kept (sym none)
    | inr is ↦ absurd (other is.worker is.order is.drawn is.drew is.region)
  ]
