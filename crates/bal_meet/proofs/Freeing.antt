-- Regions that are freed one after another are freed together.
use Rattle.std.proofs.Common.{◌≡◌, ℕ, ◌<◌, ◌||◌, Bool, true, false, cond, not, List, [], ◌∷◌, ◌++◌, filter, get_or, length, refl, ap, sym, ◌∙◌, arith}
use Rattle.std.specs.Prelude.{◌==◌}
use Rattle.std.proofs.lemmas.List.{same_lists}
use Rattle.std.proofs.lemmas.List.Folds.{list_any-append}
use Rattle.bal_layout.proofs.Lemmas.{freed-is, length-freed}
use Rattle.bal_layout.specs.Regions.{free_region, freed, is_in, region_at, region_of_card, without_cards_of}
use Rattle.bal_remember.specs.Remembered.{Remembered, cards, overflowed}
use Rattle.bal_layout.specs.Shape.{Shape}
use Rattle.bal_layout.specs.declared.region_state.RegionState.{RegionState}

-- cards that are taken out of a list in two steps
cards-freed : (s : Shape) (qs more : List ℕ) (cs : List ℕ)
    → filter (λ card. not (is_in (region_of_card s card) more)) (filter (λ card. not (is_in (region_of_card s card) qs)) cs)
    ≡ filter (λ card. not (is_in (region_of_card s card) (more ++ qs))) cs
cards-freed s qs more [] = refl
cards-freed s qs more (c ∷ cs) =
    by (is_in (region_of_card s c) qs) (is_in (region_of_card s c) more) refl refl (cards-freed s qs more cs)
    ∙ ap (λ b. cond (not b) (c ∷ together) together) (sym (list_any-append (λ m. m == region_of_card s c) more qs))
  where
    first : List ℕ
    first = filter (λ card. not (is_in (region_of_card s card) qs)) cs

    second : List ℕ
    second = filter (λ card. not (is_in (region_of_card s card) more)) first

    together : List ℕ
    together = filter (λ card. not (is_in (region_of_card s card) (more ++ qs))) cs

    by : (old new : Bool) → is_in (region_of_card s c) qs ≡ old → is_in (region_of_card s c) more ≡ new → second ≡ together
        → filter (λ card. not (is_in (region_of_card s card) more)) (cond (not old) (c ∷ first) first) ≡ cond (not (new || old)) (c ∷ together) together
    by true true a b rest = rest
    by true false a b rest = rest
    by false true a b rest = ap (λ t. cond (not t) (c ∷ second) second) b ∙ rest
    by false false a b rest = ap (λ t. cond (not t) (c ∷ second) second) b ∙ ap (λ l. c ∷ l) rest

list-freed : (s : Shape) (qs more : List ℕ) (r : Remembered) → without_cards_of s more (without_cards_of s qs r) ≡ without_cards_of s (more ++ qs) r
list-freed s qs more (cards cs) = ap cards (cards-freed s qs more cs)
list-freed s qs more overflowed = refl

pub freed-more : (s : Shape) (qs more : List ℕ) (regions : List RegionState) → freed s more (freed s qs regions) ≡ freed s (more ++ qs) regions
freed-more s qs more regions = same_lists (freed s more (freed s qs regions)) (freed s (more ++ qs) regions)
    (length-freed s more (freed s qs regions) ∙ (length-freed s qs regions ∙ sym (length-freed s (more ++ qs) regions))) each
  where
    -- a region after both, by whether it was freed in each
    both : (q : ℕ) (r : RegionState) (old new : Bool)
        → cond new free_region (record (cond old free_region (record r { remembered = without_cards_of s qs r.remembered }))
        { remembered = without_cards_of s more (cond old free_region (record r { remembered = without_cards_of s qs r.remembered })).remembered })
        ≡ cond (new || old) free_region (record r { remembered = without_cards_of s (more ++ qs) r.remembered })
    both q r old true = refl
    both q r true false = refl
    both q r false false = ap (λ l. record r { remembered = l }) (list-freed s qs more r.remembered)

    each : (q : ℕ) (d : RegionState) → q < length (freed s more (freed s qs regions)) → get_or (freed s more (freed s qs regions)) q d ≡ get_or (freed s (more ++ qs) regions) q d
    each q d less =
        let within : q < length regions = omega (arith, less, length-freed s more (freed s qs regions), length-freed s qs regions) in
        freed-is s more (freed s qs regions) q d (omega (arith, within, length-freed s qs regions))
        ∙ (ap (λ (r : RegionState). cond (is_in q more) free_region (record r { remembered = without_cards_of s more r.remembered })) (freed-is s qs regions q free_region within)
        ∙ (both q (region_at regions q) (is_in q qs) (is_in q more)
        ∙ (ap (λ b. cond b free_region (record (region_at regions q) { remembered = without_cards_of s (more ++ qs) (region_at regions q).remembered }))
        (sym (list_any-append (λ m. m == q) more qs))
        ∙ sym (freed-is s (more ++ qs) regions q d within))))
