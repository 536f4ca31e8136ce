-- Regions of copies as the buffers of workers: each is one worker's, and of a worker's regions of one age at most one is loose.
use Rattle.std.proofs.Common.{◌≡◌, ◌≤◌, ◌<◌, ◌+◌, ◌-◌, ◌==◌, ◌&&◌, inl, inr, ℕ, Bool, true, not, eqb, IsTrue, List, [], ◌∷◌, length, filter, map, refl, ap, sym, subst, ◌∙◌, arith}
use Rattle.std.specs.Prelude.{nat_le}
use Rattle.std.specs.List.{AllByRecursion, IsDistinct, list_all}
use Rattle.std.proofs.lemmas.Bool.{and_parts, cases_order, eq-eqb, eqb-true, false≢true, leb-true}
use Rattle.std.proofs.lemmas.List.Elements.{All-from_recursion}
use Rattle.std.proofs.lemmas.List.Sums.{list_all-from_AllPass}
use Rattle.std.proofs.lemmas.Option.{same_Some}
use Rattle.bal_layout.specs.Regions.{free_regions, is_in}
use Rattle.bal_layout.specs.Shape.{Shape, largest_of}
use Rattle.bal_core.specs.World.{At}
use Rattle.bal_core.specs.Finished.{Evacuation, Receives, drawn_by, filled}
use Rattle.bal_core.specs.declared.row.Drawn.{Drawn}
use Rattle.bal_model.specs.declared.config.Config.{Config}
use Rattle.bal_model.specs.declared.event.Kept.{Kept}
use Rattle.bal_rules.proofs.Lemmas.{each-goes}
use Rattle.bal_rules.specs.Board.{Board, is_empty, words_of_all}
use Rattle.bal_rules.specs.Packing.{crew, first_or_zero, is_one_worker, loose_regions, same_buffer, workers_into}
use Rattle.bal_rules.specs.PartialEvents.{destination_age, names_copied_into, names_kept}
use Rattle.bal_told.specs.Whole.{IsWhole}
use Rattle.bal_told.proofs.Ages.{IsFilled, none-or_filled}
use Rattle.bal_told.proofs.Numbers.{distinct-filter, in-each, in-filter, one-passes, single-distinct}
use Rattle.bal_told.proofs.Survivors.{IsSurvivor, each-survivor}

-- workers that are all this one
one-of : (n m : ℕ) (ws : List ℕ) → m ≡ n → AllByRecursion (λ (w : ℕ). w ≡ n) ws → IsTrue (list_all (λ w. w == m) ws)
one-of n m ws first all =
    list_all-from_AllPass (λ w. w == m) ws
    (All-from_recursion (λ (w : ℕ). (w == m) ≡ true) ws (each-goes (λ (w : ℕ). w ≡ n) (λ (w : ℕ). (w == m) ≡ true) (λ w is. eq-eqb w m (is ∙ sym first)) ws all))

module _ (c : Config) (b : Board) (chosen : List ℕ) (e : Evacuation) (kept : List Kept) (whole : IsWhole c b chosen e kept) where
  pub by-crew : AllByRecursion (λ (k : Kept). k.worker < crew c b chosen) kept
  by-crew =
      each-goes (IsSurvivor e) (λ (k : Kept). k.worker < crew c b chosen)
      (λ k s.
      let less : k.worker < length e.won = s.within in
      let most : length e.won ≤ crew c b chosen = whole.most in
      omega (arith, less, most))
      kept (each-survivor c b chosen e kept whole)

  pub one-worker : (q : ℕ) → IsTrue (is_one_worker (workers_into kept q))
  one-worker q = elim (none-or_filled c b chosen e kept whole q) [
    | inl none ↦ subst (λ (ks : List Kept). IsTrue (is_one_worker (map (λ (k : Kept). k.worker) ks))) none refl
    | inr is ↦ one-of is.worker (first_or_zero (workers_into kept q)) (workers_into kept q) is.first is.workers
  ]

  -- the largest object is no larger than a region
  largest-within : largest_of c.geometry ≤ c.geometry.words
  largest-within = omega arith

  -- Two regions that one worker drew for one age are one, if both have room for a largest object.

  abbrev HasRoom : ℕ → Drawn → Type 0
  HasRoom n d = filled e n d ≤ c.geometry.words - largest_of c.geometry

  not-later : (n i j : ℕ) (d f : Drawn) → Receives e n i d → Receives e n j f → d.age ≡ f.age → HasRoom n d → i < j → ⊥
  not-later n i j d f here there age room less =
      let tight : c.geometry.words < filled e n d + largest_of c.geometry
      = subst (λ (s : Shape). s.words < filled e n d + largest_of s) whole.board.shape (whole.tight.tight n i j d f here there less age) in
      let few : filled e n d ≤ c.geometry.words - largest_of c.geometry = room in
      let most : largest_of c.geometry ≤ c.geometry.words = largest-within in
      omega (arith, tight, few, most)

  pub same-region : (n i j : ℕ) (d f : Drawn) → Receives e n i d → Receives e n j f → d.age ≡ f.age → HasRoom n d → HasRoom n f
      → d.region ≡ f.region
  same-region n i j d f here there age one two = elim (cases_order i j) [
    | inl same ↦ ap (λ (g : Drawn). g.region) (same_Some d f (sym (subst (λ k. At (drawn_by e n) k d) same here) ∙ there))
    | inr (inl less) ↦ absurd (not-later n i j d f here there age one less)
    | inr (inr more) ↦ absurd (not-later n j i f d there here (sym age) two more)
  ]

  -- Loose regions.

  pub pool-distinct : IsDistinct eqb (free_regions b.regions)
  pool-distinct = subst (IsDistinct eqb) whole.board.pool (single-distinct e.world.pool whole.evacuated.world.distinct)

  abbrev is_loose : ℕ → Bool
  is_loose q =
      not (is_empty (names_copied_into kept q)) && nat_le (words_of_all c b (names_copied_into kept q)) (c.geometry.words - largest_of c.geometry)

  abbrev IsLoose : ℕ → Type 0
  IsLoose q = (is : IsFilled c b e kept q) × HasRoom is.worker is.drawn

  loose : (q : ℕ) → IsTrue (is_loose q) → IsLoose q
  loose q passes = elim (none-or_filled c b chosen e kept whole q) [
    | inl none ↦ absurd (false≢true (subst (λ (ks : List Kept). IsTrue (not (is_empty (names_kept ks)))) (sym none) parts.0))
    | inr is ↦ (
      is,
      let few : words_of_all c b (names_copied_into kept q) ≤ c.geometry.words - largest_of c.geometry
          = leb-true (words_of_all c b (names_copied_into kept q)) (c.geometry.words - largest_of c.geometry) parts.1 in
          subst (λ (m : ℕ). m ≤ c.geometry.words - largest_of c.geometry) is.words few,
    )
  ]
    where
      has_room : Bool
      has_room = nat_le (words_of_all c b (names_copied_into kept q)) (c.geometry.words - largest_of c.geometry)

      parts : IsTrue (not (is_empty (names_copied_into kept q))) × IsTrue has_room
      parts = and_parts (not (is_empty (names_copied_into kept q))) has_room passes

  one-loose : (p q : ℕ) → IsLoose p → IsLoose q → IsTrue (same_buffer b kept p q) → q ≡ p
  one-loose p q one two same =
      let parts = and_parts (first_or_zero (workers_into kept p) == first_or_zero (workers_into kept q)) (destination_age b kept p == destination_age b kept q) same in
      let f : IsFilled c b e kept p = one.0 in
      let g : IsFilled c b e kept q = two.0 in
      let worker : g.worker ≡ f.worker
      = sym (sym f.first ∙ eqb-true (first_or_zero (workers_into kept p)) (first_or_zero (workers_into kept q)) parts.0 ∙ g.first) in
      let age : f.drawn.age ≡ g.drawn.age = sym f.age ∙ eqb-true (destination_age b kept p) (destination_age b kept q) parts.1 ∙ g.age in
      sym (sym f.region ∙ same-region f.worker f.order g.order f.drawn g.drawn f.drew (subst (λ n. Receives e n g.order g.drawn) worker g.drew) age one.1
      (subst (λ n. HasRoom n g.drawn) worker two.1) ∙ g.region)

  own-buffer : (q : ℕ) → IsTrue (same_buffer b kept q q)
  own-buffer q =
      ap (λ t. t && (destination_age b kept q == destination_age b kept q))
      (eq-eqb (first_or_zero (workers_into kept q)) (first_or_zero (workers_into kept q)) refl)
      ∙ eq-eqb (destination_age b kept q) (destination_age b kept q) refl

  pub packed : AllByRecursion (λ (q : ℕ). filter (same_buffer b kept q) (loose_regions c b kept) ≡ q ∷ []) (loose_regions c b kept)
  packed = in-each (λ (q : ℕ). filter (same_buffer b kept q) (loose_regions c b kept) ≡ q ∷ []) (loose_regions c b kept) (λ q here.
      one-passes (same_buffer b kept q) (loose_regions c b kept) q (distinct-filter is_loose (free_regions b.regions) pool-distinct) here
      (own-buffer q)
      (λ r there same. one-loose q r (of q here) (of r there) same))
    where
      of : (q : ℕ) → IsTrue (is_in q (loose_regions c b kept)) → IsLoose q
      of q here = loose q (in-filter is_loose (free_regions b.regions) q here).0
