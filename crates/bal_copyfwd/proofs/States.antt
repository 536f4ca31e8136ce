-- The states of the regions after a partial collection are those of the board that it leaves.
use Rattle.std.proofs.Common.{◌≡◌, ◌≤◌, ◌<◌, ℕ, zero, suc, ◌+◌, Bool, true, false, cond, List, [], ◌∷◌, length, map, inl, inr, refl, ap, sym, ◌∙◌, arith}
use Rattle.std.specs.Prelude.{IsTrue, filter}
use Rattle.std.specs.List.{range_with_len}
use Rattle.std.proofs.lemmas.Bool.{ne_eqb}
use Rattle.bal_base.proofs.Lemmas.{among-first, among-later}
use Rattle.bal_after.specs.Asked.{AreInUse, HasNoLeaves, passed_by, with_copies}
use Rattle.bal_after.proofs.Lemmas.{emptied-marked, none-marked, region-drawn, region-other, words-marked}
use Rattle.bal_core.specs.Finished.{Evacuation, filled}
use Rattle.bal_layout.specs.Regions.{age_of, all_regions, freed, is_in, region_at}
use Rattle.bal_layout.specs.Shape.{Shape}
use Rattle.bal_layout.specs.declared.region_state.RegionState.{RegionState}
use Rattle.bal_layout.specs.declared.region_state.Role.TheVariants.{Object}
use Rattle.bal_model.specs.Ascending.{IsAscending}
use Rattle.bal_model.specs.declared.config.Config.{Config}
use Rattle.bal_model.specs.declared.event.Kept.{Kept}
use Rattle.bal_rules.specs.Board.{Board, is_empty, names_placed, words_of_all}
use Rattle.bal_rules.specs.PartialEvents.{after_partial, names_marked_in, next_age, region_after_partial, regions_emptied}
use Rattle.bal_settle.specs.Settled.{is_lost, lost_regions, settled, state_settled}
use Rattle.bal_sweep.specs.Sweep.{left_at, words_of}
use Rattle.bal_table.specs.Table.{Table}
use Rattle.bal_told.specs.Whole.{IsWhole}
use Rattle.bal_copyfwd.specs.States.{AreBack, AreCounted}

filter-members : (p q : ℕ → Bool) (xs : List ℕ) → ((x : ℕ) → IsTrue (is_in x xs) → p x ≡ q x) → filter p xs ≡ filter q xs
filter-members p q [] same = refl
filter-members p q (x ∷ xs) same =
    ap (λ b. cond b (x ∷ filter p xs) (filter p xs)) (same x (among-first x xs))
    ∙ ap (λ (l : List ℕ). cond (q x) (x ∷ l) l) (filter-members p q xs (λ y among. same y (among-later x y xs among)))

map-range : (f g : ℕ → RegionState) (a n : ℕ) → ((q : ℕ) → q < a + n → f q ≡ g q) → map f (range_with_len a n) ≡ map g (range_with_len a n)
map-range f g a zero same = refl
map-range f g a (suc n) same =
    ap (λ r. r ∷ map f (range_with_len (a + 1) n)) (same a (omega arith))
    ∙ ap (λ (l : List RegionState). g a ∷ l) (map-range f g (a + 1) n (λ q below. same q (omega (arith, below))))

module _ (c : Config) (b : Board) (chosen : List ℕ) (e : Evacuation) (kept : List Kept) (whole : IsWhole c b chosen e kept)
    (leaves : HasNoLeaves b) (in_use : AreInUse b chosen) (ascending : IsAscending (names_placed b.present))
    (u : Table) (marked : List ℕ) (shape : c.geometry ≡ u.shape) (back : AreBack b chosen e u)
    (counted : (q : ℕ) → IsTrue (is_in q chosen) → AreCounted b e u marked q) where
  -- the same regions are freed
  freed-same : lost_regions u.shape chosen marked ≡ regions_emptied b chosen kept
  freed-same =
      filter-members (is_lost u.shape marked) (λ q. is_empty (names_marked_in b kept q)) chosen
      (λ q among. let k = counted q among in k.none ∙ sym (none-marked c b chosen e kept whole ascending q k.objects k.are))
      ∙ sym (emptied-marked b chosen kept leaves)

  -- a chosen region that is not freed is one age older, with the words that were marked in it
  settled-chosen : (q : ℕ) → is_in q chosen ≡ true → state_settled chosen marked u q ≡ record (region_at u.regions q) { role = Object (next_age (age_of (region_at u.regions q).role)); estimate = words_of (left_at marked u q) }
  settled-chosen q among = rw among refl

  after-chosen : (q : ℕ) → is_in q chosen ≡ true → region_after_partial c b chosen kept q ≡ record (region_at b.regions q) { role = Object (next_age (age_of (region_at b.regions q).role)); estimate = words_of_all c b (names_marked_in b kept q) }
  after-chosen q among = rw among refl

  state-chosen : (q : ℕ) → is_in q chosen ≡ true → state_settled chosen marked u q ≡ region_after_partial c b chosen kept q
  state-chosen q among =
      let k = counted q among in
      settled-chosen q among
      ∙ (ap (λ (r : RegionState). record r { role = Object (next_age (age_of r.role)); estimate = words_of (left_at marked u q) }) (back.inside q among)
      ∙ (ap (λ n. record (region_at b.regions q) { role = Object (next_age (age_of (region_at b.regions q).role)); estimate = n })
      (k.words ∙ sym (words-marked c b chosen e kept whole ascending q k.objects k.are))
      ∙ sym (after-chosen q among)))

  -- each other one is a region of copies, or was passed by
  settled-other : (q : ℕ) → is_in q chosen ≡ false → state_settled chosen marked u q ≡ passed_by (region_at u.regions q)
  settled-other q out = rw out refl

  not-eden : (age words : ℕ) (r : RegionState) → 1 ≤ age → passed_by (with_copies age words r) ≡ with_copies age words r
  not-eden age words r older =
      ap (λ d. cond d (record (with_copies age words r) { role = Object 1 }) (with_copies age words r)) (ne_eqb age 0 (λ e. omega (arith, e, older)))

  state-other : (q : ℕ) → is_in q chosen ≡ false → state_settled chosen marked u q ≡ region_after_partial c b chosen kept q
  state-other q out = settled-other q out ∙ elim (back.known q) [
    | inl got ↦
        let d = got.drawn in
        let words = filled e got.worker d in
        ap (λ p. passed_by (region_at u.regions p)) (sym got.here)
        ∙ (ap passed_by (back.copies got.worker got.order d got.drew got.some)
        ∙ (not-eden d.age words (region_at b.regions d.region) (back.older got.worker got.order d got.drew)
        ∙ (sym (region-drawn c b chosen e kept whole in_use got.worker got.order d got.drew got.some)
        ∙ ap (region_after_partial c b chosen kept) got.here)))
    | inr none ↦ ap passed_by (back.others q none) ∙ sym (region-other c b chosen e kept whole q out none)
  ]

  state-same : (q : ℕ) → state_settled chosen marked u q ≡ region_after_partial c b chosen kept q
  state-same q = by (is_in q chosen) refl
    where
      by : (d : Bool) → is_in q chosen ≡ d → state_settled chosen marked u q ≡ region_after_partial c b chosen kept q
      by true among = state-chosen q among
      by false out = state-other q out

  pub states-after : (settled chosen marked u).regions ≡ (after_partial c b chosen kept).regions
  states-after =
      ap (λ (s : Shape). freed s (lost_regions u.shape chosen marked) (map (state_settled chosen marked u) (all_regions u.regions))) (sym shape)
      ∙ (ap (λ (qs : List ℕ). freed c.geometry qs (map (state_settled chosen marked u) (all_regions u.regions))) freed-same
      ∙ ap (freed c.geometry (regions_emptied b chosen kept))
      (map-range (state_settled chosen marked u) (region_after_partial c b chosen kept) 0 (length u.regions) (λ q below. state-same q)
      ∙ ap (λ n. map (region_after_partial c b chosen kept) (range_with_len 0 n)) back.count))
