-- The fields of a legal partial collection.
use Rattle.std.proofs.Common.{◌≡◌, ◌≤◌, ◌<◌, ◌*◌, inl, inr, ℕ, zero, suc, IsTrue, List, [], ◌∷◌, get_or, length, max, min, refl, sym, subst, ◌∙◌, arith}
use Rattle.std.specs.Prelude.{◌/◌}
use Rattle.std.specs.List.{AllByRecursion, Contains}
use Rattle.std.proofs.lemmas.Bool.{or_left, or_right}
use Rattle.std.proofs.lemmas.Option.{get_or_from_slice_get}
use Rattle.bal_layout.specs.Names.{is_among, same_name}
use Rattle.bal_layout.specs.Regions.{free_regions, is_in}
use Rattle.bal_layout.specs.Shape.{Shape}
use Rattle.bal_layout.specs.declared.name.Name.{Name}
use Rattle.bal_core.specs.World.{At}
use Rattle.bal_core.specs.Core.{Fits}
use Rattle.bal_core.specs.Rest.{EndsWalk}
use Rattle.bal_core.specs.Steps.{told}
use Rattle.bal_core.specs.Finished.{Evacuation, Survives, drawn_by, filled, won_by}
use Rattle.bal_core.specs.declared.event.Decision.{Decision}
use Rattle.bal_core.specs.declared.event.Decision.TheVariants as decision
use Rattle.bal_model.proofs.Lemmas.{ascending-map-filter, ends-ascend, same-names, same_name-refl}
use Rattle.bal_model.specs.Kept.{kept_ground, kept_names}
use Rattle.bal_model.specs.declared.config.Config.{Config}
use Rattle.bal_model.specs.declared.event.Kept.{Kept}
use Rattle.bal_rules.proofs.Lemmas.{all-among, each-goes, each-map}
use Rattle.bal_rules.specs.Board.{Board, Placed, names_placed, words_of_all}
use Rattle.bal_rules.specs.Packing.{count_of_ages, crew, pool_of}
use Rattle.bal_rules.specs.PartialEvents.{IsCopyRegion, IsPartial, age_of_name, destination_age, lands_in, names_copied_into, names_kept, next_age, placed_in}
use Rattle.bal_told.specs.Telling.{how_of, name_in, told_as}
use Rattle.bal_told.specs.Whole.{AreWalksOf, IsWhole, MayCollect}
use Rattle.bal_told.proofs.Ages.{IsAged, aged-name, none-or_filled}
use Rattle.bal_told.proofs.Buffers.{by-crew}
use Rattle.bal_told.proofs.Lists.{each-from_at}
use Rattle.bal_told.proofs.Numbers.{at-in}
use Rattle.bal_told.proofs.Survivors.{IsSurvivor, each-survivor, is-told, name-at}

-- what the list contains is among its names
contains-among : (kept : List Kept) (i : ℕ) (k : Kept) → i < length kept → get_or kept i k ≡ k → IsTrue (is_among k.name (names_kept kept))
contains-among [] i k less is = absurd (omega (arith, less))
contains-among (l ∷ kept) zero k less is =
    or_left (same_name k.name l.name) (is_among k.name (names_kept kept))
    (subst (λ (m : Kept). IsTrue (same_name k.name m.name)) (sym is) (same_name-refl k.name))
contains-among (l ∷ kept) (suc i) k less is =
    or_right (same_name k.name l.name) (is_among k.name (names_kept kept)) (contains-among kept i k (omega (arith, less)) is)

crew-few : (workers share : ℕ) → 1 ≤ workers → max 1 (min workers share) ≤ workers
crew-few workers share one = omega (arith, one)

module _ (c : Config) (b : Board) (chosen : List ℕ) (e : Evacuation) (kept : List Kept) (whole : IsWhole c b chosen e kept) where
  -- The names of the list are those at which walks end.

  abbrev IsWalked : Name → Type 0
  IsWalked x = (k : ℕ) × At e.world.names k x × EndsWalk e.world k

  survivor-walked : (k : Kept) → IsSurvivor e k → IsWalked k.name
  survivor-walked k s =
      subst (λ (l : Kept). IsWalked l.name) (sym s.is) (
        s.told.object,
        name-at c b chosen e kept whole k.worker s.place s.told.object s.told.decision s.won,
        whole.evacuated.survivors.walked k.worker s.place s.told.object s.told.decision s.won,
      )

  told-walked : (x : Name) → IsTrue (is_among x (names_kept kept)) → IsWalked x
  told-walked x among =
      all-among IsWalked (names_kept kept) x
      (each-map (IsSurvivor e) IsWalked (λ (k : Kept). k.name) survivor-walked kept (each-survivor c b chosen e kept whole)) among

  walked-told : (x : Name) → IsWalked x → IsTrue (is_among x (names_kept kept))
  walked-told x walked =
      let k : ℕ = walked.0 in
      let won = whole.evacuated.survivors.kept k walked.2 in
      let l : Kept = told_as e.world.shape e.world.names won.0 (told k won.2) in
      let there : Contains kept l = is-told c b chosen e kept whole won.0 won.1 (told k won.2) won.3 in
      let name : name_in e.world.names k ≡ x = get_or_from_slice_get e.world.names k x (record { thread = 0; ordinal = 0 }) walked.1 in
      subst (λ (y : Name). IsTrue (is_among y (names_kept kept))) name (contains-among kept there.0 l there.1 there.2)

  pub just-kept : MayCollect c b chosen → AreWalksOf b chosen e
      → names_kept kept ≡ kept_names b.plain (names_placed b.present) (names_placed (placed_in chosen b))
  just-kept may walks =
      same-names (names_kept kept) (kept_names b.plain (names_placed b.present) (names_placed (placed_in chosen b))) whole.told.ascending
      (ends-ascend (kept_ground b.plain (names_placed b.present) (names_placed (placed_in chosen b)))
      (ascending-map-filter (λ (p : Placed). p.name) (λ p. is_in p.region chosen) b.present may.ascending))
      (λ x among. (walks.ends x).1 (told-walked x among)) (λ x among. walked-told x ((walks.ends x).0 among))

  -- Workers, and where copies go.

  pub by-worker : MayCollect c b chosen → AllByRecursion (λ (k : Kept). k.worker < c.workers) kept
  by-worker may =
      each-goes (λ (k : Kept). k.worker < crew c b chosen) (λ (k : Kept). k.worker < c.workers) (λ k less.
      let one : 1 ≤ c.workers = may.workers in
      let few : crew c b chosen ≤ c.workers = crew-few c.workers (pool_of b / (2 * count_of_ages b chosen)) one in
      let below : k.worker < crew c b chosen = less in
      omega (arith, few, below)) kept (by-crew c b chosen e kept whole)

  lands : (n i k : ℕ) (d : Decision) → Survives e n i k d → IsTrue (lands_in (free_regions b.regions) (how_of e.world.shape d))
  lands n i k decision.Marked here = refl
  lands n i k (decision.Copied a) here =
      let f : Fits e.world (drawn_by e n) (won_by e n) i k a = whole.evacuated.copies.fits n i k a here in
      let of = whole.evacuated.regions.drawn n f.place f.drawn f.drew in
      subst (λ q. IsTrue (is_in q (free_regions b.regions))) (sym f.region)
      (subst (λ (pool : List ℕ). IsTrue (is_in f.drawn.region pool)) whole.board.pool (at-in e.world.pool f.drawn.ordinal f.drawn.region of.1))

  pub from-pool : AllByRecursion (λ (k : Kept). IsTrue (lands_in (free_regions b.regions) k.how)) kept
  from-pool =
      each-goes (IsSurvivor e) (λ (k : Kept). IsTrue (lands_in (free_regions b.regions) k.how)) (λ k s.
      subst (λ (l : Kept). IsTrue (lands_in (free_regions b.regions) l.how)) (sym s.is) (lands k.worker s.place s.told.object s.told.decision s.won))
      kept (each-survivor c b chosen e kept whole)

  pub copy-region : (q : ℕ) → IsCopyRegion c b kept q
  copy-region q = elim (none-or_filled c b chosen e kept whole q) [
    | inl none ↦ record {
      one_age = subst (λ (ks : List Kept). AllByRecursion (λ (x : Name). next_age (age_of_name b x) ≡ destination_age b kept q) (names_kept ks)) none tt;
      fits = subst (λ (ks : List Kept). words_of_all c b (names_kept ks) ≤ c.geometry.words) none (omega arith);
    }
    | inr is ↦ record {
      one_age = each-goes (IsAged b b.present is.drawn.age) (λ (x : Name). next_age (age_of_name b x) ≡ destination_age b kept q)
          (λ x aged. aged-name b is.drawn.age x aged ∙ sym is.age) (names_copied_into kept q) is.aged;
      fits = subst (λ (m : ℕ). m ≤ c.geometry.words) (sym is.words)
          (subst (λ (s : Shape). filled e is.worker is.drawn ≤ s.words) whole.board.shape (whole.evacuated.regions.room is.worker is.order is.drawn is.drew));
    }
  ]

  pub is-partial : MayCollect c b chosen → AreWalksOf b chosen e → IsPartial c b chosen (length kept) kept
  is-partial may walks = record {
    the_choice = may.the_choice;
    all_flushed = may.all_flushed;
    each_scanned = refl;
    just_the_kept = just-kept may walks;
    by_a_worker = by-worker may;
    from_the_pool = from-pool;
    copies = each-from_at (IsCopyRegion c b kept) (free_regions b.regions) (λ i q at. copy-region q);
  }
