-- Where objects lie after the collection: those of the kept list as it says, and the others where they lay.
use Rattle.std.proofs.Common.{◌≡◌, ◌⊎◌, inl, inr, ℕ, Bool, true, false, IsTrue, List, [], ◌∷◌, refl, ap, sym, subst, ◌∙◌}
use Rattle.std.specs.Prelude.{if◌then◌else◌}
use Rattle.std.specs.List.{AllByRecursion}
use Rattle.std.proofs.lemmas.Bool.{false≢true, or_cases, or_left, or_right}
use Rattle.bal_layout.specs.Names.{is_among, same_name}
use Rattle.bal_core.specs.World.{At}
use Rattle.bal_core.specs.Finished.{Evacuation, Survives}
use Rattle.bal_core.specs.declared.event.Decision.{Decision}
use Rattle.bal_layout.specs.declared.name.Name.{Name}
use Rattle.bal_model.proofs.Lemmas.{same-flips, same_name-eq}
use Rattle.bal_model.specs.declared.config.Config.{Config}
use Rattle.bal_model.specs.declared.event.How.{How}
use Rattle.bal_model.specs.declared.event.Kept.{Kept}
use Rattle.bal_rules.proofs.Lemmas.{each-goes}
use Rattle.bal_rules.specs.Board.{Board, Placed}
use Rattle.bal_rules.specs.PartialEvents.{names_kept, placed_after_partial, placed_as_kept, region_as_kept}
use Rattle.bal_told.specs.Telling.{how_of}
use Rattle.bal_told.specs.Whole.{IsWhole}
use Rattle.bal_after.proofs.Decided.{IsDecided, among-kept, each-decided, kept-among, one-decision}

pub moves-name : (kept : List Kept) (p : Placed) → (placed_after_partial kept p).name ≡ p.name
moves-name [] p = refl
moves-name (k ∷ ks) p = by (same_name k.name p.name) (moves-name ks p)
  where
    by : (t : Bool) → (placed_after_partial ks p).name ≡ p.name → (if t then placed_as_kept k p else placed_after_partial ks p).name ≡ p.name
    by true rest = refl
    by false rest = rest

-- if all of this name are told alike
moved-as : (h : How) (kept : List Kept) (p : Placed) → AllByRecursion (λ (k : Kept). IsTrue (same_name k.name p.name) → k.how ≡ h) kept
    → IsTrue (is_among p.name (names_kept kept)) → placed_after_partial kept p ≡ record p { region = region_as_kept h p.region }
moved-as h [] p each among = absurd (false≢true among)
moved-as h (k ∷ ks) p each among =
    by (same_name k.name p.name) refl (or_cases (same_name p.name k.name) (is_among p.name (names_kept ks)) among) (moved-as h ks p each.1)
  where
    by : (t : Bool) → same_name k.name p.name ≡ t → IsTrue (same_name p.name k.name) ⊎ IsTrue (is_among p.name (names_kept ks))
        → (IsTrue (is_among p.name (names_kept ks)) → placed_after_partial ks p ≡ record p { region = region_as_kept h p.region })
        → (if t then placed_as_kept k p else placed_after_partial ks p) ≡ record p { region = region_as_kept h p.region }
    by true is either rest = ap (λ (g : How). record p { region = region_as_kept g p.region }) (each.0 is)
    by false is (inl here) rest = absurd (false≢true (sym is ∙ same-flips k.name p.name ∙ here))
    by false is (inr there) rest = rest there

unmoved : (kept : List Kept) (p : Placed) → (IsTrue (is_among p.name (names_kept kept)) → ⊥) → placed_after_partial kept p ≡ p
unmoved [] p other = refl
unmoved (k ∷ ks) p other =
    by (same_name k.name p.name) refl
    (unmoved ks p (λ among. other (or_right (same_name p.name k.name) (is_among p.name (names_kept ks)) among)))
  where
    by : (t : Bool) → same_name k.name p.name ≡ t → placed_after_partial ks p ≡ p
        → (if t then placed_as_kept k p else placed_after_partial ks p) ≡ p
    by true is rest = absurd (other (or_left (same_name p.name k.name) (is_among p.name (names_kept ks)) (same-flips p.name k.name ∙ is)))
    by false is rest = rest

module _ (c : Config) (b : Board) (chosen : List ℕ) (e : Evacuation) (kept : List Kept) (whole : IsWhole c b chosen e kept) where
  pub moves-survivor : (p : Placed) (k n i : ℕ) (d : Decision) → At e.world.names k p.name → Survives e n i k d
      → placed_after_partial kept p ≡ record p { region = region_as_kept (how_of e.world.shape d) p.region }
  moves-survivor p k n i d at here =
      moved-as (how_of e.world.shape d) kept p
      (each-goes (λ (l : Kept). IsDecided e l.name l.how) (λ (l : Kept). IsTrue (same_name l.name p.name) → l.how ≡ how_of e.world.shape d)
      (λ l is same. one-decision c b chosen e kept whole p.name l.how
      (subst (λ (x : Name). IsDecided e x l.how) (same_name-eq l.name p.name same) is) k n i d at here)
      kept (each-decided c b chosen e kept whole))
      (kept-among c b chosen e kept whole p.name k n i d at here)

  pub moves-others : (p : Placed) → ((k : ℕ) → At e.world.names k p.name → ⊥) → placed_after_partial kept p ≡ p
  moves-others p other = unmoved kept p (λ among. let is = among-kept c b chosen e kept whole p.name among in other is.1.object is.1.name)
