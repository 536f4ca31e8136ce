-- The journal's list has just the objects that workers decided, and of each what its worker decided. What is left of the chosen
-- regions is lost.
use Rattle.std.proofs.Common.{◌≡◌, ℕ, true, false, not, IsTrue, List, refl, ap, sym, subst, ◌∙◌}
use Rattle.std.specs.Prelude.{Some}
use Rattle.std.specs.List.{AllByRecursion}
use Rattle.std.proofs.lemmas.Bool.{false_from_ne_true, false≢true}
use Rattle.std.proofs.lemmas.List.Elements.{All-contains, All-from_recursion}
use Rattle.std.proofs.lemmas.Option.{get_or_from_slice_get, same_Some}
use Rattle.bal_layout.specs.Names.{is_among}
use Rattle.bal_layout.specs.Regions.{is_in}
use Rattle.bal_layout.specs.declared.name.Name.{Name}
use Rattle.bal_core.specs.World.{At}
use Rattle.bal_core.specs.Steps.{told}
use Rattle.bal_core.specs.Finished.{Evacuation, Survives}
use Rattle.bal_core.specs.declared.event.Decision.{Decision}
use Rattle.bal_core.specs.declared.row.Told.{Told}
use Rattle.bal_model.proofs.Lemmas.{from-filter, in-filter}
use Rattle.bal_model.specs.Ascending.{IsAscending}
use Rattle.bal_model.specs.declared.config.Config.{Config}
use Rattle.bal_model.specs.declared.event.How.{How}
use Rattle.bal_model.specs.declared.event.Kept.{Kept}
use Rattle.bal_rules.proofs.Lemmas.{all-among, each-goes, each-map}
use Rattle.bal_rules.specs.Board.{Board, Placed, names_placed, place_of}
use Rattle.bal_rules.specs.PartialEvents.{names_kept, names_lost, placed_in}
use Rattle.bal_told.proofs.Lemmas.{IsSurvivor, each-survivor, is-told, name-at}
use Rattle.bal_told.specs.OnBoard.{IsObjectOf}
use Rattle.bal_told.specs.Telling.{how_of, told_as}
use Rattle.bal_told.specs.Whole.{IsWhole}
use Rattle.bal_after.specs.Asked.{IsLeft}
use Rattle.bal_after.proofs.Places.{each-named, found-passes, passes-found}

-- a worker decided the object of this name, and so it is told
pub record IsDecided (e : Evacuation) (x : Name) (h : How) : Type 0 where
  pub object : ℕ
  pub worker : ℕ
  pub place : ℕ
  pub decision : Decision
  pub name : At e.world.names object x
  pub won : Survives e worker place object decision
  pub how : h ≡ how_of e.world.shape decision

module _ (c : Config) (b : Board) (chosen : List ℕ) (e : Evacuation) (kept : List Kept) (whole : IsWhole c b chosen e kept) where
  is-decided : (k : Kept) → IsSurvivor e k → IsDecided e k.name k.how
  is-decided k s =
      subst (λ (l : Kept). IsDecided e l.name l.how) (sym s.is) (record {
        object = s.told.object;
        worker = k.worker;
        place = s.place;
        decision = s.told.decision;
        name = name-at c b chosen e kept whole k.worker s.place s.told.object s.told.decision s.won;
        won = s.won;
        how = refl;
      })

  pub each-decided : AllByRecursion (λ (k : Kept). IsDecided e k.name k.how) kept
  each-decided = each-goes (IsSurvivor e) (λ (k : Kept). IsDecided e k.name k.how) is-decided kept (each-survivor c b chosen e kept whole)

  -- it is the decision of that object
  pub one-decision : (x : Name) (h : How) → IsDecided e x h → (k n i : ℕ) (d : Decision) → At e.world.names k x → Survives e n i k d
      → h ≡ how_of e.world.shape d
  one-decision x h is k n i d at here =
      let object : is.object ≡ k = whole.board.distinct is.object k x is.name at in
      let won : Survives e is.worker is.place k is.decision = subst (λ o. Survives e is.worker is.place o is.decision) object is.won in
      let once = whole.evacuated.survivors.once is.worker n is.place i k is.decision d won here in
      let there : Survives e n i k is.decision =
      subst (λ j. Survives e n j k is.decision) once.1 (subst (λ m. Survives e m is.place k is.decision) once.0 won) in
      is.how ∙ ap (λ (t : Told). how_of e.world.shape t.decision) (same_Some (told k is.decision) (told k d) (sym there ∙ here))

  pub kept-among : (x : Name) (k n i : ℕ) (d : Decision) → At e.world.names k x → Survives e n i k d → IsTrue (is_among x (names_kept kept))
  kept-among x k n i d at here =
      subst (λ (y : Name). IsTrue (is_among y (names_kept kept))) (get_or_from_slice_get e.world.names k x (record { thread = 0; ordinal = 0 }) at)
      (All-contains (λ (l : Kept). IsTrue (is_among l.name (names_kept kept))) kept (told_as e.world.shape e.world.names n (told k d))
      (All-from_recursion (λ (l : Kept). IsTrue (is_among l.name (names_kept kept))) kept (each-named (λ (l : Kept). l.name) kept))
      (is-told c b chosen e kept whole n i (told k d) here))

  pub among-kept : (x : Name) → IsTrue (is_among x (names_kept kept)) → (h : How) × IsDecided e x h
  among-kept x among =
      all-among (λ (y : Name). (h : How) × IsDecided e y h) (names_kept kept) x
      (each-map (λ (k : Kept). IsDecided e k.name k.how) (λ (y : Name). (h : How) × IsDecided e y h) (λ (k : Kept). k.name)
      (λ k is. (k.how, is)) kept each-decided) among

  pub lost-outside : IsAscending (names_placed b.present) → (x : Name) (p : Placed) → place_of b.present x ≡ Some p
      → is_in p.region chosen ≡ false → is_among x (names_lost b chosen kept) ≡ false
  lost-outside up x p at outside = false_from_ne_true (is_among x (names_lost b chosen kept)) (λ lost.
      let parts = from-filter (λ y. not (is_among y (names_kept kept))) (names_placed (placed_in chosen b)) x lost in
      let found = passes-found (λ q. is_in q.region chosen) b.present up x parts.1 in
      false≢true (sym outside ∙ ap (λ (q : Placed). is_in q.region chosen) (same_Some p found.0 (sym at ∙ found.1)) ∙ found.2))

  pub lost-kept : (x : Name) (k n i : ℕ) (d : Decision) → At e.world.names k x → Survives e n i k d
      → is_among x (names_lost b chosen kept) ≡ false
  lost-kept x k n i d at here = false_from_ne_true (is_among x (names_lost b chosen kept)) (λ lost.
      let parts = from-filter (λ y. not (is_among y (names_kept kept))) (names_placed (placed_in chosen b)) x lost in
      false≢true (sym (ap not (kept-among x k n i d at here)) ∙ parts.0))

  pub lost-gone : (x : Name) (k : ℕ) → At e.world.names k x → IsLeft e k → is_among x (names_lost b chosen kept) ≡ true
  lost-gone x k at left =
      let o : IsObjectOf c b chosen e k x = whole.board.inside k x at in
      in-filter (λ y. not (is_among y (names_kept kept))) (names_placed (placed_in chosen b)) x
      (ap not (false_from_ne_true (is_among x (names_kept kept)) (λ among.
      let is = among-kept x among in
      left is.1.worker is.1.place is.1.decision
      (subst (λ j. Survives e is.1.worker is.1.place j is.1.decision) (whole.board.distinct is.1.object k x is.1.name at) is.1.won))))
      (found-passes (λ q. is_in q.region chosen) b.present x o.placed o.present o.lies)
