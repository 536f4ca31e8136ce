-- A board that the words meet has no object with leaves, since no object is an arraylet yet.
use Rattle.std.proofs.Common.{◌≡◌, ℕ, zero, suc, cond, IsTrue, List, [], ◌∷◌, Some, None, ap, sym, subst, ◌∙◌}
use Rattle.std.specs.Prelude.{IsSome}
use Rattle.std.specs.List.{AllByRecursion, Contains}
use Rattle.std.proofs.lemmas.Bool.{cond-true}
use Rattle.std.proofs.lemmas.Option.{none-some, same_Some}
use Rattle.bal_after.specs.Asked.{HasNoLeaves}
use Rattle.bal_core.specs.World.{At}
use Rattle.bal_kept.proofs.Lemmas.{contains-at}
use Rattle.bal_layout.specs.Names.{is_among, is_before}
use Rattle.bal_layout.specs.declared.name.Name.{Name}
use Rattle.bal_meet.specs.Decode.{Decodes, placed_at}
use Rattle.bal_model.specs.Entries.{Spot}
use Rattle.bal_model.specs.Plain.{object}
use Rattle.bal_model.proofs.Lemmas.{is_among-head, is_among-tail, same_name-refl}
use Rattle.bal_rules.specs.Board.{Board, Placed, names_placed, place_of}
use Rattle.bal_rules.specs.Sound.{IsAscending}
use Rattle.bal_rules.proofs.Lemmas.{all-among, ascending-after, ascending-rest, before-other, each-both, each-from_map, each-goes, each-map}
use Rattle.bal_words.proofs.Lemmas.{there}
use Rattle.bal_words.specs.Things.{Things}

-- each of the placed objects is found by its name, and that is among all names
placed-found : (ps : List Placed) → IsAscending (names_placed ps) → AllByRecursion (λ (p : Placed). place_of ps p.name ≡ Some p) ps
placed-found [] up = tt
placed-found (p ∷ ps) up = (
  ap (λ b. cond b (Some p) (place_of ps p.name)) (same_name-refl p.name),
  each-goes (λ (q : Placed). IsTrue (is_before p.name q.name) × (place_of ps q.name ≡ Some q)) (λ (q : Placed). place_of (p ∷ ps) q.name ≡ Some q)
      (λ q h. ap (λ b. cond b (Some p) (place_of ps q.name)) (before-other p.name q.name h.0) ∙ h.1) ps
      (each-both (λ (q : Placed). IsTrue (is_before p.name q.name)) (λ (q : Placed). place_of ps q.name ≡ Some q) ps
      (each-from_map (λ (n : Name). IsTrue (is_before p.name n)) (λ (q : Placed). q.name) ps (ascending-after p.name (names_placed ps) up))
      (placed-found ps (ascending-rest p.name (names_placed ps) up))),
)

placed-among : (ps : List Placed) → AllByRecursion (λ (p : Placed). IsTrue (is_among p.name (names_placed ps))) ps
placed-among [] = tt
placed-among (p ∷ ps) = (
  is_among-head p.name (names_placed ps),
  each-goes (λ (q : Placed). IsTrue (is_among q.name (names_placed ps))) (λ (q : Placed). IsTrue (is_among q.name (names_placed (p ∷ ps))))
      (λ q among. is_among-tail q.name p.name (names_placed ps) among) ps (placed-among ps),
)

at-each : (P : Placed → Type 0) (ps : List Placed) (i : ℕ) (p : Placed) → AllByRecursion P ps → At ps i p → P p
at-each P [] i p each at = absurd (none-some p at)
at-each P (x ∷ ps) zero p each at = subst P (same_Some x p at) each.0
at-each P (x ∷ ps) (suc i) p each at = at-each P ps i p each.1 at

each-contained : (P : Placed → Type 0) (ps : List Placed) (p : Placed) → AllByRecursion P ps → Contains ps p → P p
each-contained P ps p each among = let i = contains-at ps p among in at-each P ps i.0 p each i.1

module _ (spot : ℕ → Spot) (things : Things) (roots : List ℕ) (b : Board) (d : Decodes spot things roots b.plain b.present)
    (bare : (a : ℕ) → (spot a).leaves ≡ []) where
  no-leaves : (p : Placed) → (place_of b.present p.name ≡ Some p) × IsTrue (is_among p.name (names_placed b.present)) → p.leaves ≡ []
  no-leaves p h =
      let some : IsSome (object b.plain p.name) = all-among (λ (k : Name). IsSome (object b.plain k)) (names_placed b.present) p.name
      (each-map (λ (q : Placed). IsSome (object b.plain q.name)) (λ (k : Name). IsSome (object b.plain k)) (λ (q : Placed). q.name) (λ q made. made) b.present d.made) h.1 in
      let o = there (object b.plain p.name) some in
      let y = d.objects.every p.name o.0 (cond-true (is_among p.name (names_placed b.present)) (object b.plain p.name) None h.1 ∙ o.1) in
      let is : p ≡ placed_at y.1.0.name (spot y.0)
      = same_Some p (placed_at y.1.0.name (spot y.0)) (sym h.0 ∙ (ap (place_of b.present) (sym y.1.2) ∙ d.places y.0 y.1.0 y.1.1)) in
      ap (λ (q : Placed). q.leaves) is ∙ bare y.0

  pub leafless : HasNoLeaves b
  leafless p among =
      each-contained (λ (q : Placed). q.leaves ≡ []) b.present p
      (each-goes (λ (q : Placed). (place_of b.present q.name ≡ Some q) × IsTrue (is_among q.name (names_placed b.present))) (λ (q : Placed). q.leaves ≡ []) no-leaves b.present
      (each-both (λ (q : Placed). place_of b.present q.name ≡ Some q) (λ (q : Placed). IsTrue (is_among q.name (names_placed b.present))) b.present
      (placed-found b.present d.ascending) (placed-among b.present)))
      among
