-- What a collection leaves, and where.
use Rattle.std.proofs.Common.{◌≡◌, ◌⊎◌, ◌↔◌, not, inl, inr, ℕ, Bool, true, false, cond, List, [], ◌∷◌, Option, Some, None, filter, map, refl, ap, sym, subst, ◌∙◌}
use Rattle.std.specs.Prelude.{IsTrue, option_map}
use Rattle.std.specs.List.{AllByRecursion}
use Rattle.std.proofs.lemmas.Bool.{both_ways, cases_Bool, false≢true, not-true, not_from_false, or_cases}
use Rattle.bal_layout.specs.Names.{is_among, same_name}
use Rattle.bal_layout.specs.Regions.{free_regions, is_in}
use Rattle.bal_layout.specs.declared.name.Name.{Name}
use Rattle.bal_model.specs.declared.config.Config.{Config}
use Rattle.bal_model.specs.declared.event.How.{How}
use Rattle.bal_model.specs.declared.event.How.TheVariants as how
use Rattle.bal_model.specs.declared.event.Kept.{Kept}
use Rattle.bal_model.specs.declared.event.Packed.{Packed}
use Rattle.bal_model.specs.Walk.{EndsWalk, graph_ground, reachable}
use Rattle.bal_model.proofs.Lemmas.{ends-complete, ends-sound, from-filter, in-filter, is_among-head, is_among-tail, same_name-eq, same_name-refl}
use Rattle.bal_rules.specs.Board.{Board, Placed, is_present, names_placed, place_of, placed_except}
use Rattle.bal_rules.specs.GlobalEvents.{IsGlobal, after_global, placed_after_packing, region_before}
use Rattle.bal_rules.specs.PartialEvents.{IsPartial, after_partial, lands_in, names_kept, names_lost, placed_after_partial, placed_as_kept, placed_in, placed_outside, region_as_kept}
use Rattle.bal_rules.specs.Sound.{IsAscending, IsSound}
use Rattle.bal_rules.proofs.Lemmas.{all-among, among-placed-filter, ascending-after, ascending-rest, before-other, moved-name, names_placed-filter, names_placed-map, reachable-present, repacked-name, sound-global, unreached-dead}
use Rattle.bal_laws.proofs.EventLines.{kept-present}

not-both : (b : Bool) → IsTrue b → IsTrue (not b) → ⊥
not-both b h k = both_ways b (not-true b k) h

-- Global collections.

global-names : (c : Config) (b : Board) (dead : List Name) (packed : List Packed) → names_placed (after_global c b dead packed).present ≡ filter (λ x. not (is_among x dead)) (names_placed b.present)
global-names c b dead packed =
    names_placed-map (placed_after_packing packed) (repacked-name packed) (placed_except dead b.present) ∙ names_placed-filter (λ x. not (is_among x dead)) b.present

-- what is left is what can be reached
pub left-by-global : (c : Config) (b : Board) (dead : List Name) (packed : List Packed) → IsSound b → IsGlobal c b dead packed
    → (x : Name) → IsTrue (is_present (after_global c b dead packed) x) ↔ EndsWalk (graph_ground b.plain) x
left-by-global c b dead packed sound is x = (reached, reachable-present (after_global c b dead packed) (sound-global c b dead packed sound is) x)
  where
    reached : IsTrue (is_present (after_global c b dead packed) x) → EndsWalk (graph_ground b.plain) x
    reached here =
        let parts = from-filter (λ y. not (is_among y dead)) (names_placed b.present) x (sym (ap (is_among x) (global-names c b dead packed)) ∙ here) in
        elim (cases_Bool (is_among x (reachable b.plain))) [
          | inl live ↦ ends-sound (graph_ground b.plain) x live
          | inr garbage ↦ absurd (not-both (is_among x dead) (unreached-dead c b dead packed is x parts.1
              (λ walk. false≢true (sym garbage ∙ ends-complete (graph_ground b.plain) x walk))) parts.0)
        ]

-- Partial collections.

partial-names : (c : Config) (b : Board) (chosen : List ℕ) (kept : List Kept) → names_placed (after_partial c b chosen kept).present ≡ filter (λ x. not (is_among x (names_lost b chosen kept))) (names_placed b.present)
partial-names c b chosen kept =
    names_placed-map (placed_after_partial kept) (moved-name kept) (placed_except (names_lost b chosen kept) b.present)
    ∙ names_placed-filter (λ x. not (is_among x (names_lost b chosen kept))) b.present

-- each placed object passes a test or fails it
in-or-out : (p : Placed → Bool) (ps : List Placed) (x : Name) → IsTrue (is_among x (names_placed ps))
    → IsTrue (is_among x (names_placed (filter p ps))) ⊎ IsTrue (is_among x (names_placed (filter (λ q. not (p q)) ps)))
in-or-out p [] x h = absurd (false≢true h)
in-or-out p (q ∷ qs) x h = by (p q) (or_cases (same_name x q.name) (is_among x (names_placed qs)) h) (in-or-out p qs x)
  where
    here : IsTrue (same_name x q.name) → (names : List Name) → IsTrue (is_among x (q.name ∷ names))
    here same names = subst (λ (y : Name). IsTrue (is_among y (q.name ∷ names))) (sym (same_name-eq x q.name same)) (is_among-head q.name names)

    by : (b : Bool) → IsTrue (same_name x q.name) ⊎ IsTrue (is_among x (names_placed qs))
        → (IsTrue (is_among x (names_placed qs)) → IsTrue (is_among x (names_placed (filter p qs))) ⊎ IsTrue (is_among x (names_placed (filter (λ r. not (p r)) qs))))
        → IsTrue (is_among x (names_placed (cond b (q ∷ filter p qs) (filter p qs)))) ⊎ IsTrue (is_among x (names_placed (cond (not b) (q ∷ filter (λ r. not (p r)) qs) (filter (λ r. not (p r)) qs))))
    by true (inl same) rest = inl (here same (names_placed (filter p qs)))
    by false (inl same) rest = inr (here same (names_placed (filter (λ r. not (p r)) qs)))
    by true (inr there) rest = elim (rest there) [ inl one ↦ inl (is_among-tail x q.name (names_placed (filter p qs)) one) | inr other ↦ inr other ]
    by false (inr there) rest = elim (rest there) [ inl one ↦ inl one | inr other ↦ inr (is_among-tail x q.name (names_placed (filter (λ r. not (p r)) qs)) other) ]

-- but not both, where the names ascend
not-in-and-out : (p : Placed → Bool) (ps : List Placed) (x : Name) → IsAscending (names_placed ps)
    → IsTrue (is_among x (names_placed (filter p ps))) → IsTrue (is_among x (names_placed (filter (λ q. not (p q)) ps))) → ⊥
not-in-and-out p [] x up h k = false≢true h
not-in-and-out p (q ∷ qs) x up h k = by (p q) h k (not-in-and-out p qs x (ascending-rest q.name (names_placed qs) up))
  where
    apart : IsTrue (same_name x q.name) → IsTrue (is_among x (names_placed qs)) → ⊥
    apart same there =
        let e : x ≡ q.name = same_name-eq x q.name same in
        let before = all-among _ (names_placed qs) x (ascending-after q.name (names_placed qs) up) there in
        false≢true (sym (before-other q.name x before) ∙ subst (λ (y : Name). IsTrue (same_name q.name y)) (sym e) (same_name-refl q.name))

    by : (b : Bool) → IsTrue (is_among x (names_placed (cond b (q ∷ filter p qs) (filter p qs))))
        → IsTrue (is_among x (names_placed (cond (not b) (q ∷ filter (λ r. not (p r)) qs) (filter (λ r. not (p r)) qs))))
        → (IsTrue (is_among x (names_placed (filter p qs))) → IsTrue (is_among x (names_placed (filter (λ r. not (p r)) qs))) → ⊥) → ⊥
    by true h k rest = elim (or_cases (same_name x q.name) (is_among x (names_placed (filter p qs))) h) [
      | inl same ↦ apart same (among-placed-filter (λ r. not (p r)) qs x k)
      | inr there ↦ rest there k
    ]
    by false h k rest = elim (or_cases (same_name x q.name) (is_among x (names_placed (filter (λ r. not (p r)) qs))) k) [
      | inl same ↦ apart same (among-placed-filter p qs x h)
      | inr there ↦ rest h there
    ]

-- what is left lies outside of the chosen regions, or was kept
pub left-by-partial : (c : Config) (b : Board) (chosen : List ℕ) (scans : ℕ) (kept : List Kept) → IsSound b → IsPartial c b chosen scans kept
    → (x : Name) → IsTrue (is_present (after_partial c b chosen kept) x) ↔ (IsTrue (is_among x (names_placed (placed_outside chosen b))) ⊎ IsTrue (is_among x (names_kept kept)))
left-by-partial c b chosen scans kept sound is x = (parts, whole)
  where
    parts : IsTrue (is_present (after_partial c b chosen kept) x) → IsTrue (is_among x (names_placed (placed_outside chosen b))) ⊎ IsTrue (is_among x (names_kept kept))
    parts here =
        let both = from-filter (λ y. not (is_among y (names_lost b chosen kept))) (names_placed b.present) x (sym (ap (is_among x) (partial-names c b chosen kept)) ∙ here) in
        elim (in-or-out (λ p. is_in p.region chosen) b.present x both.1) [
          | inr outside ↦ inl outside
          | inl inside ↦ elim (cases_Bool (is_among x (names_kept kept))) [
            | inl keeps ↦ inr keeps
            | inr loses ↦ absurd (not-both (is_among x (names_lost b chosen kept))
                (in-filter (λ y. not (is_among y (names_kept kept))) (names_placed (placed_in chosen b)) x (not_from_false (is_among x (names_kept kept)) loses) inside) both.0)
          ]
        ]

    left : IsTrue (is_present b x) → (IsTrue (is_among x (names_lost b chosen kept)) → ⊥) → IsTrue (is_present (after_partial c b chosen kept) x)
    left here found =
        ap (is_among x) (partial-names c b chosen kept)
        ∙ in-filter (λ y. not (is_among y (names_lost b chosen kept))) (names_placed b.present) x (by (is_among x (names_lost b chosen kept)) found) here
      where
        by : (t : Bool) → (IsTrue t → ⊥) → IsTrue (not t)
        by true h = absurd (h refl)
        by false h = refl

    whole : IsTrue (is_among x (names_placed (placed_outside chosen b))) ⊎ IsTrue (is_among x (names_kept kept)) → IsTrue (is_present (after_partial c b chosen kept) x)
    whole (inl outside) = left (among-placed-filter (λ p. not (is_in p.region chosen)) b.present x outside)
        (λ lost. not-in-and-out (λ p. is_in p.region chosen) b.present x sound.ascending
        (from-filter (λ y. not (is_among y (names_kept kept))) (names_placed (placed_in chosen b)) x lost).1 outside)
    whole (inr keeps) = left (kept-present c b chosen scans kept is x keeps)
        (λ lost. not-both (is_among x (names_kept kept)) keeps (from-filter (λ y. not (is_among y (names_kept kept))) (names_placed (placed_in chosen b)) x lost).0)

-- Places.

-- where a name lies among those that pass a test on names, which it does
place-filter : (t : Name → Bool) (ps : List Placed) (x : Name) → IsTrue (t x) → place_of (filter (λ p. t p.name) ps) x ≡ place_of ps x
place-filter t [] x passes = refl
place-filter t (p ∷ ps) x passes = by (t p.name) (same_name p.name x) refl refl (place-filter t ps x passes)
  where
    by : (a b : Bool) → t p.name ≡ a → same_name p.name x ≡ b → place_of (filter (λ p. t p.name) ps) x ≡ place_of ps x
        → place_of (cond a (p ∷ filter (λ p. t p.name) ps) (filter (λ p. t p.name) ps)) x ≡ cond b (Some p) (place_of ps x)
    by true true e f rest = ap (λ (b : Bool). cond b (Some p) (place_of (filter (λ p. t p.name) ps) x)) f
    by true false e f rest = ap (λ (b : Bool). cond b (Some p) (place_of (filter (λ p. t p.name) ps) x)) f ∙ rest
    by false true e f rest = absurd (false≢true (sym e ∙ ap t (same_name-eq p.name x f) ∙ passes))
    by false false e f rest = rest

-- and where the objects were moved
place-map : (f : Placed → Placed) → ((p : Placed) → (f p).name ≡ p.name) → (ps : List Placed) (x : Name) → place_of (map f ps) x ≡ option_map f (place_of ps x)
place-map f keeps [] x = refl
place-map f keeps (p ∷ ps) x = ap (λ (y : Name). cond (same_name y x) (Some (f p)) (place_of (map f ps) x)) (keeps p) ∙ by (same_name p.name x) (place-map f keeps ps x)
  where
    by : (b : Bool) → place_of (map f ps) x ≡ option_map f (place_of ps x) → cond b (Some (f p)) (place_of (map f ps) x) ≡ option_map f (cond b (Some p) (place_of ps x))
    by true rest = refl
    by false rest = rest

-- an object moves into a free region, or stays
moved-into-free : (free : List ℕ) (kept : List Kept) → AllByRecursion (λ (k : Kept). IsTrue (lands_in free k.how)) kept → (p : Placed)
    → ((placed_after_partial kept p).region ≡ p.region) ⊎ IsTrue (is_in (placed_after_partial kept p).region free)
moved-into-free free [] lands p = inl refl
moved-into-free free (k ∷ ks) lands p = by (same_name k.name p.name) (moved-into-free free ks lands.1 p)
  where
    here : (w : How) → IsTrue (lands_in free w) → (region_as_kept w p.region ≡ p.region) ⊎ IsTrue (is_in (region_as_kept w p.region) free)
    here (how.Copied q) at = inr at
    here how.Marked at = inl refl

    by : (b : Bool) → ((placed_after_partial ks p).region ≡ p.region) ⊎ IsTrue (is_in (placed_after_partial ks p).region free)
        → ((cond b (placed_as_kept k p) (placed_after_partial ks p)).region ≡ p.region) ⊎ IsTrue (is_in (cond b (placed_as_kept k p) (placed_after_partial ks p)).region free)
    by true rest = here k.how lands.0
    by false rest = rest

pub moved-by-partial : (c : Config) (b : Board) (chosen : List ℕ) (scans : ℕ) (kept : List Kept) → IsPartial c b chosen scans kept → (x : Name) → IsTrue (is_present (after_partial c b chosen kept) x)
    → (region_before (place_of (after_partial c b chosen kept).present x) ≡ region_before (place_of b.present x)) ⊎ IsTrue (is_in (region_before (place_of (after_partial c b chosen kept).present x)) (free_regions b.regions))
moved-by-partial c b chosen scans kept is x here =
    let stays = from-filter (λ y. not (is_among y (names_lost b chosen kept))) (names_placed b.present) x (sym (ap (is_among x) (partial-names c b chosen kept)) ∙ here) in
    let at : place_of (after_partial c b chosen kept).present x ≡ option_map (placed_after_partial kept) (place_of b.present x) =
    place-map (placed_after_partial kept) (moved-name kept) (placed_except (names_lost b chosen kept) b.present) x
    ∙ ap (option_map (placed_after_partial kept)) (place-filter (λ y. not (is_among y (names_lost b chosen kept))) b.present x stays.0) in
    subst (λ (o : Option Placed). (region_before o ≡ region_before (place_of b.present x)) ⊎ IsTrue (is_in (region_before o) (free_regions b.regions))) (sym at) (by (place_of b.present x))
  where
    by : (o : Option Placed) → (region_before (option_map (placed_after_partial kept) o) ≡ region_before o) ⊎ IsTrue (is_in (region_before (option_map (placed_after_partial kept) o)) (free_regions b.regions))
    by None = inl refl
    by (Some p) = moved-into-free (free_regions b.regions) kept is.from_the_pool p
