-- The survivors as they are told: one by one, worker by worker, and sorted.
use Rattle.std.proofs.Common.{◌≡◌, ◌+◌, ◌<◌, ◌≤◌, ℕ, zero, suc, false, List, [], ◌∷◌, ◌++◌, Some, length, take, map, get_or, refl, ap, ap₂, sym, subst, ◌∙◌, arith}
use Rattle.std.specs.Prelude.{slice_get}
use Rattle.std.specs.List.{All, IsDistinct}
use Rattle.std.specs.List.Sorted.{IsPermutation, IsSortedBy}
use Rattle.std.proofs.Math.ListN.{get_or-map}
use Rattle.std.proofs.Math.Nat.{div-lt_iff_lt-mul}
use Rattle.std.proofs.lemmas.Bool.{false_from_ne_true}
use Rattle.std.proofs.lemmas.List.{append-nil, append_assoc, length-map, map_more}
use Rattle.std.proofs.lemmas.List.Elements.{All-from_recursion}
use Rattle.std.proofs.lemmas.List.Sorted.{IsPermutation-map}
use Rattle.std.proofs.lemmas.Map.Keys.{IsDistinct-cons}
use Rattle.std.proofs.lemmas.Option.{get_or_from_slice_get}
use Rattle.bal_layout.specs.Addresses.{IsAddress, region_of}
use Rattle.bal_layout.specs.Names.{is_before, same_name}
use Rattle.bal_layout.specs.Shape.{Shape}
use Rattle.bal_layout.specs.declared.name.Name.{Name}
use Rattle.bal_core.specs.World.{At}
use Rattle.bal_core.specs.Core.{Fits}
use Rattle.bal_core.specs.Start.{name_of}
use Rattle.bal_core.specs.Steps.{told}
use Rattle.bal_core.specs.Finished.{Evacuation, IsEvacuated, Survives, drawn_by, won_by}
use Rattle.bal_core.specs.declared.event.Decision.{Decision}
use Rattle.bal_core.specs.declared.event.Decision.TheVariants as decision
use Rattle.bal_core.specs.declared.row.Told.{Told}
use Rattle.bal_model.proofs.Lemmas.{moved-distinct, same_name-eq, sorted-ascend}
use Rattle.bal_model.specs.declared.event.How.{How}
use Rattle.bal_model.specs.declared.event.How.TheVariants as how
use Rattle.bal_model.specs.declared.event.Kept.{Kept}
use Rattle.bal_rules.proofs.Lemmas.{each-map}
use Rattle.bal_rules.specs.PartialEvents.{names_kept}
use Rattle.bal_told.specs.OnBoard.{AreNamedApart}
use Rattle.bal_told.specs.Telling.{AreTold, IsInHeap, IsTellable, goes_before, how_of, name_in, survivors_of, told_as, told_by, told_up_to}
use Rattle.bal_told.proofs.Lists.{at-map, at-map_back, each-from_at, one-place}
use Rattle.bal_told.proofs.Survivors.{survivor-name, survivor-within}

-- items with keys of which no two are one, and names sorted by them

distinct-by : {X : Type 0} (name : X → Name) (xs : List X) → ((i j : ℕ) (x y : X) → At xs i x → At xs j y → name x ≡ name y → i ≡ j)
    → IsDistinct same_name (map name xs)
unfolding IsDistinct
distinct-by name [] one = tt
distinct-by {X} name (x ∷ xs) one =
    IsDistinct-cons same_name (name x) (map name xs)
    (each-map (λ (y : X). (i : ℕ) × At xs i y) (λ (n : Name). same_name (name x) n ≡ false) name
    (λ y at. false_from_ne_true (same_name (name x) (name y)) (λ same.
    let again : zero ≡ suc at.0 = one zero (suc at.0) x y refl at.1 (same_name-eq (name x) (name y) same) in omega (arith, again)))
    xs (each-from_at (λ (y : X). (i : ℕ) × At xs i y) xs (λ i y at. (i, at))))
    (distinct-by name xs (λ i j y z at there same. let is : suc i ≡ suc j = one (suc i) (suc j) y z at there same in omega (arith, is)))

sorted-names : (kept : List Kept) → IsSortedBy goes_before kept → IsSortedBy is_before (names_kept kept)
sorted-names kept sorted k d low high =
    let l : Kept = record { name = d; how = how.Marked; worker = 0 } in
    let long : length (names_kept kept) ≡ length kept = length-map kept (λ (j : Kept). j.name) in
    ap₂ is_before (get_or-map (λ (j : Kept). j.name) kept (k + 1) l) (get_or-map (λ (j : Kept). j.name) kept k l)
    ∙ sorted k l low (let less : k + 1 < length (names_kept kept) = high in omega (arith, less, long))

-- what is told of one more
pub told-more : (s : Shape) (words : List (List ℕ)) (worker : ℕ) (before list : List Kept) (won : List Told) (i : ℕ) (d : Told)
    (object : List ℕ) (name : Name) (how : How)
    → i < length won → list ≡ before ++ map (told_as s (map name_of words) worker) (take i won)
    → slice_get words (get_or won i d).object ≡ Some object
    → name ≡ name_of object → how ≡ how_of s (get_or won i d).decision
    → list ++ record { name = name; how = how; worker = worker } ∷ [] ≡ before ++ map (told_as s (map name_of words) worker) (take (i + 1) won)
told-more s words worker before list won i d object name how less so_far at named told =
    ap₂ (λ (l : List Kept) (k : Kept). l ++ k ∷ []) so_far (ap₂ (λ (x : Name) (h : How). record { name = x; how = h; worker = worker }) here told)
    ∙ append_assoc before (map (told_as s (map name_of words) worker) (take i won)) (told_as s (map name_of words) worker (get_or won i d) ∷ [])
    ∙ ap (λ (l : List Kept). before ++ l) (sym (map_more (told_as s (map name_of words) worker) won i d less))
  where
    here : name ≡ name_in (map name_of words) (get_or won i d).object
    here =
        named ∙ sym (get_or_from_slice_get (map name_of words) (get_or won i d).object (name_of object) (record { thread = 0; ordinal = 0 })
        (at-map name_of words (get_or won i d).object object at))

-- All that an evacuation decided can be told.

address-of_region : (s : Shape) (a : ℕ) → 0 < s.words → region_of s a < s.regions → IsAddress s a
address-of_region s a some less = (div-lt_iff_lt-mul some).0 less

module _ (e : Evacuation) (is : IsEvacuated e) where
  in-heap : (n i k : ℕ) (d : Decision) → Survives e n i k d → IsInHeap e.world.shape d
  in-heap n i k decision.Marked here = tt
  in-heap n i k (decision.Copied a) here =
      let f : Fits e.world (drawn_by e n) (won_by e n) i k a = is.copies.fits n i k a here in
      let drawn = is.regions.drawn n f.place f.drawn f.drew in
      let most : f.drawn.region < e.world.shape.regions = is.world.regions f.drawn.ordinal f.drawn.region drawn.1 in
      let words : 256 ≤ e.world.shape.words = is.world.shape.fewest_words in
      address-of_region e.world.shape a (omega (arith, words)) (subst (λ q. q < e.world.shape.regions) (sym f.region) most)

  pub tellable : (n : ℕ) → All (IsTellable e.world.shape (length e.world.ages)) (won_by e n)
  tellable n =
      All-from_recursion (IsTellable e.world.shape (length e.world.ages)) (won_by e n)
      (each-from_at (IsTellable e.world.shape (length e.world.ages)) (won_by e n) (λ i t at. record {
        object = subst (λ m. t.object < m) (sym is.world.ages) (survivor-within e is n i t.object t.decision at);
        address = in-heap n i t.object t.decision at;
      }))

  -- No two of what is told have one name, if no two objects have.

  module _ (apart : AreNamedApart e.world) where
    once : (m p o r : ℕ) (k l : Kept) → At (told_by e m) p k → At (told_by e o) r l → k.name ≡ l.name → (m ≡ o) × (p ≡ r)
    once m p o r k l at there same =
        let t = at-map_back (told_as e.world.shape e.world.names m) (won_by e m) p k at in
        let u = at-map_back (told_as e.world.shape e.world.names o) (won_by e o) r l there in
        let name : name_in e.world.names t.0.object ≡ name_in e.world.names u.0.object
        = sym (ap (λ (j : Kept). j.name) t.2) ∙ same ∙ ap (λ (j : Kept). j.name) u.2 in
        let object : t.0.object ≡ u.0.object =
        apart t.0.object u.0.object (name_in e.world.names u.0.object)
        (subst (λ (x : Name). At e.world.names t.0.object x) name (survivor-name e is m p t.0.object t.0.decision t.1))
        (survivor-name e is o r u.0.object u.0.decision u.1) in
        is.survivors.once m o p r u.0.object t.0.decision u.0.decision (subst (λ k. At (won_by e m) p (told k t.0.decision)) object t.1) u.1

    pub told-apart : IsDistinct same_name (names_kept (survivors_of e))
    told-apart =
        distinct-by (λ (k : Kept). k.name) (survivors_of e)
        (λ i j k l at there same. one-place (λ (k : Kept). k.name) (told_by e) once 0 (length e.won) i j k l at there same)

    pub told-in-order : (kept : List Kept) → IsPermutation (survivors_of e) kept → IsSortedBy goes_before kept → AreTold e kept
    told-in-order kept moved sorted = record {
      same = moved;
      ascending = sorted-ascend (names_kept kept) (sorted-names kept sorted)
          (moved-distinct (names_kept (survivors_of e)) (names_kept kept) (IsPermutation-map (λ (k : Kept). k.name) (survivors_of e) kept moved) told-apart);
    }

-- with one worker
pub told-alone : (e : Evacuation) → length e.won ≡ 1 → survivors_of e ≡ told_by e 0
told-alone e one = ap (told_up_to e) one ∙ append-nil (told_by e 0)
