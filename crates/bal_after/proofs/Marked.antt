-- The marked objects of a region, by their numbers: the rules see as many words as they have.
use Rattle.std.proofs.Common.{◌≡◌, ◌==◌, ℕ, Bool, true, false, cond, ◌&&◌, IsTrue, List, [], ◌∷◌, filter, map, length, refl, ap, sym, subst, ◌∙◌, arith}
use Rattle.std.specs.List.{AllByRecursion, IsDistinct, sum_by}
use Rattle.std.proofs.lemmas.Bool.{and_from, and_parts, eq-eqb, eqb-true, false≢true, ne_eqb, or_left}
use Rattle.std.proofs.lemmas.List.Elements.{All-contains, All-from_recursion}
use Rattle.std.proofs.lemmas.List.Sums.{sum-map}
use Rattle.std.proofs.lemmas.Option.{get_or_from_slice_get}
use Rattle.bal_layout.specs.Names.{is_among, same_name}
use Rattle.bal_layout.specs.Regions.{is_in}
use Rattle.bal_layout.specs.Shape.{Shape}
use Rattle.bal_layout.specs.declared.name.Name.{Name}
use Rattle.bal_core.specs.World.{At, size_of}
use Rattle.bal_core.specs.Steps.{told}
use Rattle.bal_core.specs.Finished.{Evacuation, Survives}
use Rattle.bal_core.specs.declared.event.Decision.{Decision}
use Rattle.bal_core.specs.declared.event.Decision.TheVariants as decision
use Rattle.bal_model.proofs.Lemmas.{ascending-map-filter, is_among-head}
use Rattle.bal_model.specs.Ascending.{IsAscending}
use Rattle.bal_model.specs.declared.config.Config.{Config}
use Rattle.bal_model.specs.declared.event.Kept.{Kept}
use Rattle.bal_rules.proofs.Lemmas.{all-among, each-both, each-filter, each-in, each-map}
use Rattle.bal_rules.specs.Board.{Board, Placed, is_empty, names_placed, words_of, words_of_all}
use Rattle.bal_rules.specs.PartialEvents.{is_marked, names_marked, names_marked_in}
use Rattle.bal_told.proofs.Lemmas.{at-in, each-passes, in-each, is-told, object-of, sum-of_map, sum-same}
use Rattle.bal_told.specs.Telling.{how_of, name_in, told_as}
use Rattle.bal_told.specs.Whole.{IsWhole}
use Rattle.bal_after.specs.Asked.{AreMarkedIn, IsMarkedIn}
use Rattle.bal_after.proofs.Decided.{IsDecided, each-decided}
use Rattle.bal_after.proofs.Members.{distinct-named, sum-members}
use Rattle.bal_after.proofs.Places.{each-named, each-passing, found-passes, passes-found, placed-name}

-- what passes two tests, one after the other
twice : {X : Type 0} (p q : X → Bool) (xs : List X) → filter q (filter p xs) ≡ filter (λ x. p x && q x) xs
twice p q [] = refl
twice {X} p q (x ∷ xs) = by (p x) (twice p q xs)
  where
    by : (t : Bool) → filter q (filter p xs) ≡ filter (λ y. p y && q y) xs
        → filter q (cond t (x ∷ filter p xs) (filter p xs)) ≡ cond (t && q x) (x ∷ filter (λ y. p y && q y) xs) (filter (λ y. p y && q y) xs)
    by true rest = ap (λ (l : List X). cond (q x) (x ∷ l) l) rest
    by false rest = rest

marked-of : (s : Shape) (d : Decision) → IsTrue (is_marked (how_of s d)) → d ≡ decision.Marked
marked-of s decision.Marked h = refl
marked-of s (decision.Copied a) h = absurd (false≢true h)

-- the object of this name was marked
record IsMarkedName (e : Evacuation) (x : Name) : Type 0 where
  pub object : ℕ
  pub worker : ℕ
  pub order : ℕ
  pub name : At e.world.names object x
  pub won : Survives e worker order object decision.Marked

module _ (c : Config) (b : Board) (chosen : List ℕ) (e : Evacuation) (kept : List Kept) (whole : IsWhole c b chosen e kept) where
  marked-name : (k : Kept) → IsDecided e k.name k.how → IsTrue (is_marked k.how) → IsMarkedName e k.name
  marked-name k is marked = record {
    object = is.object;
    worker = is.worker;
    order = is.place;
    name = is.name;
    won = subst (Survives e is.worker is.place is.object)
        (marked-of e.world.shape is.decision (sym (ap is_marked is.how) ∙ marked)) is.won;
  }

  among-marked : (x : Name) → IsTrue (is_among x (names_marked kept)) → IsMarkedName e x
  among-marked x among =
      all-among (IsMarkedName e) (names_marked kept) x
      (each-map (λ (k : Kept). IsDecided e k.name k.how × IsTrue (is_marked k.how)) (IsMarkedName e) (λ (k : Kept). k.name)
      (λ k h. marked-name k h.0 h.1) (filter (λ k. is_marked k.how) kept)
      (each-both (λ (k : Kept). IsDecided e k.name k.how) (λ (k : Kept). IsTrue (is_marked k.how)) (filter (λ k. is_marked k.how) kept)
      (each-filter (λ (k : Kept). IsDecided e k.name k.how) (λ k. is_marked k.how) kept (each-decided c b chosen e kept whole))
      (each-passes (λ k. is_marked k.how) kept))) among

  marked-among : (x : Name) (k n i : ℕ) → At e.world.names k x → Survives e n i k decision.Marked → IsTrue (is_among x (names_marked kept))
  marked-among x k n i at here =
      subst (λ (y : Name). IsTrue (is_among y (names_marked kept))) (get_or_from_slice_get e.world.names k x (record { thread = 0; ordinal = 0 }) at)
      (All-contains (λ (l : Kept). IsTrue (is_marked l.how) → IsTrue (is_among l.name (names_marked kept))) kept
      (told_as e.world.shape e.world.names n (told k decision.Marked))
      (All-from_recursion (λ (l : Kept). IsTrue (is_marked l.how) → IsTrue (is_among l.name (names_marked kept))) kept
      (each-passing (λ (l : Kept). l.name) (λ l. is_marked l.how) kept))
      (is-told c b chosen e kept whole n i (told k decision.Marked) here) refl)

  module _ (up : IsAscending (names_placed b.present)) (q : ℕ) where
    -- the marked objects that lie in the region
    abbrev both : Placed → Bool
    both p = is_among p.name (names_marked kept) && (p.region == q)

    in-one_filter : names_marked_in b kept q ≡ names_placed (filter both b.present)
    in-one_filter = ap names_placed (twice (λ p. is_among p.name (names_marked kept)) (λ p. p.region == q) b.present)

    ascends : IsAscending (names_marked_in b kept q)
    ascends = subst IsAscending (sym in-one_filter) (ascending-map-filter (λ (p : Placed). p.name) both b.present up)

    named-in : (x : Name) → IsTrue (is_among x (names_marked_in b kept q)) → (k : ℕ) × IsMarkedIn b e q k × At e.world.names k x
    named-in x among =
        let found = passes-found both b.present up x (subst (λ (l : List Name). IsTrue (is_among x l)) in-one_filter among) in
        let parts = and_parts (is_among found.0.name (names_marked kept)) (found.0.region == q) found.2 in
        let is : IsMarkedName e x = among-marked x
        (subst (λ (y : Name). IsTrue (is_among y (names_marked kept))) (placed-name b.present x found.0 found.1) parts.0) in (
          is.object,
          record {
            worker = is.worker;
            order = is.order;
            marked = is.won;
            name = x;
            named = is.name;
            placed = found.0;
            present = found.1;
            lies = eqb-true found.0.region q parts.1;
          },
          is.name,
        )

    name-of : (k : ℕ) (m : IsMarkedIn b e q k) → name_in e.world.names k ≡ m.name
    name-of k m = get_or_from_slice_get e.world.names k m.name (record { thread = 0; ordinal = 0 }) m.named

    in-named : (k : ℕ) → IsMarkedIn b e q k → IsTrue (is_among (name_in e.world.names k) (names_marked_in b kept q))
    in-named k m =
        subst (λ (l : List Name). IsTrue (is_among (name_in e.world.names k) l)) (sym in-one_filter)
        (subst (λ (y : Name). IsTrue (is_among y (names_placed (filter both b.present)))) (sym (name-of k m))
        (found-passes both b.present m.name m.placed m.present
        (and_from (is_among m.placed.name (names_marked kept)) (m.placed.region == q)
        (subst (λ (y : Name). IsTrue (is_among y (names_marked kept))) (sym (placed-name b.present m.name m.placed m.present))
        (marked-among m.name k m.worker m.order m.named m.marked))
        (eq-eqb m.placed.region q m.lies))))

    module _ (ks : List ℕ) (are : AreMarkedIn b e q ks) where
      abbrev named : ℕ → Name
      named k = name_in e.world.names k

      each-marked : AllByRecursion (IsMarkedIn b e q) ks
      each-marked = in-each (IsMarkedIn b e q) ks are.marked

      apart : IsDistinct same_name (map named ks)
      apart =
          distinct-named named (IsMarkedIn b e q)
          (λ j k l m same. whole.board.distinct j k m.name
          (subst (λ (y : Name). At e.world.names j y) (sym (name-of j l) ∙ same ∙ name-of k m) l.named) m.named)
          ks each-marked are.once

      to : (x : Name) → IsTrue (is_among x (map named ks)) → IsTrue (is_among x (names_marked_in b kept q))
      to x among =
          all-among (λ (y : Name). IsTrue (is_among y (names_marked_in b kept q))) (map named ks) x
          (each-map (IsMarkedIn b e q) (λ (y : Name). IsTrue (is_among y (names_marked_in b kept q))) named in-named ks each-marked) among

      from : (x : Name) → IsTrue (is_among x (names_marked_in b kept q)) → IsTrue (is_among x (map named ks))
      from x among =
          let is = named-in x among in
          subst (λ (y : Name). IsTrue (is_among y (map named ks)))
          (get_or_from_slice_get e.world.names is.0 x (record { thread = 0; ordinal = 0 }) is.2) (in-map ks is.0 (are.all is.0 is.1))
        where
          in-map : (ls : List ℕ) (k : ℕ) → IsTrue (is_in k ls) → IsTrue (is_among (named k) (map named ls))
          in-map ls k here =
              each-in (λ (j : ℕ). IsTrue (is_among (named j) (map named ls))) ls k (each-named named ls) here

      pub words-marked : words_of_all c b (names_marked_in b kept q) ≡ sum_by (size_of e.world) ks
      words-marked =
          sum-map (words_of c b) (names_marked_in b kept q)
          ∙ sum-members (words_of c b) (map named ks) (names_marked_in b kept q) apart ascends to from
          ∙ sum-of_map (words_of c b) named ks
          ∙ sum-same (λ k. words_of c b (named k)) (size_of e.world) ks (λ i k at.
          let m : IsMarkedIn b e q k = are.marked k (at-in ks i k at) in
          (object-of c b chosen e kept whole m.worker m.order k decision.Marked m.marked).words)

      pub none-marked : is_empty (names_marked_in b kept q) ≡ (length ks == 0)
      none-marked = by (names_marked_in b kept q) refl ks refl
        where
          by : (ns : List Name) → ns ≡ names_marked_in b kept q → (ls : List ℕ) → ls ≡ ks → is_empty ns ≡ (length ls == 0)
          by [] none [] nil = refl
          by [] none (k ∷ ls) cons =
              absurd (false≢true (subst (λ (l : List Name). IsTrue (is_among (named k) l)) (sym none)
              (in-named k (are.marked k (subst (λ (l : List ℕ). IsTrue (is_in k l)) cons (or_left (k == k) (is_in k ls) (eq-eqb k k refl)))))))
          by (x ∷ ns) some [] nil =
              let is = named-in x (subst (λ (l : List Name). IsTrue (is_among x l)) some (is_among-head x ns)) in
              absurd (false≢true (subst (λ (l : List ℕ). IsTrue (is_in is.0 l)) (sym nil) (are.all is.0 is.1)))
          by (x ∷ ns) some (k ∷ ls) cons = sym (ne_eqb (length (k ∷ ls)) 0 (λ zero. omega (arith, zero)))
