-- Objects are moved or removed, and which board the heap meets then.
use Rattle.std.proofs.Common.{◌≡◌, ℕ, Bool, true, false, cond, not, ◌||◌, IsTrue, List, [], ◌∷◌, filter, map, Option, None, Some, refl, ap, sym, subst, ◌∙◌}
use Rattle.std.specs.List.{AllByRecursion}
use Rattle.std.specs.Option.{option_map}
use Rattle.std.specs.Prelude.{IsSome, is_some}
use Rattle.std.proofs.lemmas.Bool.{cond-true, false≢true, or_left, or_right}
use Rattle.std.proofs.lemmas.Option.{none-some}
use Rattle.bal_layout.specs.Graph.{Object}
use Rattle.bal_layout.specs.Names.{is_among, same_name}
use Rattle.bal_layout.specs.declared.name.Name.{Name}
use Rattle.bal_meet.specs.Decode.{graph_of, placed_at, roots_of}
use Rattle.bal_meet.specs.Heap.{Account, ArePlaced, Heap, Meets, Moves, made_counts, spot_at}
use Rattle.bal_meet.proofs.Present.{present-is}
use Rattle.bal_meet.proofs.Reading.{object-shown}
use Rattle.bal_model.specs.Plain.{State, object}
use Rattle.bal_model.proofs.Lemmas.{from-filter, is_among-head, is_among-tail, same_name-eq, same_name-refl}
use Rattle.bal_rules.specs.Board.{Board, Placed, names_placed, place_of, placed_except}
use Rattle.bal_rules.specs.Sound.{IsAscending}
use Rattle.bal_rules.proofs.Lemmas.{all-among, ascending-filter, names_placed-filter, names_placed-map}
use Rattle.bal_words.specs.Moved.{Kept}
use Rattle.bal_words.specs.Shown.{Shows, ShowsRoots}
use Rattle.bal_words.specs.Things.{Thing, Things}
use Rattle.bal_words.proofs.Lemmas.{roots-moved, shows-moved, stood-before}

-- Placed objects by name.

-- what has a place is among the placed
pub place-among : (ps : List Placed) (x : Name) (q : Placed) → place_of ps x ≡ Some q → is_among x (names_placed ps) ≡ true
place-among [] x q is = absurd (none-some q is)
place-among (p ∷ ps) x q is = by (same_name p.name x) refl is (place-among ps x q)
  where
    by : (b : Bool) → same_name p.name x ≡ b → cond b (Some p) (place_of ps x) ≡ Some q → (place_of ps x ≡ Some q → is_among x (names_placed ps) ≡ true)
        → (same_name x p.name || is_among x (names_placed ps)) ≡ true
    by true same is rest = or_left (same_name x p.name) (is_among x (names_placed ps))
        (subst (λ (n : Name). IsTrue (same_name x n)) (sym (same_name-eq p.name x same)) (same_name-refl x))
    by false other is rest = or_right (same_name x p.name) (is_among x (names_placed ps)) (rest is)

-- what holds of each name among them holds of each of them
each-among : (P : Name → Type 0) (ps : List Placed) → ((n : Name) → IsTrue (is_among n (names_placed ps)) → P n) → AllByRecursion (λ (p : Placed). P p.name) ps
each-among P [] h = tt
each-among P (p ∷ ps) h = (
  h p.name (is_among-head p.name (names_placed ps)),
  each-among P ps (λ n among. h n (is_among-tail n p.name (names_placed ps) among)),
)

-- a map that keeps names moves the place of each
place-map : (move : Placed → Placed) → ((p : Placed) → (move p).name ≡ p.name) → (ps : List Placed) (x : Name)
    → place_of (map move ps) x ≡ option_map move (place_of ps x)
place-map move names [] x = refl
place-map move names (p ∷ ps) x =
    ap (λ (n : Name). cond (same_name n x) (Some (move p)) (place_of (map move ps) x)) (names p) ∙ by (same_name p.name x) (place-map move names ps x)
  where
    by : (b : Bool) → place_of (map move ps) x ≡ option_map move (place_of ps x)
        → cond b (Some (move p)) (place_of (map move ps) x) ≡ option_map move (cond b (Some p) (place_of ps x))
    by true rest = refl
    by false rest = rest

-- what isn't taken out keeps its place
place-except : (lost : List Name) (ps : List Placed) (x : Name) → is_among x lost ≡ false → place_of (placed_except lost ps) x ≡ place_of ps x
place-except lost [] x stays = refl
place-except lost (p ∷ ps) x stays = by (same_name p.name x) (is_among p.name lost) refl refl (place-except lost ps x stays)
  where
    by : (same gone : Bool) → same_name p.name x ≡ same → is_among p.name lost ≡ gone → place_of (placed_except lost ps) x ≡ place_of ps x
        → place_of (cond (not gone) (p ∷ placed_except lost ps) (placed_except lost ps)) x ≡ cond same (Some p) (place_of ps x)
    by true true here out rest =
        absurd (false≢true (sym stays ∙ (ap (λ (n : Name). is_among n lost) (sym (same_name-eq p.name x here)) ∙ out)))
    by true false here out rest = ap (λ b. cond b (Some p) (place_of (placed_except lost ps) x)) here
    by false true apart out rest = rest
    by false false apart out rest = ap (λ b. cond b (Some p) (place_of (placed_except lost ps) x)) apart ∙ rest

-- The heap after the move.

pub moved-meets : (before after : Heap) (middle : Things) (keeps : ℕ → Bool) (to : ℕ → ℕ) (b : Board) (now : List Placed)
    → Meets before b → Moves before after middle keeps to → ArePlaced before.things (spot_at after) keeps to now
    → Meets after (record b { present = now; regions = after.account.regions; current = after.account.current })
moved-meets before after middle keeps to b now m v p = record {
  decodes = record { state = m.decodes.state; made = made; ascending = p.ascending; objects = objects; held = held; places = places };
  account = account;
}
  where
    s : State
    s = b.plain

    made : AllByRecursion (λ (q : Placed). IsSome (object s q.name)) now
    made = each-among (λ (n : Name). IsSome (object s n)) now (λ n among.
        let old = p.only n among in
        subst (λ (k : Name). IsSome (object s k)) old.1.3 (ap is_some (object-shown m.decodes old.1.1).1))

    kept : Kept before.things keeps (graph_of s b.present) (graph_of s now)
    kept = record {
      each = λ a x is stays.
          cond-true (is_among x.name (names_placed now)) (object s x.name) None (place-among now x.name (placed_at x.name (spot_at after (to a))) (p.each a x is stays))
          ∙ sym (cond-true (is_among x.name (names_placed b.present)) (object s x.name) None (object-shown m.decodes is).0);
      only = λ n o is. p.only n (present-is s now n o is).0;
    }

    objects : Shows after.things (graph_of s now)
    objects = shows-moved before.things middle after.things (graph_of s b.present) (graph_of s now) keeps to m.decodes.objects v.carried v.mended v.closed kept

    held : ShowsRoots after.things after.roots (roots_of s)
    held = subst (λ words. ShowsRoots after.things words (roots_of s)) (sym v.roots)
        (roots-moved before.things middle after.things keeps to before.roots (roots_of s) m.decodes.held v.carried v.mended v.held)

    places : (c : ℕ) (y : Thing) → after.things c ≡ Some y → place_of now y.name ≡ Some (placed_at y.name (spot_at after c))
    places c y is =
        let old = stood-before before.things middle after.things keeps to v.carried v.mended c y is in
        subst (λ (w : Thing). place_of now w.name ≡ Some (placed_at w.name (spot_at after c))) old.1.4
        (p.each old.0 old.1.0 old.1.1 old.1.2 ∙ ap (λ e. Some (placed_at old.1.0.name (spot_at after e))) old.1.3)

    account : after.account ≡ record { made = made_counts s; regions = after.account.regions; current = after.account.current }
    account = ap (λ (counts : List ℕ). record { made = counts; regions = after.account.regions; current = after.account.current })
        (v.made ∙ ap (λ (a : Account). a.made) m.account)

-- The present objects without the lost, each as it is moved, are those that are kept.
abbrev pub AreMovedPlaced : Type 0
AreMovedPlaced = (before after : Heap) (keeps : ℕ → Bool) (to : ℕ → ℕ) (b : Board) (lost : List Name) (move : Placed → Placed)
    → Meets before b
    → ((a : ℕ) (x : Thing) → before.things a ≡ Some x → keeps a ≡ not (is_among x.name lost))
    → ((p : Placed) → (move p).name ≡ p.name)
    → ((a : ℕ) (x : Thing) → before.things a ≡ Some x → IsTrue (keeps a)
    → move (placed_at x.name (spot_at before a)) ≡ placed_at x.name (spot_at after (to a)))
    → ArePlaced before.things (spot_at after) keeps to (map move (placed_except lost b.present))

pub are-placed : AreMovedPlaced
are-placed before after keeps to b lost move m stays names moves = record { each = each; only = only; ascending = ascending }
  where
    names-are : names_placed (map move (placed_except lost b.present)) ≡ filter (λ n. not (is_among n lost)) (names_placed b.present)
    names-are = names_placed-map move names (placed_except lost b.present) ∙ names_placed-filter (λ n. not (is_among n lost)) b.present

    not-true : (c : Bool) → not c ≡ true → c ≡ false
    not-true true h = absurd (false≢true h)
    not-true false h = refl

    each : (a : ℕ) (x : Thing) → before.things a ≡ Some x → IsTrue (keeps a)
        → place_of (map move (placed_except lost b.present)) x.name ≡ Some (placed_at x.name (spot_at after (to a)))
    each a x is kept =
        let in_place = m.decodes.places a x is in
        place-map move names (placed_except lost b.present) x.name
        ∙ (ap (option_map move) (place-except lost b.present x.name (not-true (is_among x.name lost) (sym (stays a x is) ∙ kept)) ∙ in_place)
        ∙ ap (λ (q : Placed). Some q) (moves a x is kept))

    only : (n : Name) → IsTrue (is_among n (names_placed (map move (placed_except lost b.present))))
        → (a : ℕ) × ((x : Thing) × (before.things a ≡ Some x) × IsTrue (keeps a) × (x.name ≡ n))
    only n among =
        let parts = from-filter (λ k. not (is_among k lost)) (names_placed b.present) n (subst (λ (ns : List Name). IsTrue (is_among n ns)) names-are among) in
        let made : IsSome (object b.plain n) = made-of b.present m.decodes.made n parts.1 in
        by (object b.plain n) refl made parts.0 parts.1
      where
        made-of : (ps : List Placed) → AllByRecursion (λ (p : Placed). IsSome (object b.plain p.name)) ps → (k : Name) → IsTrue (is_among k (names_placed ps)) → IsSome (object b.plain k)
        made-of ps h k = all-among (λ (j : Name). IsSome (object b.plain j)) (names_placed ps) k (named ps h)
          where
            named : (qs : List Placed) → AllByRecursion (λ (p : Placed). IsSome (object b.plain p.name)) qs → AllByRecursion (λ (j : Name). IsSome (object b.plain j)) (names_placed qs)
            named [] g = tt
            named (q ∷ qs) g = (g.0, named qs g.1)

        by : (o : Option Object) → object b.plain n ≡ o → IsSome o → IsTrue (not (is_among n lost)) → IsTrue (is_among n (names_placed b.present))
            → (a : ℕ) × ((x : Thing) × (before.things a ≡ Some x) × IsTrue (keeps a) × (x.name ≡ n))
        by None e some out there = absurd (false≢true some)
        by (Some o) e some out there =
            let at = m.decodes.objects.every n o (cond-true (is_among n (names_placed b.present)) (object b.plain n) None there ∙ e) in
            (at.0, (at.1.0, at.1.1, stays at.0 at.1.0 at.1.1 ∙ subst (λ (k : Name). IsTrue (not (is_among k lost))) (sym at.1.2) out, at.1.2))

    ascending : IsAscending (names_placed (map move (placed_except lost b.present)))
    ascending = subst IsAscending (sym names-are) (ascending-filter (λ n. not (is_among n lost)) (names_placed b.present) m.decodes.ascending)
