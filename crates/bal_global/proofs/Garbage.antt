-- Just the garbage is dead, and just the survivors are left.
use Rattle.std.proofs.Common.{◌≡◌, ℕ, ◌*◌, ◌↔◌, Bool, true, false, cond, not, IsTrue, List, length, Some, None, refl, ap, subst, sym, ◌∙◌}
use Rattle.std.proofs.lemmas.Bool.{false≢true}
use Rattle.std.proofs.lemmas.List.{length-map}
use Rattle.bal_layout.specs.Names.{is_among}
use Rattle.bal_layout.specs.Regions.{is_in}
use Rattle.bal_layout.specs.declared.name.Name.{Name}
use Rattle.bal_meet.specs.Heap.{Meets, spot_at}
use Rattle.bal_meet.proofs.Lemmas.{same-long}
use Rattle.bal_model.specs.Walk.{reachable}
use Rattle.bal_model.proofs.Lemmas.{from-filter, in-filter, same-names}
use Rattle.bal_plan.specs.Plan.{name_of, starts_of}
use Rattle.bal_rebuild.specs.Rebuilt.{with_empty_lists}
use Rattle.bal_rules.specs.Board.{Board, names_placed}
use Rattle.bal_rules.specs.GlobalEvents.{garbage, survivors}
use Rattle.bal_rules.proofs.Lemmas.{ascending-filter, distinct-ascending}
use Rattle.bal_sweep.specs.Dead.{IsDead}
use Rattle.bal_table.specs.Table.{Table, things_of}
use Rattle.bal_words.specs.Things.{Thing}
use Rattle.bal_global.specs.Global.{heap_by}
use Rattle.bal_global.specs.Cleared.{IsCleared}
use Rattle.bal_global.proofs.Decoded.{present-object, shown-object}
use Rattle.bal_global.proofs.Laws.{PathsAreWalks}
use Rattle.bal_global.proofs.Left.{is-left, was}
use Rattle.bal_global.proofs.Named.{left-name, name-left, name_at, names_left, start-is, starts-ascend, told-apart}

-- a test that holds, or that does not
not-false : (b : Bool) → IsTrue (not b) → b ≡ false
not-false true h = absurd (false≢true h)
not-false false h = refl

module _ (t u : Table) (roots made marked : List ℕ) (dead : List Name) (b : Board) (cleared : IsCleared t u roots marked dead)
    (m : Meets (heap_by t roots made) b) (walks : PathsAreWalks) where
  -- what is marked can be reached
  ends : (a : ℕ) (x : Thing) → things_of t a ≡ Some x → IsTrue (is_in a marked) ↔ IsTrue (is_among x.name (reachable b.plain))
  ends a x is =
      let law = walks (spot_at (heap_by t roots made)) (things_of t) roots b.plain b.present a x m.decodes is in
      (λ kept. law.0 ((cleared.reached a).0 kept), λ reached. (cleared.reached a).1 (law.1 reached))

  left : (a : ℕ) → things_of u a ≡ cond (is_in a marked) (things_of t a) None
  left a = cleared.swept.objects a

  -- The dead.

  dead-garbage : (n : Name) → IsDead marked (with_empty_lists t) n → IsTrue (is_among n (garbage b))
  dead-garbage n d =
      let named = subst (λ (k : Name). IsTrue (is_among k (names_placed b.present))) d.name (shown-object t roots made b m d.address d.thing d.is).0 in
      in-filter (λ k. not (is_among k (reachable b.plain))) (names_placed b.present) n (by (is_among n (reachable b.plain)) refl) named
    where
      by : (r : Bool) → is_among n (reachable b.plain) ≡ r → IsTrue (not r)
      by true reached = absurd (false≢true (sym d.unmarked ∙ (ends d.address d.thing d.is).1 (subst (λ (k : Name). IsTrue (is_among k (reachable b.plain))) (sym d.name) reached)))
      by false lost = refl

  garbage-dead : (n : Name) → IsTrue (is_among n (garbage b)) → IsDead marked (with_empty_lists t) n
  garbage-dead n among = record { address = o.0; thing = o.1.0; is = o.1.1; unmarked = by (is_in o.0 marked) refl; name = o.1.2 }
    where
      parts : IsTrue (not (is_among n (reachable b.plain))) × IsTrue (is_among n (names_placed b.present))
      parts = from-filter (λ k. not (is_among k (reachable b.plain))) (names_placed b.present) n among

      o : (a : ℕ) × ((x : Thing) × (things_of t a ≡ Some x) × (x.name ≡ n))
      o = present-object t roots made b m n parts.1

      by : (k : Bool) → is_in o.0 marked ≡ k → k ≡ false
      by true kept = absurd (false≢true (sym (not-false (is_among n (reachable b.plain)) parts.0)
          ∙ subst (λ (k : Name). IsTrue (is_among k (reachable b.plain))) o.1.2 ((ends o.0 o.1.0 o.1.1).0 kept)))
      by false lost = refl

  pub dead-are : dead ≡ garbage b
  dead-are = same-names dead (garbage b) cleared.dead_are.ascending
      (ascending-filter (λ k. not (is_among k (reachable b.plain))) (names_placed b.present) m.decodes.ascending)
      (λ n among. dead-garbage n ((cleared.dead_are.each n).0 among))
      (λ n among. (cleared.dead_are.each n).1 (garbage-dead n among))

  -- an object is kept if its name is not among the dead
  pub keeps-not : (a : ℕ) (x : Thing) → things_of t a ≡ Some x → is_in a marked ≡ not (is_among x.name dead)
  keeps-not a x is = by (is_in a marked) (is_among x.name dead) refl refl
    where
      by : (k d : Bool) → is_in a marked ≡ k → is_among x.name dead ≡ d → k ≡ not d
      by true true kept among =
          let d = (cleared.dead_are.each x.name).0 among in
          absurd (false≢true (sym d.unmarked ∙ (ap (λ e. is_in e marked) (m.decodes.objects.once d.address a d.thing x d.is is d.name) ∙ kept)))
      by true false kept apart = refl
      by false true lost among = refl
      by false false lost apart =
          absurd (false≢true (sym apart ∙ (cleared.dead_are.each x.name).1 (record { address = a; thing = x; is = is; unmarked = lost; name = refl })))

  -- Those that are left.

  pub survivor-left : (n : Name) → IsTrue (is_among n (survivors b)) → IsTrue (is_among n (names_left u))
  survivor-left n among =
      let parts = from-filter (λ k. is_among k (reachable b.plain)) (names_placed b.present) n among in
      let o = present-object t roots made b m n parts.1 in
      let kept = (ends o.0 o.1.0 o.1.1).1 (subst (λ (k : Name). IsTrue (is_among k (reachable b.plain))) (sym o.1.2) parts.0) in
      subst (λ (k : Name). IsTrue (is_among k (names_left u))) o.1.2
      (left-name u o.0 o.1.0 cleared.now (is-left (things_of t) (things_of u) marked left o.0 o.1.0 o.1.1 kept))

  left-survivor : (n : Name) → IsTrue (is_among n (names_left u)) → IsTrue (is_among n (survivors b))
  left-survivor n among =
      let o = name-left u n among in
      let old = was (things_of t) (things_of u) marked left o.0 o.1.0 o.1.1 in
      in-filter (λ k. is_among k (reachable b.plain)) (names_placed b.present) n
      (subst (λ (k : Name). IsTrue (is_among k (reachable b.plain))) o.1.2 ((ends o.0 o.1.0 old.1).0 old.0))
      (subst (λ (k : Name). IsTrue (is_among k (names_placed b.present))) o.1.2 (shown-object t roots made b m o.0 o.1.0 old.1).0)

  -- no two of them have one name
  pub once-left : (a d : ℕ) → is_in a (starts_of u) ≡ true → is_in d (starts_of u) ≡ true → name_at u a ≡ name_at u d → a ≡ d
  once-left a d one two same =
      let x = start-is u (u.shape.regions * u.shape.words) a one in
      let y = start-is u (u.shape.regions * u.shape.words) d two in
      m.decodes.objects.once a d x.0 y.0 (was (things_of t) (things_of u) marked left a x.0 x.1).1 (was (things_of t) (things_of u) marked left d y.0 y.1).1
      (sym (ap name_of x.1) ∙ (same ∙ ap name_of y.1))

  pub many-left : length (starts_of u) ≡ length (survivors b)
  many-left =
      sym (length-map (starts_of u) (name_at u))
      ∙ same-long (names_left u) (survivors b)
      (told-apart (name_at u) (starts_of u) (starts-ascend u (u.shape.regions * u.shape.words)) once-left)
      (distinct-ascending (survivors b) (ascending-filter (λ k. is_among k (reachable b.plain)) (names_placed b.present) m.decodes.ascending))
      left-survivor survivor-left
