-- No event that may come before a row's own one takes away what is held: the board stays sound.
use Rattle.std.proofs.Common.{◌≡◌, ℕ, Bool, true, false, not, ◌||◌, IsTrue, List, [], ◌∷◌, Option, Some, None, cond, filter, inl, inr, refl, ap, sym, subst, ◌∙◌}
use Rattle.std.specs.List.{list_any}
use Rattle.std.proofs.lemmas.Bool.{cases_Bool, or_cases, or_left, or_right, not-true, not_from_false, both_ways}
use Rattle.bal_layout.specs.declared.name.Name.{Name}
use Rattle.bal_model.specs.declared.config.Config.{Config}
use Rattle.bal_model.specs.declared.event.Kept.{Kept}
use Rattle.bal_model.specs.declared.event.Packed.{Packed}
use Rattle.bal_rules.specs.After.{after}
use Rattle.bal_layout.specs.Regions.{is_in}
use Rattle.bal_rules.specs.Board.{Board, Cycle, Placed, names_placed, placed_except, is_present}
use Rattle.bal_model.specs.Entries.{Entry, note, partial, begin, mark, end, global}
use Rattle.bal_rules.specs.GlobalEvents.{IsGlobal, placed_after_packing, after_global}
use Rattle.bal_rules.specs.Interim.{Rule}
use Rattle.bal_model.specs.Kept.{kept_ground, outside_of}
use Rattle.bal_rules.specs.MarkEvents.{IsEnd, IsSweep, InCycle, after_begin, after_mark, after_end}
use Rattle.bal_layout.specs.Names.{is_among, same_name}
use Rattle.bal_rules.specs.NoteEvents.{after_note}
use Rattle.bal_rules.specs.PartialEvents.{IsPartial, after_partial, names_lost, placed_after_partial, placed_as_kept, names_kept, placed_in, region_as_kept}
use Rattle.bal_rules.specs.Path.{Turn, Stage, opened, marking, ending, collected, IsLegal}
use Rattle.bal_model.specs.Plain.{State}
use Rattle.bal_model.specs.Walk.{Ground, EndsWalk, graph_ground, reachable, root_names, targets}
use Rattle.bal_model.proofs.Lemmas.{at-ends, ends-complete, ends-sound, from-filter, in-filter, passes-some, walk-begins, walk-goes}
use Rattle.bal_rules.specs.Sound.{IsSound, IsMade, IsAscending}
use Rattle.bal_rules.proofs.ListFacts.{ascending-filter, ascending-map-filter, ends-ascend, names_placed-filter, names_placed-map, all-among, made-among}

-- The same graph with fewer present names.

-- a test that fails doesn't pass
not-both : (b : Bool) → IsTrue b → IsTrue (not b) → ⊥
not-both b h k = both_ways b (not-true b k) h

-- a sound board without some names is sound, where none of them is held by a register, a global or what stays
pub sound-without : (b d : Board) (gone : List Name) → d.plain ≡ b.plain → names_placed d.present ≡ filter (λ x. not (is_among x gone)) (names_placed b.present)
    → ((x : Name) → IsTrue (is_among x (root_names b.plain)) → IsTrue (is_among x gone) → ⊥)
    → ((x y : Name) → IsTrue (is_present b x) → IsTrue (not (is_among x gone)) → IsTrue (is_among y (targets b.plain x)) → IsTrue (is_among y gone) → ⊥)
    → IsSound b → IsSound d
sound-without b d gone same names held referred sound =
    let stays : Name → Bool = λ x. not (is_among x gone) in
    let there : (x : Name) → IsTrue (is_present b x) → (IsTrue (is_among x gone) → ⊥) → IsTrue (is_present d x) =
    λ x h k. ap (is_among x) names ∙ in-filter stays (names_placed b.present) x (by (is_among x gone) k) h in
    let was : (x : Name) → IsTrue (is_present d x) → IsTrue (stays x) × IsTrue (is_present b x) =
    λ x h. from-filter stays (names_placed b.present) x (sym (ap (is_among x) names) ∙ h) in
    record {
      ascending = subst IsAscending (sym names) (ascending-filter stays (names_placed b.present) sound.ascending);
      made = λ x h. subst (λ (s : State). IsMade s x) (sym same) (sound.made x (was x h).1);
      roots = λ x h. let root = subst (λ (s : State). IsTrue (is_among x (root_names s))) same h in there x (sound.roots x root) (held x root);
      closed = λ x y h k.
          let before = was x h in
          let target = subst (λ (s : State). IsTrue (is_among y (targets s x))) same k in
          there y (sound.closed x y before.1 target) (referred x y before.1 before.0 target);
    }
  where
    by : (t : Bool) → (IsTrue t → ⊥) → IsTrue (not t)
    by true h = absurd (h refl)
    by false h = refl

-- where no name goes, a sound board stays sound
pub sound-same : (b d : Board) → d.plain ≡ b.plain → names_placed d.present ≡ names_placed b.present → IsSound b → IsSound d
sound-same b d same names sound = record {
  ascending = subst IsAscending (sym names) sound.ascending;
  made = λ x h. subst (λ (s : State). IsMade s x) (sym same) (sound.made x (sym (ap (is_among x) names) ∙ h));
  roots = λ x h. ap (is_among x) names ∙ sound.roots x (subst (λ (s : State). IsTrue (is_among x (root_names s))) same h);
  closed = λ x y h k. ap (is_among y) names ∙ sound.closed x y (sym (ap (is_among x) names) ∙ h) (subst (λ (s : State). IsTrue (is_among y (targets s x))) same k);
}

-- What can be reached on a sound board.

-- each present name is one of all names
present-inside : (b : Board) (x : Name) → IsSound b → IsTrue (is_present b x) → IsTrue (is_among x (graph_ground b.plain).inside)
present-inside b x sound h = made-among b.plain x (sound.made x h)

root-reachable : (b : Board) (x : Name) → IsSound b → IsTrue (is_among x (root_names b.plain)) → IsTrue (is_among x (reachable b.plain))
root-reachable b x sound h =
    ends-complete (graph_ground b.plain) x (walk-begins (graph_ground b.plain) x (present-inside b x sound (sound.roots x h)) h)

target-reachable : (b : Board) (x y : Name) → IsSound b → IsTrue (is_present b x) → IsTrue (is_among x (reachable b.plain)) → IsTrue (is_among y (targets b.plain x)) → IsTrue (is_among y (reachable b.plain))
target-reachable b x y sound here h k =
    let g = graph_ground b.plain in
    ends-complete g y (walk-goes g x y (ends-sound g x h) (present-inside b y sound (sound.closed x y here k)) k)

-- what can be reached is present
pub reachable-present : (b : Board) → IsSound b → (x : Name) → EndsWalk (graph_ground b.plain) x → IsTrue (is_present b x)
reachable-present b sound =
    at-ends (graph_ground b.plain) (λ x. IsTrue (is_present b x)) (λ x inside begins. sound.roots x begins) (λ x y here inside refers. sound.closed x y here refers)

-- The kinds of events.

pub sound-note : (c : Config) (b : Board) (q card : ℕ) → IsSound b → IsSound (after_note c b q card)
sound-note c b q card sound = sound-same b (after_note c b q card) refl refl sound

pub sound-begin : (b : Board) → IsSound b → IsSound (after_begin b)
sound-begin b sound = sound-same b (after_begin b) refl refl sound

pub sound-mark : (b : Board) (names : List Name) → IsSound b → IsSound (after_mark b names)
sound-mark b names sound = sound-same b (after_mark b names) refl refl sound

-- the end of a mark cycle leaves what can be reached, and what the present objects that stay refer to
sound-sweep : (c : Config) (b : Board) (dead : List Name) (cycle : Cycle) → IsSound b → IsSweep b dead cycle → IsSound (after_end c b dead)
sound-sweep c b dead cycle sound h =
    sound-without b (after_end c b dead) dead refl (names_placed-filter (λ x. not (is_among x dead)) b.present)
    (λ x root dies. not-both (is_among x (reachable b.plain)) (root-reachable b x sound root)
    (all-among (λ (x : Name). IsTrue (not (is_among x (reachable b.plain)))) dead x h.reachable_stays dies))
    (λ x y here stays target dies.
    let refers = list_any (λ y. is_among y dead) (targets b.plain x) in
    let cases = all-among (λ (x : Name). IsTrue (is_among x dead || not (list_any (λ y. is_among y dead) (targets b.plain x)))) (names_placed b.present) x h.none_refers here in
    elim (or_cases (is_among x dead) (not refers) cases) [
      | inl gone ↦ not-both (is_among x dead) gone stays
      | inr none ↦ not-both refers (passes-some (λ y. is_among y dead) (targets b.plain x) y target dies) none
    ])
    sound

pub sound-end : (c : Config) (b : Board) (dead : List Name) → IsSound b → IsEnd b dead → IsSound (after_end c b dead)
sound-end c b dead sound h = by b.cycle h
  where
    by : (cycle : Option Cycle) → InCycle cycle (IsSweep b dead) → IsSound (after_end c b dead)
    by None h = absurd h
    by (Some cycle) h = sound-sweep c b dead cycle sound h

-- a packing leaves what doesn't hang on the region
pub repacked-keeps : {A : Type 0} (f : Placed → A) → ((p : Placed) (q : ℕ) → f (record p { region = q }) ≡ f p) → (packed : List Packed) (p : Placed) → f (placed_after_packing packed p) ≡ f p
repacked-keeps f same [] p = refl
repacked-keeps f same (k ∷ ks) p = by (same_name k.name p.name) (repacked-keeps f same ks p)
  where
    by : (t : Bool) → f (placed_after_packing ks p) ≡ f p → f (cond t (record p { region = k.region }) (placed_after_packing ks p)) ≡ f p
    by true e = same p k.region
    by false e = e

-- so it leaves the names of what it moves
pub repacked-name : (packed : List Packed) (p : Placed) → (placed_after_packing packed p).name ≡ p.name
repacked-name = repacked-keeps (λ p. p.name) (λ p q. refl)

-- a global collection leaves what can be reached
pub sound-global : (c : Config) (b : Board) (dead : List Name) (packed : List Packed) → IsSound b → IsGlobal c b dead packed → IsSound (after_global c b dead packed)
sound-global c b dead packed sound h =
    let reached : Name → Bool = λ x. is_among x (reachable b.plain) in
    let unreached : Name → Bool = λ x. not (reached x) in
    let is_dead : (x : Name) → IsTrue (unreached x) → IsTrue (is_present b x) → IsTrue (is_among x dead) =
    λ x no here. ap (is_among x) h.just_the_garbage ∙ in-filter unreached (names_placed b.present) x no here in
    let was_unreached : (x : Name) → IsTrue (is_among x dead) → IsTrue (unreached x) =
    λ x dies. (from-filter unreached (names_placed b.present) x (sym (ap (is_among x) h.just_the_garbage) ∙ dies)).0 in
    sound-without b (after_global c b dead packed) dead refl
    (names_placed-map (placed_after_packing packed) (repacked-name packed) (placed_except dead b.present) ∙ names_placed-filter (λ x. not (is_among x dead)) b.present)
    (λ x root dies. not-both (reached x) (root-reachable b x sound root) (was_unreached x dies))
    (λ x y here stays target dies. elim (cases_Bool (reached x)) [
      | inl live ↦ not-both (reached y) (target-reachable b x y sound here live target) (was_unreached y dies)
      | inr garbage ↦ not-both (is_among x dead) (is_dead x (not_from_false (reached x) garbage) here) stays
    ])
    sound

-- and so does a partial collection
pub moved-keeps : {A : Type 0} (f : Placed → A) → ((p : Placed) (q : ℕ) → f (record p { region = q }) ≡ f p) → (kept : List Kept) (p : Placed) → f (placed_after_partial kept p) ≡ f p
moved-keeps f same [] p = refl
moved-keeps f same (k ∷ ks) p = by (same_name k.name p.name) (moved-keeps f same ks p)
  where
    by : (t : Bool) → f (placed_after_partial ks p) ≡ f p → f (cond t (placed_as_kept k p) (placed_after_partial ks p)) ≡ f p
    by true e = same p (region_as_kept k.how p.region)
    by false e = e

pub moved-name : (kept : List Kept) (p : Placed) → (placed_after_partial kept p).name ≡ p.name
moved-name = moved-keeps (λ p. p.name) (λ p q. refl)

-- Partial collections.

-- the names that lie in the chosen regions
abbrev chosen_names : Board → List ℕ → List Name
chosen_names b chosen = names_placed (placed_in chosen b)

-- where the walks go that keep them
abbrev pub keeping : Board → List ℕ → Ground
keeping b chosen = kept_ground b.plain (names_placed b.present) (chosen_names b chosen)

pub kept-walked : (c : Config) (b : Board) (chosen : List ℕ) (scans : ℕ) (kept : List Kept) → IsPartial c b chosen scans kept
    → (x : Name) → IsTrue (is_among x (names_kept kept)) → EndsWalk (keeping b chosen) x
kept-walked c b chosen scans kept h x i = ends-sound (keeping b chosen) x (sym (ap (is_among x) h.just_the_kept) ∙ i)

pub walked-kept : (c : Config) (b : Board) (chosen : List ℕ) (scans : ℕ) (kept : List Kept) → IsPartial c b chosen scans kept
    → (x : Name) → EndsWalk (keeping b chosen) x → IsTrue (is_among x (names_kept kept))
walked-kept c b chosen scans kept h x walk = ap (is_among x) h.just_the_kept ∙ ends-complete (keeping b chosen) x walk

pub kept-ascends : (c : Config) (b : Board) (chosen : List ℕ) (scans : ℕ) (kept : List Kept) → IsSound b → IsPartial c b chosen scans kept → IsAscending (names_kept kept)
kept-ascends c b chosen scans kept sound h =
    subst IsAscending (sym h.just_the_kept)
    (ends-ascend (keeping b chosen) (ascending-map-filter (λ (p : Placed). p.name) (λ p. is_in p.region chosen) b.present sound.ascending))

-- a name is lost that lies in the chosen regions and isn't kept
lost-parts : (b : Board) (chosen : List ℕ) (kept : List Kept) (x : Name) → IsTrue (is_among x (names_lost b chosen kept)) → IsTrue (not (is_among x (names_kept kept))) × IsTrue (is_among x (chosen_names b chosen))
lost-parts b chosen kept x i = from-filter (λ x. not (is_among x (names_kept kept))) (chosen_names b chosen) x i

-- a partial collection leaves what walks inside the chosen regions reach from what is held outside of them
pub sound-partial : (c : Config) (b : Board) (chosen : List ℕ) (scans : ℕ) (kept : List Kept) → IsSound b → IsPartial c b chosen scans kept → IsSound (after_partial c b chosen kept)
sound-partial c b chosen scans kept sound h =
    let names = chosen_names b chosen in
    let g = keeping b chosen in
    let is_kept : Name → Bool = λ x. is_among x (names_kept kept) in
    let keeps = walked-kept c b chosen scans kept h in
    sound-without b (after_partial c b chosen kept) (names_lost b chosen kept) refl
    (names_placed-map (placed_after_partial kept) (moved-name kept) (placed_except (names_lost b chosen kept) b.present) ∙ names_placed-filter (λ x. not (is_among x (names_lost b chosen kept))) b.present)
    (λ x root gone.
    let parts = lost-parts b chosen kept x gone in
    let held = or_left (is_among x (root_names b.plain)) (list_any (λ y. is_among x (targets b.plain y)) (outside_of names (names_placed b.present))) root in
    not-both (is_kept x) (keeps x (walk-begins g x parts.1 held)) parts.0)
    (λ x y here stays target gone.
    let parts = lost-parts b chosen kept y gone in
    elim (cases_Bool (is_among x names)) [
      | inl inside ↦ (elim (cases_Bool (is_kept x)) [
        | inl stayed ↦ not-both (is_kept y) (keeps y (walk-goes g x y (kept-walked c b chosen scans kept h x stayed) parts.1 target)) parts.0
        | inr unkept ↦ not-both (is_among x (names_lost b chosen kept)) (in-filter (λ x. not (is_kept x)) names x (not_from_false (is_kept x) unkept) inside) stays
      ])
      | inr outside ↦ (
          let there = in-filter (λ x. not (is_among x names)) (names_placed b.present) x (not_from_false (is_among x names) outside) here in
          let refers = passes-some (λ z. is_among y (targets b.plain z)) (outside_of names (names_placed b.present)) x there target in
          let held = or_right (is_among y (root_names b.plain)) (list_any (λ z. is_among y (targets b.plain z)) (outside_of names (names_placed b.present))) refers in
          not-both (is_kept y) (keeps y (walk-begins g y parts.1 held)) parts.0
          )
    ])
    sound

-- Each event that may come before a row's own one.
pub sound-legal : (rule : Rule) (c : Config) (turn : Turn) (stage : Stage) (b : Board) (e : Entry) → IsSound b → IsLegal rule c turn stage b e → IsSound (after c b e)
sound-legal rule c turn (opened noted) b (note q card holder slot) sound h = sound-note c b q card sound
sound-legal rule c turn (opened noted) b (partial chosen scans kept aborts) sound h = sound-partial c b chosen scans kept sound h.1.partial
sound-legal rule c turn (opened noted) b (global dead packed) sound h = sound-global c b dead packed sound h.1
sound-legal rule c turn marking b begin sound h = sound-begin b sound
sound-legal rule c turn marking b (mark names) sound h = sound-mark b names sound
sound-legal rule c turn ending b (end dead) sound h = sound-end c b dead sound h
sound-legal rule c turn collected b (global dead packed) sound h = sound-global c b dead packed sound h.1
sound-legal rule c turn stage b e sound h = absurd h

-- What the other collections take.

-- a global collection takes what no walk reaches
pub dead-unreached : (c : Config) (b : Board) (dead : List Name) (packed : List Packed) → IsGlobal c b dead packed → (x : Name) → IsTrue (is_among x dead)
    → IsTrue (is_present b x) × (EndsWalk (graph_ground b.plain) x → ⊥)
dead-unreached c b dead packed h x dies =
    let passes = from-filter (λ y. not (is_among y (reachable b.plain))) (names_placed b.present) x (sym (ap (is_among x) h.just_the_garbage) ∙ dies) in
    (passes.1, λ walk. not-both (is_among x (reachable b.plain)) (ends-complete (graph_ground b.plain) x walk) passes.0)

pub unreached-dead : (c : Config) (b : Board) (dead : List Name) (packed : List Packed) → IsGlobal c b dead packed → (x : Name)
    → IsTrue (is_present b x) → (EndsWalk (graph_ground b.plain) x → ⊥) → IsTrue (is_among x dead)
unreached-dead c b dead packed h x here unreached =
    ap (is_among x) h.just_the_garbage
    ∙ in-filter (λ y. not (is_among y (reachable b.plain))) (names_placed b.present) x
    (neither (is_among x (reachable b.plain)) (λ reached. unreached (ends-sound (graph_ground b.plain) x reached))) here
  where
    neither : (t : Bool) → (IsTrue t → ⊥) → IsTrue (not t)
    neither true h = absurd (h refl)
    neither false h = refl

-- the end of a mark cycle takes nothing that a walk reaches
pub swept-unreached : (b : Board) (dead : List Name) → IsEnd b dead → (x : Name) → IsTrue (is_among x dead) → EndsWalk (graph_ground b.plain) x → ⊥
swept-unreached b dead h x dies walk = by b.cycle h
  where
    by : (cycle : Option Cycle) → InCycle cycle (IsSweep b dead) → ⊥
    by None h = h
    by (Some cycle) h = not-both (is_among x (reachable b.plain)) (ends-complete (graph_ground b.plain) x walk) (all-among (λ y. IsTrue (not (is_among y (reachable b.plain)))) dead x h.reachable_stays dies)
