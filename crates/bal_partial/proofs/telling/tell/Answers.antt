use Rattle.std.proofs.Common.{◌≡◌, ◌*◌, ◌<◌, ◌⊎◌, ℕ, List, ap, arith, length, map, refl, subst, sym, ◌∙◌}
use Rattle.std.specs.Prelude.{◌↔◌, All, IsTrue, filter}
use Rattle.std.specs.List.Sorted.{IsPermutation}
use Rattle.std.proofs.lemmas.List.{length-replicate}
use Rattle.bal_copyfwd.specs.Moving.{is_marked_at}
use Rattle.bal_core.specs.Start.{name_of}
use Rattle.bal_core.specs.Steps.{told}
use Rattle.bal_core.specs.World.{At}
use Rattle.bal_core.specs.declared.event.Decision.TheVariants as decision
use Rattle.bal_core.specs.declared.row.Told.{Told}
use Rattle.bal_evacuate.specs.Course.{Course, decision_of}
use Rattle.bal_evacuate.specs.Plan.{shown}
use Rattle.bal_gather.specs.Lent.{Lent}
use Rattle.bal_gather.specs.Numbers.{starts_of}
use Rattle.bal_gather.specs.Objects.{graph_of}
use Rattle.bal_layout.specs.Addresses.{IsAddress}
use Rattle.bal_layout.specs.Regions.{is_in}
use Rattle.bal_layout.specs.Shape.{Shape}
use Rattle.bal_model.specs.declared.event.Kept.{Kept}
use Rattle.bal_partial.specs.Collection.{Collection, lent_by, marked_of, plan_of, seen_of}
use Rattle.bal_partial.specs.Evacuating.{HasCopy, MayTell}
use Rattle.bal_partial.proofs.EvacuationTold.{copies-within, decided-within, each-tellable, few-won, marked-within, named-apart, survivor-regions}
use Rattle.bal_partial.proofs.SurvivorRegions.{LiesIn}
use Rattle.bal_partial.proofs.telling.tell.Goals as goal
use Rattle.bal_partial.proofs.telling.tell.Goals.{After-tell_addresses, After-geometry-geometry}
use Rattle.bal_table.specs.Moves.{Forwarding}
use Rattle.bal_told.specs.Telling.{IsTellable, causes_of, survivors_of, told_as}

-- what was numbered and decided is that of the collection

shape-of : (x : Collection) (roots : List ℕ) (l : Lent) (e : Course) → MayTell x roots l e → l.table.shape ≡ x.table.shape
shape-of x roots l e m = ap (λ (n : Lent). n.table.shape) (sym m.lent)

marked-same : (x : Collection) (roots : List ℕ) (l : Lent) (e : Course) → MayTell x roots l e
    → filter (is_marked_at l (decision_of e)) (starts_of l) ≡ marked_of x
marked-same x roots l e m =
    ap (λ (n : Lent). filter (is_marked_at n (decision_of e)) (starts_of n)) (sym m.lent)
    ∙ ap (λ (d : Course). filter (is_marked_at (lent_by x) (decision_of d)) (starts_of (lent_by x))) (sym m.course)

geometry : (c : After-geometry-geometry) (x : Collection) (roots : List ℕ) → MayTell x roots c.args.numbered.now c.args.evacuated.now
    → c.geometry-geometry.result ≡ x.table.shape
geometry c x roots m =
    c.geometry-geometry.ensures.shape ∙ (ap (λ (n : Lent). n.table.shape) c.chosen.ensures ∙ shape-of x roots c.args.numbered.now c.args.evacuated.now m)

pub tell_addresses-requires-clause-within : goal.tell_addresses-requires-clause-within
tell_addresses-requires-clause-within c = λ k a decided.
    let x = c.requires.is.0 in
    let roots = c.requires.is.1 in
    let m = c.requires.is.2 in
    let l = c.args.numbered.now in
    let e = c.args.evacuated.now in
    let within : IsAddress x.table.shape a
    = decided-within x roots m.is c.survivors_are_told_worker_by_worker.ensures.tellable c.decisions_are_those_that_were_told.ensures.told k a
    (ap (λ (d : Course). decision_of d k) m.course ∙ decided) in
    let words : length c.clear.new.self.words ≡ l.table.shape.regions * l.table.shape.words
    = ap (λ (f : Forwarding). length f.words) c.clear.ensures ∙ (length-replicate {A = ℕ} (length c.args.moves.now.words) 0 ∙ c.requires.heap) in
    subst (λ n. a < n) (sym words) (subst (λ (s : Shape). IsAddress s a) (sym (shape-of x roots l e m)) within)

pub tell_regions-requires-clause-copies : goal.tell_regions-requires-clause-copies
tell_regions-requires-clause-copies c = λ i k a at.
    let x = c.requires.is.0 in
    let roots = c.requires.is.1 in
    let m = c.requires.is.2 in
    let g = geometry (goal.at.tell_regions-requires-clause-copies c).After-geometry-geometry x roots m in
    subst (λ (s : Shape). IsAddress s a) (sym g)
    (copies-within x roots m.is c.survivors_are_told_worker_by_worker.ensures.tellable i k a
    (subst (λ (w : List Told). At w i (told k (decision.Copied a))) (c.won.ensures ∙ ap (λ (d : Course). d.won) (sym m.course)) at))

pub tell_regions-requires-clause-marked : goal.tell_regions-requires-clause-marked
tell_regions-requires-clause-marked c = λ a among.
    let x = c.requires.is.0 in
    let roots = c.requires.is.1 in
    let m = c.requires.is.2 in
    let g = geometry (goal.at.tell_regions-requires-clause-marked c).After-geometry-geometry x roots m in
    let same = c.as_slice.ensures ∙ (c.tell_addresses.ensures.marked ∙ marked-same x roots c.args.numbered.now c.args.evacuated.now m) in
    subst (λ (s : Shape). IsAddress s a) (sym g)
    (marked-within x roots m.is c.objects_are_numbered_by_address.ensures.listed a (subst (λ (ns : List ℕ). IsTrue (is_in a ns)) same among))

pub tell_kept-requires-clause-tellable : goal.tell_kept-requires-clause-tellable
tell_kept-requires-clause-tellable c =
    let x = c.requires.is.0 in
    let roots = c.requires.is.1 in
    let m = c.requires.is.2 in
    let g = geometry (goal.at.tell_kept-requires-clause-tellable c).After-geometry-geometry x roots m in
    let l = c.args.numbered.now in
    let base = each-tellable x roots m.is c.survivors_are_told_worker_by_worker.ensures.tellable in
    let lent : All (IsTellable x.table.shape (length (graph_of l).ages)) x.course.won
    = subst (λ (n : Lent). All (IsTellable x.table.shape (length (graph_of n).ages)) x.course.won) m.lent base in
    subst (λ (s : Shape). All (IsTellable s (length (graph_of l).ages)) c.won-2.result.now) (sym g)
    (subst (λ (w : List Told). All (IsTellable x.table.shape (length (graph_of l).ages)) w) (ap (λ (d : Course). d.won) m.course ∙ sym c.won-2.ensures) lent)

pub tell_kept-requires-clause-room : goal.tell_kept-requires-clause-room
tell_kept-requires-clause-room c =
    let x = c.requires.is.0 in
    let roots = c.requires.is.1 in
    let m = c.requires.is.2 in
    let few = few-won x roots m.is c.survivors_are_told_worker_by_worker.ensures.tellable in
    omega (
      arith,
      few,
      c.requires.room.kept,
      ap (λ (n : Lent). length (starts_of n)) m.lent,
      ap (λ (w : List Told). length w) c.won-2.ensures,
      ap (λ (d : Course). length d.won) m.course,
    )

just-of : (s u : Shape) (w v : List Told) (ms ns : List ℕ) (q : ℕ) (A : Type 0) → s ≡ u → w ≡ v → ms ≡ ns
    → (A ↔ (HasCopy s w (length w) q ⊎ LiesIn s ms q)) → (A ↔ (HasCopy u v (length v) q ⊎ LiesIn u ns q))
just-of s u w v ms ns q A shape won marked just =
    subst (λ (y : Shape). A ↔ (HasCopy y v (length v) q ⊎ LiesIn y ns q)) shape
    (subst (λ (y : List Told). A ↔ (HasCopy s y (length y) q ⊎ LiesIn s ns q)) won
    (subst (λ (y : List ℕ). A ↔ (HasCopy s w (length w) q ⊎ LiesIn s y q)) marked just))

pub returns-clause-regions : goal.returns-clause-regions
returns-clause-regions c = λ x roots m.
    let g = geometry (goal.at.returns-clause-regions c).After-geometry-geometry x roots m in
    let won = c.won.ensures ∙ ap (λ (d : Course). d.won) (sym m.course) in
    let marked = c.as_slice.ensures ∙ (c.tell_addresses.ensures.marked ∙ marked-same x roots c.args.numbered.now c.args.evacuated.now m) in
    survivor-regions x roots m.is c.tell_regions.new.regions.list c.tell_regions.ensures.ascending (λ q.
    just-of c.geometry-geometry.result x.table.shape c.won.result.now x.course.won c.as_slice.result.now (marked_of x) q
    (IsTrue (is_in q c.tell_regions.new.regions.list)) g won marked (c.tell_regions.ensures.just q))

pub returns-clause-told : goal.returns-clause-told
returns-clause-told c = λ x roots m.
    let g = geometry (goal.at.returns-clause-told c).After-geometry-geometry x roots m in
    let e = seen_of x in
    let l = c.args.numbered.now in
    let numbers = c.objects_are_numbered_by_address.ensures in
    let same : map (told_as c.geometry-geometry.result (map name_of (graph_of l).words) 0) c.won-2.result.now ≡ survivors_of e
    = ap (λ (s : Shape). map (told_as s (map name_of (graph_of l).words) 0) c.won-2.result.now) g
    ∙ (ap (λ (n : Lent). map (told_as x.table.shape (map name_of (graph_of n).words) 0) c.won-2.result.now) (sym m.lent)
    ∙ (ap (λ (w : List Told). map (told_as x.table.shape (map name_of (graph_of (lent_by x)).words) 0) w) (c.won-2.ensures ∙ ap (λ (d : Course). d.won) (sym m.course))
    ∙ sym (c.survivors_are_told_worker_by_worker.ensures.alone e refl))) in
    c.sorted_survivors_are_told.ensures e c.tell_kept.new.kept.list m.is.evacuation.copied.evacuated
    (named-apart x roots m.is numbers.listed numbers.number c.the_world_tells_the_objects.ensures.name)
    (subst (λ (ks : List Kept). IsPermutation ks c.tell_kept.new.kept.list) same c.tell_kept.ensures.same) c.tell_kept.ensures.ascending

pub returns-clause-causes : goal.returns-clause-causes
returns-clause-causes c = λ x roots m.
    c.tell_causes.ensures (plan_of x) ∙ ap (λ (d : Course). causes_of (shown (plan_of x) d)) (sym m.course)
