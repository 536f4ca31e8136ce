-- A heap that was marked and swept, and what a compaction asks of it.
use Rattle.std.proofs.Common.{◌≡◌, ℕ, ◌*◌, ◌≤◌, ◌↔◌, IsTrue, List, [], ◌++◌, length, ap, subst, sym, ◌∙◌}
use Rattle.std.specs.Prelude.{All, is_some}
use Rattle.std.specs.List.{range_with_len}
use Rattle.bal_layout.specs.Graph.{Graph}
use Rattle.bal_layout.specs.Regions.{is_in}
use Rattle.bal_layout.specs.Shape.{Shape}
use Rattle.bal_layout.specs.declared.name.Name.{Name}
use Rattle.bal_plan.specs.Plan.{starts_below, starts_of}
use Rattle.bal_rebuild.specs.Rebuilt.{with_empty_lists}
use Rattle.bal_sweep.specs.Dead.{AreTheDead}
use Rattle.bal_sweep.specs.Sweep.{IsSwept}
use Rattle.bal_table.specs.Table.{IsTable, Table, things_of}
use Rattle.bal_words.specs.Paths.{EndsPath}
use Rattle.bal_words.specs.Shown.{Finds, Shows}
use Rattle.bal_words.proofs.Lemmas.{there}
use Rattle.bal_global.specs.Cleared.{IsCleared}
use Rattle.bal_global.proofs.Left.{found-left, shows-left, was}
use Rattle.bal_global.proofs.Marked.{closed-marked, held-marked}
use Rattle.bal_global.proofs.Named.{graph_left, kept-left}
use Rattle.bal_global.proofs.Numbers.{fewer-pass}

pub cleared : (t v u : Table) (roots marked : List ℕ) (before dead : List Name) → IsTable t → IsTable u → v ≡ with_empty_lists t
    → ((a : ℕ) → IsTrue (is_in a marked) ↔ EndsPath (things_of v) roots a) → IsSwept marked v u → before ≡ []
    → ((names : List Name) × ((dead ≡ before ++ names) × AreTheDead marked v names)) → IsCleared t u roots marked dead
cleared t v u roots marked before dead table now emptied reached swept none told = record {
  table = table;
  now = now;
  reached = subst (λ (w : Table). (a : ℕ) → IsTrue (is_in a marked) ↔ EndsPath (things_of w) roots a) emptied reached;
  swept = subst (λ (w : Table). IsSwept marked w u) emptied swept;
  dead_are = subst (AreTheDead marked (with_empty_lists t)) (sym (told.1.0 ∙ ap (λ (ns : List Name). ns ++ told.0) none))
      (subst (λ (w : Table). AreTheDead marked w told.0) emptied told.1.1);
}

module _ (t u : Table) (roots marked : List ℕ) (dead : List Name) (h : IsCleared t u roots marked dead) where
  pub shows-cleared : (g : Graph) → Shows (things_of t) g → Shows (things_of u) (graph_left g u)
  shows-cleared g s =
      shows-left (things_of t) (things_of u) marked h.swept.objects g (graph_left g u) s (closed-marked (things_of t) roots marked h.reached)
      (kept-left (things_of t) u marked g h.now h.swept.objects)

  pub held-cleared : All (Finds (things_of t)) roots → All (Finds (things_of u)) roots
  held-cleared found = found-left (things_of t) (things_of u) marked h.swept.objects roots found (held-marked (things_of t) roots marked h.reached)

  -- there are no more objects than before
  pub few-cleared : length (starts_of u) ≤ length (starts_of t)
  few-cleared =
      subst (λ (s : Shape). length (starts_below u (s.regions * s.words)) ≤ length (starts_of t)) (sym h.swept.shape)
      (fewer-pass (λ a. is_some (things_of u a)) (λ a. is_some (things_of t a)) (range_with_len 0 (t.shape.regions * t.shape.words))
      (λ a some. let x = there (things_of u a) some in ap is_some (was (things_of t) (things_of u) marked h.swept.objects a x.0 x.1).1))
