-- What the table is after an evacuation, once its regions are put back.
use Rattle.std.proofs.Common.{◌≡◌, ℕ, zero, suc, List, [], Option, Some, None, ap, sym, subst, ◌∙◌}
use Rattle.std.specs.Prelude.{option_and_then, slice_get, unwrap_or}
use Rattle.std.proofs.lemmas.List.{get_or-map}
use Rattle.std.proofs.lemmas.Option.{get_or_from_slice_get, none-some, slice_get_within}
use Rattle.bal_core.specs.declared.event.Decision.{Decision}
use Rattle.bal_core.specs.Core.{IsCore}
use Rattle.bal_core.specs.Start.{start_of}
use Rattle.bal_core.specs.Steps.{told}
use Rattle.bal_core.specs.World.{At, row_of}
use Rattle.bal_core.proofs.Lemmas.{core-all, start-core}
use Rattle.bal_evacuate.specs.Course.{Course, decision_of, state_of}
use Rattle.bal_evacuate.specs.Plan.{Plan, numbers_of, words_in, world_for}
use Rattle.bal_gather.specs.Lent.{Lent}
use Rattle.bal_gather.specs.Numbers.{starts_of}
use Rattle.bal_gather.specs.Objects.{graph_of, words_at}
use Rattle.bal_layout.specs.Shape.{IsShape}
use Rattle.bal_table.specs.Table.{Table, thing_in}
use Rattle.bal_words.specs.Things.{Thing}
use Rattle.bal_copyfwd.specs.Returned.{IsEvacuationOf, lent_of}

-- the object that was copied has the words of its number
pub words-of : (l : Lent) (k a : ℕ) → slice_get (starts_of l) k ≡ Some a → words_in (graph_of l) k ≡ words_at l.table a
words-of l k a is =
    get_or-map (words_at l.table) (starts_of l) k 0 [] (slice_get_within (starts_of l) k a is) ∙ ap (words_at l.table) (get_or_from_slice_get (starts_of l) k a 0 is)

-- and what has its words is the same thing
pub thing-of : (o : Option (List ℕ)) (x : Thing) → option_and_then thing_in o ≡ Some x → thing_in (unwrap_or o []) ≡ Some x
thing-of None x is = absurd (none-some x is)
thing-of (Some words) x is = is

module _ (t : Table) (chosen : List ℕ) (p : Plan) (c : Course) (e : IsEvacuationOf t chosen p c) where
  abbrev l : Lent
  l = lent_of t chosen

  pub core : IsCore (state_of (world_for p) c)
  core =
      subst IsCore (sym e.begun)
      (core-all e.events (start_of (world_for p) 1)
      (start-core p.shape p.graph p.roots (numbers_of p.pool) 1 e.copied.may.start (subst IsShape (sym e.shape) e.table.shape)))

  -- what was decided of an object was won, and the other way round
  pub decided-won : (k : ℕ) (d : Decision) → decision_of c k ≡ Some d → (i : ℕ) × At c.won i (told k d)
  decided-won k d is = by w.0 w.1 w.2
    where
      w : (n : ℕ) × (i : ℕ) × At (row_of (state_of (world_for p) c) n).won i (told k d)
      w = core.won.won k d is

      by : (n i : ℕ) → At (row_of (state_of (world_for p) c) n).won i (told k d) → (i : ℕ) × At c.won i (told k d)
      by zero i at = (i, at)
      by (suc n) i at = absurd (none-some (told k d) at)

  pub won-decided : (i k : ℕ) (d : Decision) → At c.won i (told k d) → decision_of c k ≡ Some d
  won-decided i k d at = core.won.held 0 i k d at
