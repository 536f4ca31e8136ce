-- How the path of a row that lacks room comes to its own event: after a flush and a partial collection, and after a global one if
-- there is no soft room then.
use Rattle.std.proofs.Common.{◌≡◌, [], true, false, Some, subst, sym, ◌∙◌}
use Rattle.bal_layout.specs.declared.geometry.Want.{Want}
use Rattle.bal_model.specs.declared.config.Config.{Config}
use Rattle.bal_model.specs.declared.row.Row.{Row}
use Rattle.bal_rules.specs.Path.{collected, lacks_room}
use Rattle.bal_rules.specs.RowEvents.{want_of}
use Rattle.bal_rules.specs.Run.{board_of}
use Rattle.bal_heap.specs.Flush.{Flushes, slots_noted}
use Rattle.bal_heap.specs.Heap.{Breaks, Collects, Comes, Evacuates, IsNext, IsReady, LacksRoom, MayCompact, Told, allocation_event, turn_of}
use Rattle.bal_heap.specs.Meets.{IsMet}
use Rattle.bal_heap.specs.Turns.{Progress}
use Rattle.bal_heap.proofs.Comes.{comes-breaks, comes-evacuated, comes-flushed, comes-next}
use Rattle.bal_heap.proofs.FlushMore.{lacks-flushed}
use Rattle.bal_heap.proofs.Ready.{may-lacking, ready-collected, ready-evacuated}

module _ (start flushed now : Told) (p : Progress) (r : Row) (w : Want) (met : IsMet start p) (next : IsNext start r) (f : Flushes start flushed r)
    (e : Evacuates flushed now) (lacks : LacksRoom start r) (asks : want_of start.config.geometry r.op ≡ Some w) where
  came : Comes start now r collected
  came = comes-evacuated start flushed now r (slots_noted f.notes []) (comes-flushed start flushed r f) e (lacks-flushed start flushed r f lacks)

  config-is : now.config ≡ start.config
  config-is = e.config ∙ f.config

  pub came-next : IsNext now r
  came-next = comes-next start now r collected came next

  pub came-breaks : Breaks start now r.thread
  came-breaks = comes-breaks start now r collected came next

  -- there is soft room
  pub came-soft : lacks_room now.config (turn_of now r) (board_of now.config now.entries) ≡ false → IsReady start now r (allocation_event now r w)
  came-soft room = ready-evacuated start now r w came (subst (λ (x : Config). want_of x.geometry r.op ≡ Some w) (sym config-is) asks) room

  -- or there is none
  module _ (still : lacks_room now.config (turn_of now r) (board_of now.config now.entries) ≡ true) where
    pub came-may : MayCompact now r
    came-may = may-lacking start now p r met next came still

    pub came-collected : (after : Told) → Collects now after → IsReady start after r (allocation_event after r w)
    came-collected after g =
        ready-collected start now after r collected came g (still, g.legal) w
        (subst (λ (x : Config). want_of x.geometry r.op ≡ Some w) (sym (g.config ∙ config-is)) asks)
