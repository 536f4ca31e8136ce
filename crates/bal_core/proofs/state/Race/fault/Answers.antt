use Rattle.std.proofs.Common.{◌<◌, ◌∙◌, ap, get_or, length, List, subst}
use Rattle.bal_core.specs.World.{Row, State}
use Rattle.bal_core.proofs.Bounds.{few-words-in}
use Rattle.bal_core.proofs.state.Race.fault.Goals as goal

pub has_no_place-requires : goal.has_no_place-requires
has_no_place-requires c =
    let same = ap (λ (s : State). s.crew) c.self.view_is in
    record {
      room = λ region.
          few-words-in c.args.self.now c.worker-worker.result region c.index-crew-worker.result c.requires.core
          (subst (λ (l : List Row). c.worker-worker.result < length l) (c.as_slice-crew.ensures.value ∙ same)
          c.if-worker-crew.false)
          (c.index-crew-worker.is ∙ ap (λ (l : List Row). get_or l c.worker-worker.result c.index-crew-worker.result) (c.as_slice-crew.ensures.value ∙ same));
    }
