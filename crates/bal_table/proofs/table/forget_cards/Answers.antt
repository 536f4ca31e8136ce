use Rattle.std.proofs.Common.{◌∙◌, ap, arith, get_or, set, sym}
use Rattle.std.proofs.lemmas.List.Edits.{map_over_more}
use Rattle.bal_remember.specs.Remembered.{Remembered}
use Rattle.bal_layout.specs.declared.region_state.RegionState.{RegionState}
use Rattle.bal_table.specs.Changes.{without_cards_between}
use Rattle.bal_table.proofs.table.forget_cards.Goals as goal

pub loop-state-preserved : goal.loop-state-preserved
loop-state-preserved c =
    let states = c.loop-state.state-items in
    let i = c.loop-state.state-index in
    let state = c.state-item.result in
    let more = map_over_more (without_cards_between c.args.from c.args.to) c.args.states.now.items states i state (omega arith) c.loop-state.invariant c.state-item.is in
    ap (λ (l : Remembered). set states i (record (get_or states i state) { remembered = l })) c.remove_between.ensures
    ∙ (ap (λ (r : RegionState). set states i (without_cards_between c.args.from c.args.to r)) (sym c.state-item.is) ∙ more)
