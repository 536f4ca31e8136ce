use Rattle.std.proofs.Common.{[], ap, ◌∙◌}
use Rattle.bal_copyfwd.specs.Filled.{all_back, with_all_filled}
use Rattle.bal_copyfwd.proofs.Refilling.{filled-parts}
use Rattle.bal_copyfwd.proofs.filling.put_survivors_back.Goals as goal

pub returns : goal.returns
returns c =
    let regions = c.args.evacuated.buffers.regions in
    let spares = c.args.evacuated.spares in
    c.whole.ensures ∙ (c.put_spares_back.ensures.table
    ∙ (ap (λ ls. with_all_filled (all_back [] ls) c.put_copies_back.new.occupied.table) c.put_copies_back.ensures.spares
    ∙ (ap (with_all_filled (all_back [] spares)) c.put_copies_back.ensures.table ∙ filled-parts regions spares c.args.occupied.table)))
