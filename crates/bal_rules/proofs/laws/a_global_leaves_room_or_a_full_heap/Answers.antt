use Rattle.bal_rules.proofs.FullAfterGlobal.{full-after}
use Rattle.bal_rules.proofs.laws.a_global_leaves_room_or_a_full_heap.Goals as goal

pub returns : goal.returns
returns c = full-after
