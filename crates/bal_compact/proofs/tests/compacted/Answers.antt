use Rattle.std.proofs.Common.{subst, sym}
use Rattle.std.specs.Prelude.{All}
use Rattle.std.proofs.lemmas.List.Elements.{All-replicate}
use Rattle.bal_compact.proofs.Trials.{trial-shows}
use Rattle.bal_roots.specs.Roots.{root_count}
use Rattle.bal_table.specs.Table.{things_of}
use Rattle.bal_words.specs.Shown.{Finds}
use Rattle.bal_compact.proofs.tests.compacted.Goals as goal

pub hold-requires : goal.hold-requires
hold-requires c = subst (All (Finds (things_of c.args.table.now))) (sym c.in_ok-roots.ensures) (All-replicate (Finds (things_of c.args.table.now)) root_count 0 tt)

pub compact-requires-clause-graph : goal.compact-requires-clause-graph
compact-requires-clause-graph c = trial-shows c.args.table.now c.geometry-geometry.ensures.limits c.requires
