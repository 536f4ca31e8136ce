use Rattle.std.proofs.Common.{◌↔◌, sym, subst}
use Rattle.std.specs.Prelude.{IsTrue}
use Rattle.bal_layout.specs.declared.name.Name.{Name}
use Rattle.bal_model.specs.Entries.{global}
use Rattle.bal_model.specs.Walk.{EndsWalk, graph_ground}
use Rattle.bal_rules.specs.Board.{Board, is_present}
use Rattle.bal_rules.specs.Run.{board_of}
use Rattle.bal_rules.proofs.Lemmas.{board_of-more, run-sound}
use Rattle.bal_laws.proofs.AfterCollections.{left-by-global}
use Rattle.bal_laws.proofs.CollectionsOfRuns.{global-in-run, run-before}
use Rattle.bal_laws.proofs.reachable.a_global_leaves_what_can_be_reached.Goals as goal

pub returns : goal.returns
returns c = λ rule k rows before behind dead packed threads run.
    let e = global dead packed in
    let sound = run-sound rule k rows before threads (run-before rule k rows before e behind run) in
    let is = global-in-run rule k rows before dead packed behind run in
    subst (λ (d : Board). (x : Name) → IsTrue (is_present d x) ↔ EndsWalk (graph_ground d.plain) x)
    (sym (board_of-more k before e)) (left-by-global k (board_of k before) dead packed sound is)
