use Rattle.std.proofs.Common.{◌≡◌, ◌⊎◌, ◌↔◌, sym, subst}
use Rattle.std.specs.Prelude.{IsTrue}
use Rattle.bal_layout.specs.Names.{is_among}
use Rattle.bal_layout.specs.declared.name.Name.{Name}
use Rattle.bal_layout.specs.Regions.{free_regions, is_in}
use Rattle.bal_model.specs.Entries.{partial}
use Rattle.bal_rules.specs.Board.{Board, is_present, names_placed, place_of}
use Rattle.bal_rules.specs.GlobalEvents.{region_before}
use Rattle.bal_rules.specs.PartialEvents.{names_kept, placed_outside}
use Rattle.bal_rules.specs.Run.{board_of}
use Rattle.bal_rules.proofs.Lemmas.{board_of-more, run-sound}
use Rattle.bal_laws.proofs.AfterCollections.{left-by-partial, moved-by-partial}
use Rattle.bal_laws.proofs.CollectionsOfRuns.{partial-in-run, run-before}
use Rattle.bal_laws.proofs.reachable.a_partial_leaves_the_outside_and_the_kept.Goals as goal

pub returns-clause-present : goal.returns-clause-present
returns-clause-present c = λ rule k rows before behind chosen scans kept aborts threads run x.
    let e = partial chosen scans kept aborts in
    let b = board_of k before in
    let sound = run-sound rule k rows before threads (run-before rule k rows before e behind run) in
    let is = partial-in-run rule k rows before chosen scans kept aborts behind run in
    subst (λ (d : Board). IsTrue (is_present d x) ↔ (IsTrue (is_among x (names_placed (placed_outside chosen b))) ⊎ IsTrue (is_among x (names_kept kept))))
    (sym (board_of-more k before e)) (left-by-partial k b chosen scans kept sound is x)

pub returns-clause-places : goal.returns-clause-places
returns-clause-places c = λ rule k rows before behind chosen scans kept aborts run.
    let e = partial chosen scans kept aborts in
    let b = board_of k before in
    let is = partial-in-run rule k rows before chosen scans kept aborts behind run in
    subst (λ (d : Board). (x : Name) → IsTrue (is_present d x) → (region_before (place_of d.present x) ≡ region_before (place_of b.present x))
    ⊎ IsTrue (is_in (region_before (place_of d.present x)) (free_regions b.regions)))
    (sym (board_of-more k before e)) (moved-by-partial k b chosen scans kept is)
