use Rattle.std.proofs.Common.{◌≡◌, ◌∙◌, ◌↔◌, IsTrue, [], List, ap, sym, subst}
use Rattle.std.specs.Prelude.{All, IsSome}
use Rattle.std.proofs.lemmas.Result.{IfOk-weaker}
use Rattle.bal_layout.specs.declared.name.Name.{Name}
use Rattle.bal_layout.specs.Names.{is_among}
use Rattle.bal_model.specs.Ascending.{IsAscending}
use Rattle.bal_model.specs.Kept.{kept_names}
use Rattle.bal_model.specs.Plain.{object}
use Rattle.bal_model.specs.Walk.{EndsWalk, all_names, graph_ground, reachable}
use Rattle.bal_model.proofs.Ascending.{reachable-ascends}
use Rattle.bal_model.proofs.NameFacts.{all-objects, kept-of-all}
use Rattle.bal_model.proofs.SearchFacts.{tells-ends}
use Rattle.bal_model.proofs.plain.reach.reach_plain.Goals as goal

pub kept_plain-requires : goal.kept_plain-requires
kept_plain-requires c =
    let s = c.args.state.now in
    let names : c.as_slice.result.now ≡ all_names s = c.as_slice.ensures ∙ c.in_ok-names.ensures in
    subst (λ (l : List Name). All (λ x. IsSome (object s x)) l) (sym names) (all-objects s)

pub returns-clause-names : goal.returns-clause-names
returns-clause-names c =
    let s = c.args.state.now in
    let names : c.as_slice.result.now ≡ all_names s = c.as_slice.ensures ∙ c.in_ok-names.ensures in
    IfOk-weaker c.kept_plain.result (λ r. r.list ≡ kept_names s [] c.as_slice.result.now) (λ r. r.list ≡ reachable s)
    (λ r is. is ∙ (ap (λ (l : List Name). kept_names s [] l) names ∙ kept-of-all s)) c.kept_plain.ensures.names

pub returns-clause-walks : goal.returns-clause-walks
returns-clause-walks c =
    let s = c.args.state.now in
    let names : c.as_slice.result.now ≡ all_names s = c.as_slice.ensures ∙ c.in_ok-names.ensures in
    IfOk-weaker c.kept_plain.result (λ r. r.list ≡ kept_names s [] c.as_slice.result.now) (λ r. (x : Name) → IsTrue (is_among x r.list) ↔ EndsWalk (graph_ground s) x)
    (λ r is. tells-ends (graph_ground s) r.list (is ∙ (ap (λ (l : List Name). kept_names s [] l) names ∙ kept-of-all s))) c.kept_plain.ensures.names

pub returns-clause-ordered : goal.returns-clause-ordered
returns-clause-ordered c =
    let s = c.args.state.now in
    let names : c.as_slice.result.now ≡ all_names s = c.as_slice.ensures ∙ c.in_ok-names.ensures in
    IfOk-weaker c.kept_plain.result (λ r. r.list ≡ kept_names s [] c.as_slice.result.now) (λ r. IsAscending r.list)
    (λ r is. subst IsAscending (sym (is ∙ (ap (λ (l : List Name). kept_names s [] l) names ∙ kept-of-all s))) (reachable-ascends s)) c.kept_plain.ensures.names
