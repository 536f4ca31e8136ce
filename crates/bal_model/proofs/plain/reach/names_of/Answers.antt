use Rattle.std.proofs.Common.{◌≡◌, ◌∙◌, ◌++◌, ℕ, List, ap, sym, arith, flat_map, length, map}
use Rattle.std.specs.List.{range_with_len}
use Rattle.std.proofs.lemmas.List.{length-map}
use Rattle.bal_layout.specs.declared.name.Name.{Name}
use Rattle.bal_model.specs.Graph.{object_of}
use Rattle.bal_model.specs.Plain.{Mutator, made_by}
use Rattle.bal_model.proofs.GraphFacts.{kept-count, kept-mutator}
use Rattle.bal_model.proofs.NameFacts.{names-more, names_by}
use Rattle.bal_model.proofs.plain.reach.names_of.Goals as goal

pub loop-thread-preserved : goal.loop-thread-preserved
loop-thread-preserved c =
    let s = c.args.state.now in
    let t = c.loop-thread.thread in
    let m = c.index.result.now in
    let is = kept-mutator c.state.inside s c.state.view_is t m (omega (arith, c.loop-thread-test.true, c.len-thread-end.ensures)) c.index.ensures in
    let many : c.len-made.result ≡ made_by s t = omega (arith, c.len-made.ensures, length-map m.made.items object_of, ap (λ (k : Mutator). length k.made) is) in
    c.in_ok-push_names.ensures
    ∙ (ap (λ (l : List Name). l ++ map (λ o. record { thread = t; ordinal = o }) (range_with_len 1 c.len-made.result)) c.loop-thread.invariant
    ∙ (ap (λ (n : ℕ). flat_map (names_by s) (range_with_len 0 t) ++ map (λ o. record { thread = t; ordinal = o }) (range_with_len 1 n)) many ∙ sym (names-more s t)))

pub returns : goal.returns
returns c =
    let s = c.args.state.now in
    let all : c.loop-thread.thread ≡ length s.mutators = omega (arith, c.loop-thread-test.false, c.loop-thread.auto.thread-end, c.len-thread-end.ensures, kept-count c.state.inside s c.state.view_is) in
    c.loop-thread.invariant ∙ ap (λ n. flat_map (names_by s) (range_with_len 0 n)) all
