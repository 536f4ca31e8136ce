use Rattle.std.proofs.Common.{◌+◌, ◌∙◌, [], ◌∷◌, ◌++◌, ℕ, List, ap, sym, arith, map}
use Rattle.std.specs.List.{range_with_len}
use Rattle.std.proofs.lemmas.List.{append_assoc}
use Rattle.std.proofs.lemmas.List.FromFn.{map-range_with_len_more}
use Rattle.bal_layout.specs.declared.name.Name.{Name}
use Rattle.bal_model.proofs.plain.reach.push_names.Goals as goal

abbrev name_by : ℕ → ℕ → Name
name_by t o = record { thread = t; ordinal = o }

pub loop-before-preserved : goal.loop-before-preserved
loop-before-preserved c =
    let old = c.args.names.now.list in
    let i = c.loop-before.before in
    let named = name_by c.args.thread in
    c.in_ok-append.ensures.ok
    ∙ (ap (λ (l : List Name). l ++ named (i + 1) ∷ []) c.loop-before.invariant
    ∙ (append_assoc old (map named (range_with_len 1 i)) (named (i + 1) ∷ []) ∙ ap (λ (l : List Name). old ++ l) (sym (map-range_with_len_more named 1 i (i + 1) (omega arith)))))
