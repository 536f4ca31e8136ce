use Rattle.std.proofs.Common.{◌*◌, ◌≤◌, ◌∙◌, List, [], ℕ, ap, arith, get_or, length}
use Rattle.std.proofs.lemmas.List.{get_or_past}
use Rattle.bal_table.specs.Moves.{no_moves}
use Rattle.bal_table.proofs.KeptMoving.{IsKept-none, words-null}
use Rattle.bal_table.proofs.moves.Moves.make.Goals as goal

pub invariant_of-result : goal.invariant_of-result
invariant_of-result c =
    let few = c.regions.ensures.limits.words_in_all in
    let room = c.regions.result * c.words.result in
    let items = c.in_ok-with_capacity.ensures.items in
    let within : length c.in_ok-with_capacity.field-0.items ≤ room = omega (arith, ap (λ (ws : List ℕ). length ws) items) in
    let null = words-null room c.in_ok-with_capacity.field-0.items within (λ n. ap (λ (ws : List ℕ). get_or ws n 0) items ∙ get_or_past [] n 0 (omega arith)) in
    IsKept-none _ (rw (c.regions.ensures.number, c.words.ensures.number) (omega (arith, few))) (ap (λ (ws : List ℕ). record { words = ws }) null) within
    c.in_ok-with_capacity.ensures.capacity (c.reserve.ensures.list ∙ c.in_ok-moved.ensures) c.in_ok-reserve.ensures.ok

pub returns : goal.returns
returns c =
    let room = c.regions.result * c.words.result in
    let items = c.in_ok-with_capacity.ensures.items in
    let within : length c.in_ok-with_capacity.field-0.items ≤ room = omega (arith, ap (λ (ws : List ℕ). length ws) items) in
    let null = words-null room c.in_ok-with_capacity.field-0.items within (λ n. ap (λ (ws : List ℕ). get_or ws n 0) items ∙ get_or_past [] n 0 (omega arith)) in
    ap (λ (ws : List ℕ). record { words = ws }) null
    ∙ (ap (λ n. no_moves (n * c.words.result)) c.regions.ensures.number ∙ ap (λ n. no_moves (c.args.geometry.now.regions * n)) c.words.ensures.number)
