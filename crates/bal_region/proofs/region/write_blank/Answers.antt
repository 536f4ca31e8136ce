use Rattle.std.proofs.Common.{◌≡◌, ◌+◌, ◌-◌, ◌≤◌, ◌∷◌, ◌∙◌, length, replicate, set, ap, arith, List, ℕ}
use Rattle.std.proofs.lemmas.List.{length-replicate}
use Rattle.bal_region.specs.Changes.{overwrite}
use Rattle.bal_base.specs.Filling.{padded}
use Rattle.bal_region.proofs.Lists.{blank-begun, blank-more, length-overwrite}
use Rattle.bal_base.proofs.Lemmas.{length-grown}
use Rattle.bal_region.proofs.Padded.{blank-whole}
use Rattle.bal_region.proofs.region.write_blank.Goals as goal

pub index_mut-requires : goal.index_mut-requires
index_mut-requires c =
    let long = (length-grown (c.args.at + c.args.size) c.args.words.now.items).0 in
    omega (arith, c.requires.two, long, ap (λ (ws : List ℕ). length ws) c.grow.ensures.items, c.grow.new.items.ok.0)

pub index_mut-requires-2 : goal.index_mut-requires-2
index_mut-requires-2 c =
    let long = (length-grown (c.args.at + c.args.size) c.args.words.now.items).0 in
    omega (arith, c.requires.two, long, ap (λ (ws : List ℕ). length ws) c.grow.ensures.items, c.grow.new.items.ok.0)

pub loop-i-init : goal.loop-i-init
loop-i-init c =
    let grown = padded (c.args.at + c.args.size) c.args.words.now.items in
    let long : c.args.at + c.args.size ≤ length grown = (length-grown (c.args.at + c.args.size) c.args.words.now.items).0 in
    let none : 0 ≡ c.args.at + 2 - (c.args.at + 2) = omega arith in (
      ap (λ (ws : List ℕ). set (set ws c.args.at c.args.first) (c.args.at + 1) c.args.second) c.grow.ensures.items
          ∙ (blank-begun grown c.args.at c.args.first c.args.second (omega (arith, c.requires.two, long))
          ∙ ap (λ n. overwrite grown c.args.at (c.args.first ∷ c.args.second ∷ replicate n 0)) none),
      omega (arith, c.requires.two),
    )

pub index_mut-requires-in-loop-i : goal.index_mut-requires-in-loop-i
index_mut-requires-in-loop-i c =
    let n = c.loop-i.i - (c.args.at + 2) in
    let grown = padded (c.args.at + c.args.size) c.args.words.now.items in
    let long : c.args.at + c.args.size ≤ length grown = (length-grown (c.args.at + c.args.size) c.args.words.now.items).0 in
    let zeros : length (replicate {A = ℕ} n 0) ≡ n = length-replicate n 0 in
    let same = length-overwrite grown c.args.at (c.args.first ∷ c.args.second ∷ replicate n 0)
    (omega (arith, zeros, long, c.loop-i.auto.i, c.loop-i.invariant.1)) in
    omega (arith, same, long, c.loop-i-test.true, c.min-i-end.ensures, ap (λ (ws : List ℕ). length ws) c.loop-i.invariant.0, c.loop-i.words.ok.0)

pub loop-i-preserved : goal.loop-i-preserved
loop-i-preserved c =
    let n = c.loop-i.i - (c.args.at + 2) in
    let grown = padded (c.args.at + c.args.size) c.args.words.now.items in
    let long : c.args.at + c.args.size ≤ length grown = (length-grown (c.args.at + c.args.size) c.args.words.now.items).0 in
    let next : n + 1 ≡ c.loop-i.i + 1 - (c.args.at + 2) = omega (arith, c.loop-i.auto.i) in
    let within : c.loop-i.i + 1 ≤ c.args.at + c.args.size = omega (arith, c.loop-i-test.true, c.min-i-end.ensures) in (
      ap (λ (words : List ℕ). set words c.loop-i.i 0) c.loop-i.invariant.0
          ∙ (blank-more grown c.args.at c.args.first c.args.second n c.loop-i.i (omega (arith, c.loop-i.auto.i)) (omega (arith, within, long))
          ∙ ap (λ n. overwrite grown c.args.at (c.args.first ∷ c.args.second ∷ replicate n 0)) next),
      within,
    )

pub returns-clause-words : goal.returns-clause-words
returns-clause-words c =
    let n = c.loop-i.i - (c.args.at + 2) in
    c.loop-i.invariant.0
    ∙ blank-whole c.args.words.now.items c.args.at c.args.first c.args.second n c.args.size
    (omega (arith, c.requires.two, c.loop-i.auto.i, c.loop-i.invariant.1))
    (λ less. omega (arith, less, c.loop-i.auto.i, c.loop-i-test.false, c.min-i-end.ensures, c.len-written.ensures, c.args.words.now.ok.0))
