use Rattle.std.proofs.Common.{◌≡◌, ◌+◌, ◌++◌, min, length, take, drop, sym, ap, ◌∙◌, arith}
use Rattle.std.proofs.lemmas.List.{drop-drop}
use Rattle.std.proofs.lemmas.Grind.{common_steps}
use Rattle.bal_source.specs.Memory.{Supply}
use Rattle.bal_source.proofs.Moves.{consumes_portion}
use Rattle.bal_source.proofs.sure.SureSourceSource.read.Goals as goal

pub returns-clause-bytes : goal.returns-clause-bytes
returns-clause-bytes c =
    let n = c.min-count.result in
    let left = c.args.self.now.left in
    let after : drop (c.self.inside.at + n) c.self.inside.bytes.list ≡ drop n left = sym (drop-drop n c.self.inside.at c.self.inside.bytes.list) ∙ ap (drop n) (ap (λ (s : Supply). s.left) c.self.view_is) in
    let count : n ≡ min (length left) (min c.self.inside.piece (length c.args.into.now)) = grind (arith, common_steps) in
    let copied : c.copy_to_front.new.into ≡ take n left ++ drop n c.args.into.now = grind (arith, common_steps) in
    rw after (consumes_portion left c.args.into.now c.copy_to_front.new.into c.self.inside.piece n c.self.invariant.1 count copied)
