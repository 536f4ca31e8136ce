use Rattle.std.proofs.Common.{◌∙◌, ap, length, refl}
use Rattle.std.proofs.lemmas.List.{length-replicate}
use Rattle.bal_table.specs.Marks.{Marked}
use Rattle.bal_table.specs.Moves.{Forwarding}
use Rattle.bal_heap.specs.Turns.{Progress}
use Rattle.bal_heap.proofs.HeapFacts.{Begins-made, IsMet-made}
use Rattle.bal_heap.proofs.heap.Heap.make.Goals as goal

pub invariant_of-result : goal.invariant_of-result
invariant_of-result c = record {
  met = IsMet-made c.args.config c.args.trace.rows.list _ c.in_ok-make.field-0 c.requires.each_row c.requires.few c.requires.limits
      (Begins-made c.args.config c.args.trace.rows.list _ (ap (λ (p : Progress). p.rows) c.in_ok-make.ensures) c.in_ok-journal.ensures.empty
      c.in_ok-make-2.ensures.shape (c.in_ok-make-2.ensures.opening c.args.config refl) refl)
      c.in_ok-make.ensures;
  marks = ap (λ (m : Marked). m.words) c.in_ok-make-5.ensures;
  moves = ap (λ (m : Forwarding). length m.words) c.in_ok-make-6.ensures ∙ length-replicate _ 0;
}
