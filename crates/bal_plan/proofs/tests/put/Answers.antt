use Rattle.std.proofs.Common.{◌≡◌, ◌+◌, ◌-◌, ◌≤◌, ◌∙◌, ap, arith}
use Rattle.bal_layout.specs.declared.header.Header.{Header}
use Rattle.bal_layout.specs.declared.name.Kind.TheVariants.{Plain, Spine}
use Rattle.bal_layout.specs.Header.{IsHeader, first_word, header_of, second_word}
use Rattle.bal_layout.specs.Shape.{largest_of}
use Rattle.bal_layout.proofs.Lemmas.{header-of_words}
use Rattle.bal_plan.proofs.tests.put.Goals as goal

plain-piece : Plain ≡ Spine → ⊥
plain-piece e = cc

pub place_new-requires-clause-object : goal.place_new-requires-clause-object
place_new-requires-clause-object c =
    let h : Header = record { kind = Plain; refs = c.args.words - 2; values = 0; name = record { thread = 0; ordinal = c.args.ordinal } } in
    let small : c.args.words ≤ largest_of c.args.table.now.shape =
    omega (arith, c.if-words-largest.false, c.largest.ensures, ap largest_of c.geometry-geometry.ensures.shape) in
    let limits : IsHeader h = record {
      refs = omega (arith, small, c.geometry-geometry.ensures.limits.shape.most_words);
      values = omega arith;
      thread = omega arith;
      first_ordinal = omega (arith, c.if-ordinal-eq0.false);
      last_ordinal = omega (arith, c.ranges.ordinal);
    } in
    let words = c.write_header-first.result in
    let first = c.write_header-first.ensures.first ∙ ap first_word c.plain.ensures in
    let second = c.write_header-first.ensures.second ∙ ap second_word c.plain.ensures in
    let size : 2 + (c.args.words - 2) + 0 ≡ c.args.words = omega (arith, c.if-words-lt2.false) in
    record {
      header = h;
      read = ap (λ w. header_of w words.1) first ∙ (ap (header_of (first_word h)) second ∙ header-of_words h limits);
      size = size;
      may = record { piece = plain-piece; small = omega (arith, size, small) };
    }
