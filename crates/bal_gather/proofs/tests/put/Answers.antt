use Rattle.std.proofs.Common.{◌≡◌, ◌∙◌, ap, arith}
use Rattle.bal_layout.specs.declared.header.Header.{Header}
use Rattle.bal_layout.specs.declared.name.Kind.TheVariants.{Plain, Spine}
use Rattle.bal_layout.specs.Header.{IsHeader, first_word, header_of, second_word}
use Rattle.bal_layout.specs.Shape.{largest_of}
use Rattle.bal_layout.proofs.Lemmas.{header-of_words}
use Rattle.bal_gather.proofs.tests.put.Goals as goal

plain-piece : Plain ≡ Spine → ⊥
plain-piece e = cc

pub place_new-requires-clause-object : goal.place_new-requires-clause-object
place_new-requires-clause-object c =
    let h : Header = record { kind = Plain; refs = c.args.refs; values = 0; name = record { thread = 0; ordinal = 1 } } in
    let few = c.if-refs-gt30.false in
    let limits : IsHeader h = record {
      refs = omega (arith, few);
      values = omega arith;
      thread = omega arith;
      first_ordinal = omega arith;
      last_ordinal = omega arith;
    } in
    let words = c.write_header-first.result in
    let first = c.write_header-first.ensures.first ∙ ap first_word c.plain.ensures in
    let second = c.write_header-first.ensures.second ∙ ap second_word c.plain.ensures in
    record {
      header = h;
      read = ap (λ w. header_of w words.1) first ∙ (ap (header_of (first_word h)) second ∙ header-of_words h limits);
      size = omega arith;
      may = record {
        piece = plain-piece;
        small = omega (arith, few, c.if-largest-lt32.false, c.largest.ensures, ap largest_of c.geometry-geometry.ensures.shape);
      };
    }
