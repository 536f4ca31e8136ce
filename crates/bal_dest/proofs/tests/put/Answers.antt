use Rattle.std.proofs.Common.{◌≡◌, ◌+◌, ◌∙◌, Some, ap, arith, length}
use Rattle.bal_layout.specs.declared.header.Header.{Header}
use Rattle.bal_layout.specs.declared.name.Kind.TheVariants.{Plain}
use Rattle.bal_layout.specs.Header.{IsHeader, first_word, header_of, size_in}
use Rattle.bal_layout.proofs.Lemmas.{header-of_words}
use Rattle.bal_region.proofs.Lemmas.{IsObject-blank}
use Rattle.bal_dest.proofs.tests.put.Goals as goal

pub place_new-requires-clause-object : goal.place_new-requires-clause-object
place_new-requires-clause-object c =
    let words = 2 + c.from-words.result in
    let h : Header = record { kind = Plain; refs = c.from.result; values = 0; name = record { thread = 0; ordinal = words } } in
    let limits : IsHeader h = record {
      refs = omega (arith, c.from.ensures, c.ranges.refs);
      values = omega arith;
      thread = omega arith;
      first_ordinal = omega arith;
      last_ordinal = omega (arith, c.from-words.ensures, c.ranges.refs);
    } in
    let two = c.write_header-first.result in
    let is : header_of two.0 two.1 ≡ Some h = ap (λ w. header_of w two.1) c.write_header-first.ensures.first
    ∙ (ap (header_of (first_word h)) c.write_header-first.ensures.second ∙ header-of_words h limits) in
    let size : size_in (length c.args.region.now.words) h ≡ words = omega (arith, c.from.ensures, c.from-words.ensures) in
    IsObject-blank (length c.args.region.now.words) two.0 two.1 words h is size
