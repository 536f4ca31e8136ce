use Rattle.std.proofs.Common.{◌≡◌, ◌+◌, ◌∙◌, Some, ap, arith, length}
use Rattle.bal_layout.specs.declared.header.Header.{Header}
use Rattle.bal_layout.specs.declared.name.Kind.TheVariants.{Plain}
use Rattle.bal_layout.specs.Header.{IsHeader, first_word, header_of, size_in}
use Rattle.bal_layout.proofs.Lemmas.{header-of_words}
use Rattle.bal_region.proofs.Seen.{IsObject-blank}
use Rattle.bal_region.proofs.tests.put.Goals as goal

pub place_new-requires-clause-object : goal.place_new-requires-clause-object
place_new-requires-clause-object c =
    let h : Header = record { kind = Plain; refs = c.args.refs; values = 0; name = record { thread = 0; ordinal = c.args.ordinal } } in
    let limits : IsHeader h = record {
      refs = omega (arith, c.requires.few);
      values = omega arith;
      thread = omega arith;
      first_ordinal = c.requires.first;
      last_ordinal = omega (arith, c.ranges.ordinal);
    } in
    let words = c.write_header-first.result in
    let is : header_of words.0 words.1 ≡ Some h = ap (λ w. header_of w words.1) c.write_header-first.ensures.first
    ∙ (ap (header_of (first_word h)) c.write_header-first.ensures.second ∙ header-of_words h limits) in
    let size : size_in (length c.args.region.now.words) h ≡ 2 + c.args.refs = omega arith in
    IsObject-blank (length c.args.region.now.words) words.0 words.1 (2 + c.args.refs) h is size
