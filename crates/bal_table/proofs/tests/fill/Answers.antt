use Rattle.std.proofs.Common.{◌≡◌, ℕ, ◌+◌, ◌<◌, ◌≤◌, ◌^◌, ◌∙◌, ap, arith, length, refl, subst, sym}
use Rattle.bal_layout.specs.declared.header.Header.{Header}
use Rattle.bal_layout.specs.declared.name.Kind.TheVariants.{Plain, Spine}
use Rattle.bal_layout.specs.Header.{IsHeader, first_word, header_of, second_word}
use Rattle.bal_layout.specs.Shape.{Shape, largest_of}
use Rattle.bal_layout.proofs.Lemmas.{header-of_words}
use Rattle.bal_layout.specs.declared.region_state.Role.TheVariants.{Object}
use Rattle.bal_region.specs.Land.{Land}
use Rattle.bal_table.specs.Occupied.{MayPutBack}
use Rattle.bal_table.specs.Table.{IsPiece}
use Rattle.bal_table.proofs.OutTrials.{filled-may}
use Rattle.bal_table.proofs.Pieces.{IsObject-piece}
use Rattle.bal_table.proofs.tests.fill.Goals as goal

plain-piece : Plain ≡ Spine → ⊥
plain-piece e = cc

-- the object is a small one
piece-of : (s : Shape) (refs ordinal : ℕ) (words : ℕ × ℕ) (h : Header) → h ≡ record { kind = Plain; refs = refs; values = 0; name = record { thread = 0; ordinal = ordinal } }
    → words.0 ≡ first_word h → words.1 ≡ second_word h → refs < 2 ^ 24 → 1 ≤ ordinal → ordinal < 2 ^ 32 → 2 + refs ≤ largest_of s → IsPiece s words.0 words.1 (2 + refs)
piece-of s refs ordinal words h is first second few least most small =
    let plain : Header = record { kind = Plain; refs = refs; values = 0; name = record { thread = 0; ordinal = ordinal } } in
    let limits : IsHeader plain = record { refs = omega (arith, few); values = omega arith; thread = omega arith; first_ordinal = least; last_ordinal = omega (arith, most) } in
    record {
      header = plain;
      read = ap (λ w. header_of w words.1) (first ∙ ap first_word is) ∙ (ap (header_of (first_word plain)) (second ∙ ap second_word is) ∙ header-of_words plain limits);
      size = omega arith;
      may = record { piece = plain-piece; small = omega (arith, small) };
    }

pub place_new-requires-clause-object : goal.place_new-requires-clause-object
place_new-requires-clause-object c =
    let s : Shape = c.args.occupied.now.table.shape in
    let small : 2 + c.from-refs.result ≤ largest_of s = omega (arith, c.if-words-largest.false, c.largest.ensures, ap largest_of c.geometry.ensures.shape) in
    let few : c.from-refs.result < 2 ^ 24 = omega (arith, c.from-refs.ensures, c.ranges.refs.fits) in
    let piece = piece-of s c.from-refs.result c.args.ordinal c.write_header-first.result c.plain.result c.plain.ensures c.write_header-first.ensures.first c.write_header-first.ensures.second
    few c.requires.first (omega (arith, c.ranges.ordinal.fits)) small in
    IsObject-piece s c.write_header-first.result.0 c.write_header-first.result.1 (2 + c.from-refs.result) piece (length c.args.region.now.words) c.requires.vacant.words

pub returns-clause-may : goal.returns-clause-may
returns-clause-may c =
    let s : Shape = c.args.occupied.now.table.shape in
    let small : 2 + c.from-refs.result ≤ largest_of s = omega (arith, c.if-words-largest.false, c.largest.ensures, ap largest_of c.geometry.ensures.shape) in
    let few : c.from-refs.result < 2 ^ 24 = omega (arith, c.from-refs.ensures, c.ranges.refs.fits) in
    let piece = piece-of s c.from-refs.result c.args.ordinal c.write_header-first.result c.plain.result c.plain.ensures c.write_header-first.ensures.first c.write_header-first.ensures.second
    few c.requires.first (omega (arith, c.ranges.ordinal.fits)) small in
    subst (λ (l : Land). MayPutBack c.args.occupied.now l (Object 1)) (sym c.place_new.ensures.land)
    (filled-may c.args.occupied.now c.args.region.now c.write_header-first.result.0 c.write_header-first.result.1 (2 + c.from-refs.result) c.requires.out c.requires.vacant
    c.used.ensures.limits piece (c.if-not-fits.ensures.0 refl))
