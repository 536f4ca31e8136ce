use Rattle.std.proofs.Common.{◌≡◌, ◌+◌, ◌≤◌, ◌<◌, ◌∙◌, ap, arith, refl, subst, sym}
use Rattle.std.specs.Prelude.{length}
use Rattle.std.proofs.lemmas.List.Elements.{All-replicate}
use Rattle.bal_fixup.specs.Mended.{AreReferences, IsReference}
use Rattle.bal_fixup.proofs.References.{references-updated}
use Rattle.bal_fixup.proofs.tests.put.Goals as goal
use Rattle.bal_fixup.proofs.tests.put.Goals.{After-write_header-first}
use Rattle.bal_layout.specs.Addresses.{address_in}
use Rattle.bal_layout.specs.Header.{IsHeader, first_word, header_of}
use Rattle.bal_layout.specs.declared.header.Header.{Header}
use Rattle.bal_layout.specs.declared.name.Kind.TheVariants.{Plain, Spine}
use Rattle.bal_layout.proofs.Lemmas.{header-of_words}
use Rattle.bal_region.specs.Land.{Land}
use Rattle.bal_table.specs.Changes.{with_new}
use Rattle.bal_table.specs.Table.{IsPiece, Table, land_at, things_of}
use Rattle.bal_table.proofs.Lemmas.{thing-placed}
use Rattle.bal_words.specs.Things.{Thing, blank_thing}

plain-piece : Plain ≡ Spine → ⊥
plain-piece e = cc

header : Header
header = record { kind = Plain; refs = 2; values = 0; name = record { thread = 0; ordinal = 1 } }

piece : (c : After-write_header-first) → IsPiece c.args.table.now.shape c.write_header-first.result.0 c.write_header-first.result.1 4
unfolding header
piece c =
    let limits : IsHeader header = record { refs = omega arith; values = omega arith; thread = omega arith; first_ordinal = omega arith; last_ordinal = omega arith } in
    record {
      header = header;
      read = ap (λ w. header_of w c.write_header-first.result.1) c.write_header-first.ensures.first
          ∙ (ap (header_of (first_word header)) c.write_header-first.ensures.second ∙ header-of_words header limits);
      size = refl;
      may = record { piece = plain-piece; small = omega (arith, c.geometry-geometry.ensures.limits.shape.fewest_words) };
    }

pub place_new-requires-clause-object : goal.place_new-requires-clause-object
place_new-requires-clause-object c = piece (goal.at.place_new-requires-clause-object c).After-write_header-first

pub returns : goal.returns
returns c =
    let at = (goal.at.returns c).After-write_header-first in
    let t = c.args.table.now in
    let q = c.args.region in
    let table = c.geometry-geometry.ensures.limits in
    let within : q < t.shape.regions = omega (arith, table.shape.fewest_regions, c.requires.region) in
    let first = c.write_header-first.result.0 in
    let second = c.write_header-first.result.1 in
    let fits : (land_at t q).used + 4 ≤ t.shape.words =
    omega (arith, (table.each q within).words, subst (λ (l : Land). l.used + 4 ≤ length l.words) c.region.ensures (c.fits.ensures.0 c.if-not-fits.false)) in
    let place = address_in t.shape q (land_at t q).used in
    let p = piece at in
    let y : Thing = blank_thing p.header.name p.header.kind p.header.refs p.header.values in
    subst (λ (m : Table). AreReferences (things_of m)) (sym c.place_new.ensures.table)
    (references-updated (things_of t) (things_of (with_new t q first second 4)) place y c.requires.references
    (thing-placed t q first second 4 p table within fits)
    (All-replicate IsReference p.header.refs 0 (omega arith)))
