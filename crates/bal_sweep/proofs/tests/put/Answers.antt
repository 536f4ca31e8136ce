use Rattle.std.proofs.Common.{◌≡◌, ℕ, ◌+◌, ◌-◌, ◌≤◌, ◌<◌, ◌∙◌, true, length, ap, arith, refl, subst, sym}
use Rattle.bal_sweep.specs.Trials.{IsTrial}
use Rattle.bal_sweep.proofs.Trials.{next_place, trial-new}
use Rattle.bal_layout.specs.Addresses.{address_in}
use Rattle.bal_layout.specs.declared.header.Header.{Header}
use Rattle.bal_layout.specs.declared.name.Kind.TheVariants.{Plain, Spine}
use Rattle.bal_layout.specs.Header.{IsHeader, first_word, header_of, second_word}
use Rattle.bal_layout.specs.Regions.{is_object}
use Rattle.bal_layout.specs.Shape.{Shape, largest_of}
use Rattle.bal_layout.proofs.Lemmas.{header-of_words}
use Rattle.bal_region.specs.Land.{Land}
use Rattle.bal_table.specs.Table.{IsPiece, land_at, role_at}
use Rattle.bal_sweep.proofs.tests.put.Goals as goal
use Rattle.bal_sweep.proofs.tests.put.Goals.{After-write_header-first}

plain-piece : Plain ≡ Spine → ⊥
plain-piece e = cc

abbrev header : After-write_header-first → Header
header c = record { kind = Plain; refs = c.args.words - 2; values = 0; name = record { thread = c.args.thread; ordinal = 1024 - c.address-address.result } }

piece : (c : After-write_header-first) → (p : IsPiece c.args.table.now.shape c.write_header-first.result.0 c.write_header-first.result.1 c.args.words) × (p.header ≡ header c)
piece c =
    let small : c.args.words ≤ largest_of c.args.table.now.shape =
    omega (arith, c.if-words-largest.false, c.largest.ensures, ap largest_of c.geometry-geometry.ensures.shape) in
    let limits : IsHeader (header c) = record {
      refs = omega (arith, small, c.geometry-geometry.ensures.limits.shape.most_words);
      values = omega arith;
      thread = omega arith;
      first_ordinal = omega arith;
      last_ordinal = omega arith;
    } in
    let words : ℕ × ℕ = c.write_header-first.result in
    let first = c.write_header-first.ensures.first ∙ ap first_word c.plain.ensures in
    let second = c.write_header-first.ensures.second ∙ ap second_word c.plain.ensures in
    let size : 2 + (c.args.words - 2) + 0 ≡ c.args.words = omega (arith, c.if-words-lt2.false) in (
      record {
        header = header c;
        read = ap (λ w. header_of w words.1) first ∙ (ap (header_of (first_word (header c))) second ∙ header-of_words (header c) limits);
        size = size;
        may = record { piece = plain-piece; small = omega (arith, size, small) };
      },
      refl,
    )

pub place_new-requires-clause-object : goal.place_new-requires-clause-object
place_new-requires-clause-object c = (piece (goal.at.place_new-requires-clause-object c).After-write_header-first).0

pub returns : goal.returns
returns c =
    let t = c.args.table.now in
    let q = c.args.region in
    let table = c.geometry-geometry.ensures.limits in
    let p = piece (goal.at.returns c).After-write_header-first in
    let words = c.write_header-first.result in
    let object : is_object (role_at t q) ≡ true = ap is_object (sym c.in-Object.ensures) in
    let within : q < t.shape.regions = omega (arith, c.if-region-regions.false, c.regions.ensures.number, ap (λ (s : Shape). s.regions) c.geometry-geometry.ensures.shape) in
    let fits : (land_at t q).used + c.args.words ≤ t.shape.words =
    omega (arith, c.if-not-fits.ensures.0 refl, ap (λ (l : Land). l.used) c.region.ensures, ap (λ (l : Land). length l.words) c.region.ensures, (table.each q within).words) in
    let place : c.address-address.result ≡ next_place t q =
    c.address-address.ensures.address
    ∙ (ap (λ (s : Shape). address_in s q c.used.result) c.geometry-geometry.ensures.shape
    ∙ ap (address_in t.shape q) (c.used.ensures.number ∙ ap (λ (l : Land). l.used) c.region-2.ensures)) in
    subst IsTrial (sym c.place_new.ensures.table)
    (trial-new t q words.0 words.1 c.args.words p.0 table within fits (omega (arith, ap (λ (h : Header). h.name.ordinal) p.1, place, c.if-address-ge1024.false)) c.requires)
