use Rattle.std.proofs.Common.{◌≡◌, ◌+◌, ◌≤◌, ◌<◌, ◌∙◌, true, length, ap, arith, refl, subst, sym}
use Rattle.bal_layout.specs.declared.header.Header.{Header}
use Rattle.bal_layout.specs.declared.name.Kind.TheVariants.{Plain, Spine}
use Rattle.bal_layout.specs.Header.{IsHeader, first_word, header_of}
use Rattle.bal_layout.specs.Regions.{is_object}
use Rattle.bal_layout.specs.Shape.{Shape, largest_of}
use Rattle.bal_layout.proofs.Lemmas.{header-of_words}
use Rattle.bal_region.specs.Land.{Land}
use Rattle.bal_table.specs.Table.{IsPiece, Table, land_at, role_at}
use Rattle.bal_table.proofs.Lemmas.{IsTable-placed}
use Rattle.bal_barrier.specs.Flush.{LeadToObjects}
use Rattle.bal_rebuild.proofs.tests.put.Goals as goal
use Rattle.bal_rebuild.proofs.tests.put.Goals.{After-write_header-first}

plain-piece : Plain ≡ Spine → ⊥
plain-piece e = cc

header : Header
header = record { kind = Plain; refs = 30; values = 0; name = record { thread = 0; ordinal = 1 } }

piece : (c : After-write_header-first) → IsPiece c.args.heap.now.table.shape c.write_header-first.result.0 c.write_header-first.result.1 32
unfolding header
piece c =
    let limits : IsHeader header = record { refs = omega arith; values = omega arith; thread = omega arith; first_ordinal = omega arith; last_ordinal = omega arith } in
    record {
      header = header;
      read = ap (λ w. header_of w c.write_header-first.result.1) c.write_header-first.ensures.first
          ∙ (ap (header_of (first_word header)) c.write_header-first.ensures.second ∙ header-of_words header limits);
      size = refl;
      may = record { piece = plain-piece; small = omega (arith, c.largest.ensures, ap largest_of c.geometry-geometry.ensures.shape) };
    }

pub place_new-requires-clause-object : goal.place_new-requires-clause-object
place_new-requires-clause-object c = piece (goal.at.place_new-requires-clause-object c).After-write_header-first

pub invariant_of-heap : goal.invariant_of-heap
invariant_of-heap c =
    let h = c.args.heap.now in
    let t = h.table in
    let table = c.geometry-geometry.ensures.limits in
    let p = piece (goal.at.invariant_of-heap c).After-write_header-first in
    let words = c.write_header-first.result in
    let object : is_object (role_at t c.args.region) ≡ true = ap is_object (sym c.in-Object.ensures) in
    let within : c.args.region < t.shape.regions = omega (arith, c.regions.ensures.number, ap (λ (s : Shape). s.regions) c.geometry-geometry.ensures.shape) in
    let fits : (land_at t c.args.region).used + 32 ≤ t.shape.words =
    omega (arith, c.if-not-fits.ensures.0 refl, ap (λ (l : Land). l.used) c.region.ensures, ap (λ (l : Land). length l.words) c.region.ensures, (table.each c.args.region within).words) in
    let made = IsTable-placed t c.args.region words.0 words.1 32 p table within object fits in
    record {
      shape = h.shape ∙ sym (ap (λ (u : Table). u.shape) c.place_new.ensures.table);
      found = subst LeadToObjects (sym c.place_new.ensures.table)
          (c.a_new_object_is_covered.ensures.found t c.args.region words.0 words.1 32 table p within fits made h.found);
    }
