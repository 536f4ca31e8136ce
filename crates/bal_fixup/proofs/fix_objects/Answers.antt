use Rattle.std.proofs.Common.{◌≡◌, ◌+◌, ap, arith, subst, sym, ◌∙◌}
use Rattle.std.specs.Prelude.{All}
use Rattle.std.proofs.lemmas.Bool.{le-ltb}
use Rattle.bal_fixup.specs.Mended.{IsReference}
use Rattle.bal_fixup.specs.Mending.{MendedWhere, lies_below, lies_in}
use Rattle.bal_fixup.proofs.Objects.{mended-all, mended-left, mended-more, mended-none}
use Rattle.bal_fixup.proofs.Regions.{region-adds, region-all}
use Rattle.bal_fixup.proofs.Stay.{same-none, same-then}
use Rattle.bal_fixup.proofs.fix_objects.Goals as goal
use Rattle.bal_layout.specs.Addresses.{region_of}
use Rattle.bal_layout.specs.Shape.{Shape}
use Rattle.bal_table.specs.Moves.{moved_to}
use Rattle.bal_table.specs.Table.{Table, things_of}
use Rattle.bal_words.specs.Paths.{words_in}

pub loop-region-init : goal.loop-region-init
loop-region-init c =
    let t = c.args.table.now in
    record {
      mended = mended-none (things_of t) (lies_below t.shape 0) (moved_to c.args.moves.now) (λ a. le-ltb (region_of t.shape a) 0 (omega arith));
      same = same-none t;
    }

pub fix_region-requires-clause-references : goal.fix_region-requires-clause-references
fix_region-requires-clause-references c = λ a here.
    let t = c.args.table.now in
    let now = c.loop-region.table in
    let i = c.loop-region.invariant in
    let shape : now.shape ≡ t.shape = ap (λ (u : Table). u.shape) i.same.table in
    let region : region_of t.shape a ≡ c.loop-region.region = ap (λ (s : Shape). region_of s a) (sym shape) ∙ here in
    subst (λ o. All IsReference (words_in o))
    (sym (mended-left (things_of t) (things_of now) (lies_below t.shape c.loop-region.region) (moved_to c.args.moves.now) i.mended a
    (le-ltb (region_of t.shape a) c.loop-region.region (omega (arith, region)))))
    (c.requires.each a)

pub loop-region-preserved : goal.loop-region-preserved
loop-region-preserved c =
    let t = c.args.table.now in
    let now = c.loop-region.table in
    let after = c.fix_region.new.table in
    let q = c.loop-region.region in
    let i = c.loop-region.invariant in
    let to = moved_to c.args.moves.now in
    let shape : now.shape ≡ t.shape = ap (λ (u : Table). u.shape) i.same.table in
    record {
      mended = mended-more (things_of t) (things_of now) (lies_below t.shape q) to i.mended (things_of after) (lies_in t.shape q) (lies_below t.shape (q + 1))
          (subst (λ (s : Shape). MendedWhere (things_of now) (things_of after) (lies_in s q) to) shape c.fix_region.ensures.mended)
          (λ a x is. region-adds (region_of t.shape a) q);
      same = same-then t now after i.same c.fix_region.ensures.same;
    }

pub returns-clause-fixed : goal.returns-clause-fixed
returns-clause-fixed c =
    let t = c.args.table.now in
    let q = c.loop-region.region in
    mended-all (things_of t) (things_of c.loop-region.table) (lies_below t.shape q) (moved_to c.args.moves.now) c.loop-region.invariant.mended
    (region-all t q c.geometry.ensures.limits
    (omega (arith, c.loop-region-test.false, c.regions-region-end.ensures, ap (λ (s : Shape). s.regions) c.geometry.ensures.shape)))
