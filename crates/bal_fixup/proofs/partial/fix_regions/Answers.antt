use Rattle.std.proofs.Common.{◌≡◌, ◌+◌, ◌<◌, ℕ, false, get_or, refl, ap, subst, sym, take, ◌∙◌}
use Rattle.std.specs.Prelude.{All, IsTrue}
use Rattle.std.proofs.lemmas.Bool.{false≢true}
use Rattle.bal_fixup.specs.Dirtied.{BecameDirty, HasReference}
use Rattle.bal_fixup.specs.Mended.{IsReference}
use Rattle.bal_fixup.specs.Mending.{MendedWhere, lies_in}
use Rattle.bal_fixup.specs.Placed.{lies_among}
use Rattle.bal_fixup.proofs.Dirty.{dirty-moved, dirty-none, dirty-then, word-same}
use Rattle.bal_fixup.proofs.Objects.{mended-left, mended-more, mended-none}
use Rattle.bal_fixup.proofs.Placing.{in-adds, in-before, in-cases, in-last, is-among, not-before}
use Rattle.bal_fixup.proofs.Stay.{same-none, same-then}
use Rattle.bal_fixup.proofs.partial.fix_regions.Goals as goal
use Rattle.bal_fixup.proofs.partial.fix_regions.Goals.{After-row_known-1}
use Rattle.bal_layout.specs.Addresses.{region_of}
use Rattle.bal_layout.specs.Regions.{is_in}
use Rattle.bal_layout.specs.Shape.{Shape}
use Rattle.bal_table.specs.Moves.{moved_to}
use Rattle.bal_table.specs.Table.{Table, things_of}
use Rattle.bal_words.specs.Paths.{words_in}
use Rattle.bal_words.specs.Things.{Thing}
use Rattle.std.specs.Prelude.{Option}

pub loop-region-init : goal.loop-region-init
loop-region-init c =
    let t = c.args.table.now in
    record {
      mended = mended-none (things_of t) (lies_among t.shape (take 0 c.args.regions.now)) (moved_to c.args.moves.now) (λ a. refl);
      same = same-none t;
      dirty = dirty-none t c.args.cards.now (λ holder number. IsTrue (is_in (region_of t.shape holder) (take 0 c.args.regions.now))) (λ a i among. false≢true among);
    }

pub fix_survivors-requires-clause-within : goal.fix_survivors-requires-clause-within
fix_survivors-requires-clause-within c =
    let n = c.loop-region.region-index in
    subst (λ (s : Shape). get_or c.args.regions.now n 0 < s.regions) (sym (ap (λ (u : Table). u.shape) c.loop-region.invariant.same.table))
    (c.requires.within (get_or c.args.regions.now n 0) (is-among n c.args.regions.now c.loop-region-test.true))

pub fix_survivors-requires-clause-references : goal.fix_survivors-requires-clause-references
fix_survivors-requires-clause-references c = λ a here.
    let t = c.args.table.now in
    let n = c.loop-region.region-index in
    let regions = c.args.regions.now in
    let i = c.loop-region.invariant in
    let shape : c.loop-region.table.shape ≡ t.shape = ap (λ (u : Table). u.shape) i.same.table in
    let region : region_of t.shape a ≡ get_or regions n 0 = ap (λ (s : Shape). region_of s a) (sym shape) ∙ here in
    subst (λ (o : Option Thing). All IsReference (words_in o))
    (sym (mended-left (things_of t) (things_of c.loop-region.table) (lies_among t.shape (take n regions)) (moved_to c.args.moves.now) i.mended a
    (subst (λ q. is_in q (take n regions) ≡ false) (sym region) (not-before n regions c.requires.ascending c.loop-region-test.true))))
    (c.requires.references a (subst (λ q. IsTrue (is_in q regions)) (sym region) (is-among n regions c.loop-region-test.true)))

pub loop-region-preserved : goal.loop-region-preserved
loop-region-preserved c =
    let t = c.args.table.now in
    let u = c.loop-region.table in
    let v = c.fix_survivors.new.table in
    let n = c.loop-region.region-index in
    let regions = c.args.regions.now in
    let q = get_or regions n 0 in
    let i = c.loop-region.invariant in
    let to = moved_to c.args.moves.now in
    let less = c.loop-region-test.true in
    let shape : u.shape ≡ t.shape = ap (λ (w : Table). w.shape) i.same.table in
    let same : (a : ℕ) → region_of t.shape a ≡ q → things_of u a ≡ things_of t a =
    (λ a here. mended-left (things_of t) (things_of u) (lies_among t.shape (take n regions)) to i.mended a
    (subst (λ r. is_in r (take n regions) ≡ false) (sym here) (not-before n regions c.requires.ascending less))) in
    let next : BecameDirty c.loop-region.cards c.fix_survivors.new.cards (HasReference u (λ holder number. region_of t.shape holder ≡ q)) =
    subst (λ (s : Shape). BecameDirty c.loop-region.cards c.fix_survivors.new.cards (HasReference u (λ holder number. region_of s holder ≡ q))) shape c.fix_survivors.ensures.dirty in
    let own : BecameDirty c.loop-region.cards c.fix_survivors.new.cards (HasReference t (λ holder number. region_of t.shape holder ≡ q)) =
    dirty-moved t u c.loop-region.cards c.fix_survivors.new.cards (λ holder number. region_of t.shape holder ≡ q) next
    (λ a k p e slot. let old = (i.same.slots a k p).0 slot in (old, sym (word-same t u a k p c.geometry.ensures.limits c.fix_survivors.ensures.limits (same a e) old slot)))
    (λ a k p e slot. let new = (i.same.slots a k p).1 slot in (new, word-same t u a k p c.geometry.ensures.limits c.fix_survivors.ensures.limits (same a e) slot new)) in
    record {
      mended = mended-more (things_of t) (things_of u) (lies_among t.shape (take n regions)) to i.mended (things_of v) (lies_in t.shape q) (lies_among t.shape (take (n + 1) regions))
          (subst (λ (s : Shape). MendedWhere (things_of u) (things_of v) (lies_in s q) to) shape c.fix_survivors.ensures.mended)
          (λ a x is. in-adds regions n (region_of t.shape a) c.requires.ascending less);
      same = same-then t u v i.same c.fix_survivors.ensures.same;
      dirty = dirty-then t c.args.cards.now c.loop-region.cards c.fix_survivors.new.cards
          (λ holder number. IsTrue (is_in (region_of t.shape holder) (take n regions))) (λ holder number. region_of t.shape holder ≡ q)
          (λ holder number. IsTrue (is_in (region_of t.shape holder) (take (n + 1) regions))) i.dirty own
          (λ a k before. in-before regions n (region_of t.shape a) less before)
          (λ a k here. subst (λ r. IsTrue (is_in r (take (n + 1) regions))) (sym here) (in-last regions n less))
          (λ a k p slot before. in-cases regions n (region_of t.shape a) less before);
    }
