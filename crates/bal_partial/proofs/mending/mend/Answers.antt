use Rattle.std.proofs.Common.{◌≡◌, ◌<◌, ℕ, List, All, ap, subst, sym, ◌∙◌}
use Rattle.std.specs.Prelude.{IsTrue}
use Rattle.bal_base.specs.Bits.{IsAscending}
use Rattle.bal_fixup.specs.Mended.{IsReference}
use Rattle.bal_fixup.specs.Placed.{AreSlots, lies_among}
use Rattle.bal_layout.specs.Regions.{is_in}
use Rattle.bal_layout.specs.Shape.{Shape}
use Rattle.bal_partial.proofs.MendedSteps.{cards-shape, is-mended, places-is, places-shape, refilled-shape, settle-may, settled-is}
use Rattle.bal_partial.specs.Collection.{Collection}
use Rattle.bal_partial.specs.Mended.{places_mended}
use Rattle.bal_partial.specs.Mending.{MayMend}
use Rattle.bal_table.specs.Table.{IsTable, Table, things_of, word_at}
use Rattle.bal_words.specs.Paths.{words_in}
use Rattle.bal_partial.proofs.mending.mend.Goals as goal

-- the collection of which the lists are
of : (c : goal.After-settle-arg-2-1) → (x : Collection) × MayMend x c.args.table.now c.args.roots.now c.args.moves.now c.args.chosen.now c.args.marked.now c.args.places.now c.args.regions.now
of c = c.requires.can

pub settle-requires-clause-may : goal.settle-requires-clause-may
settle-requires-clause-may c =
    let x = (of c).0 in
    let can = (of c).1 in
    settle-may x c.args.table.now c.args.roots.now c.args.moves.now c.args.chosen.now c.args.marked.now c.args.places.now c.args.regions.now can
    (c.what_it_mends_may_be_mended.ensures.settle c.args.roots.now x can.is)

settles : (c : goal.After-fix_places-arg-2-1) → (x : Collection) × MayMend x c.args.table.now c.args.roots.now c.args.moves.now c.args.chosen.now c.args.marked.now c.args.places.now c.args.regions.now
settles c = c.requires.can

pub fix_places-requires-clause-slots : goal.fix_places-requires-clause-slots
fix_places-requires-clause-slots c =
    let x = (settles c).0 in
    let can = (settles c).1 in
    subst (λ (ps : List ℕ). AreSlots c.settle.new.table ps) (sym can.places_are)
    (subst (λ (t : Table). AreSlots t x.places) (sym (settled-is x c.args.table.now c.args.roots.now c.args.moves.now c.args.chosen.now c.args.marked.now c.args.places.now c.args.regions.now can c.settle.new.table c.settle.ensures.table))
    (c.what_it_mends_may_be_mended.ensures.slots c.args.roots.now x can.is))

pub fix_places-requires-clause-ascending : goal.fix_places-requires-clause-ascending
fix_places-requires-clause-ascending c =
    let x = (settles c).0 in
    let can = (settles c).1 in
    subst IsAscending (sym can.places_are) (c.what_it_mends_may_be_mended.ensures.ascending c.args.roots.now x can.is)

pub fix_places-requires-clause-references : goal.fix_places-requires-clause-references
fix_places-requires-clause-references c = λ p among.
    let x = (settles c).0 in
    let can = (settles c).1 in
    subst (λ (t : Table). IsReference (word_at t p)) (sym (settled-is x c.args.table.now c.args.roots.now c.args.moves.now c.args.chosen.now c.args.marked.now c.args.places.now c.args.regions.now can c.settle.new.table c.settle.ensures.table))
    (c.what_it_mends_may_be_mended.ensures.words c.args.roots.now x p can.is (subst (λ (ps : List ℕ). IsTrue (is_in p ps)) can.places_are among))

mends : (c : goal.After-fix_regions-arg-2-1) → (x : Collection) × MayMend x c.args.table.now c.args.roots.now c.args.moves.now c.args.chosen.now c.args.marked.now c.args.places.now c.args.regions.now
mends c = c.requires.can

shape-mended : (c : goal.After-fix_regions-arg-2-1) → c.fix_places.new.table.shape ≡ (mends c).0.table.shape
shape-mended c =
    places-shape (mends c).0 c.args.table.now c.args.roots.now c.args.moves.now c.args.chosen.now c.args.marked.now c.args.places.now c.args.regions.now (mends c).1
    c.settle.new.table c.settle.ensures.table c.fix_places.new.table c.fix_places.ensures.mended

table-mended : (c : goal.After-fix_regions-arg-2-1) → c.fix_places.new.table ≡ places_mended (mends c).0 c.args.moves.now
table-mended c =
    places-is (mends c).0 c.args.table.now c.args.roots.now c.args.moves.now c.args.chosen.now c.args.marked.now c.args.places.now c.args.regions.now (mends c).1
    c.settle.new.table c.settle.ensures.table c.fix_places.new.table c.fix_places.ensures.mended

cards-mended : (c : goal.After-fix_regions-arg-2-1) → c.fix_places.new.cards.shape ≡ c.args.cards.now.shape
cards-mended c =
    cards-shape (mends c).0 c.args.table.now c.args.roots.now c.args.moves.now c.args.chosen.now c.args.marked.now c.args.places.now c.args.regions.now (mends c).1
    c.settle.new.table c.settle.ensures.table c.fix_places.new.table c.fix_places.ensures.mended c.args.cards.now c.settle.new.cards c.fix_places.new.cards
    c.fix_places.new.cards c.fix_places.new.table c.settle.ensures.cards c.fix_places.ensures.dirty

pub fix_regions-requires-clause-shape : goal.fix_regions-requires-clause-shape
fix_regions-requires-clause-shape c =
    cards-mended c ∙ (c.requires.shape ∙ (ap (λ (t : Table). t.shape) (mends c).1.table ∙ (refilled-shape (mends c).0 ∙ sym (shape-mended c))))

pub fix_regions-requires-clause-within : goal.fix_regions-requires-clause-within
fix_regions-requires-clause-within c = λ q among.
    let can = (mends c).1 in
    subst (λ (s : Shape). q < s.regions) (sym (shape-mended c))
    (c.what_it_mends_may_be_mended.ensures.within c.args.roots.now (mends c).0 c.args.regions.now q can.is can.regions_are among)

pub fix_regions-requires-clause-references : goal.fix_regions-requires-clause-references
fix_regions-requires-clause-references c = λ a among.
    let can = (mends c).1 in
    subst (λ (t : Table). All IsReference (words_in (things_of t a))) (sym (table-mended c))
    (c.what_it_mends_may_be_mended.ensures.references c.args.roots.now (mends c).0 c.args.moves.now c.args.regions.now a can.is
    (subst IsTable (settled-is (mends c).0 c.args.table.now c.args.roots.now c.args.moves.now c.args.chosen.now c.args.marked.now c.args.places.now c.args.regions.now can
    c.settle.new.table c.settle.ensures.table) c.settle.ensures.limits) can.regions_are
    (subst (λ (s : Shape). IsTrue (lies_among s c.args.regions.now a)) (shape-mended c) among))

pub fix_roots-requires : goal.fix_roots-requires
fix_roots-requires c = c.what_it_mends_may_be_mended.ensures.roots c.args.roots.now c.requires.can.0 c.requires.can.1.is

pub returns-clause-mended : goal.returns-clause-mended
returns-clause-mended c = λ x can.
    is-mended x c.args.table.now c.args.roots.now c.args.moves.now c.args.chosen.now c.args.marked.now c.args.places.now c.args.regions.now can
    c.settle.new.table c.settle.ensures.table c.fix_places.new.table c.fix_places.ensures.mended c.args.cards.now c.settle.new.cards c.fix_places.new.cards
    c.fix_regions.new.cards c.fix_regions.new.table c.settle.ensures.cards c.fix_places.ensures.dirty
    c.settle.ensures.limits c.geometry.ensures.limits c.fix_regions.ensures.mended c.fix_regions.ensures.same c.fix_regions.ensures.dirty

pub returns-clause-shape : goal.returns-clause-shape
returns-clause-shape c =
    let can = c.requires.can.1 in
    c.fix_regions.ensures.dirty.shape
    ∙ cards-shape c.requires.can.0 c.args.table.now c.args.roots.now c.args.moves.now c.args.chosen.now c.args.marked.now c.args.places.now c.args.regions.now can
    c.settle.new.table c.settle.ensures.table c.fix_places.new.table c.fix_places.ensures.mended c.args.cards.now c.settle.new.cards c.fix_places.new.cards
    c.fix_regions.new.cards c.fix_regions.new.table c.settle.ensures.cards c.fix_places.ensures.dirty
