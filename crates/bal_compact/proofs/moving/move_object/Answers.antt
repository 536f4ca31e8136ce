use Rattle.std.proofs.Common.{◌≡◌, ℕ, ◌+◌, ◌<◌, ◌∙◌, length, ap, arith, refl, subst, sym, true}
use Rattle.std.specs.Prelude.{unwrap_or}
use Rattle.bal_compact.specs.Packing.{IsMovedTo, to_below, with_joined}
use Rattle.bal_compact.proofs.Below.{below-left, redirected}
use Rattle.bal_compact.proofs.MovedOne.{IsTable-joined, goes-lower, length-read, may-carry, may-slide, moved-carried, moved-slid, moved-stays, object, place, taken, words-leaves, words-stays}
use Rattle.bal_compact.proofs.moving.move_object.Goals as goal
use Rattle.bal_compact.proofs.moving.move_object.Goals.{After-age_of-age, After-object, After-region_of-target}
use Rattle.bal_layout.specs.Addresses.{address_in, region_of}
use Rattle.bal_layout.specs.Regions.{age_of}
use Rattle.bal_layout.specs.Shape.{Shape}
use Rattle.bal_plan.specs.Plan.{words_into}
use Rattle.bal_region.specs.Land.{Land, object_at}
use Rattle.bal_table.specs.Changes.{MayCarry, MayMoveDown, with_carried, with_slid_object}
use Rattle.bal_table.specs.Moves.{moved_to}
use Rattle.bal_table.specs.Table.{Table, role_at, things_of}
use Rattle.bal_table.proofs.Lemmas.{start-inside}
use Rattle.bal_words.specs.Moved.{Redirected}
use Rattle.bal_words.proofs.Lemmas.{there}

pub address-from-requires-clause-offset : goal.address-from-requires-clause-offset
address-from-requires-clause-offset c = omega (
  arith,
  start-inside c.args.table.now c.args.region c.args.offset c.geometry-geometry.ensures.limits c.requires.within c.requires.start,
  ap (λ (s : Shape). s.words) c.geometry-geometry.ensures.shape,
)

-- none goes up
pub region_of-target-requires : goal.region_of-target-requires
region_of-target-requires c =
    let t = c.args.table.now in
    let to = moved_to c.args.moves.now in
    let m = c.requires.moving in
    let at = c.address-from.ensures.address ∙ ap (λ (s : Shape). address_in s c.args.region c.args.offset) c.geometry-geometry.ensures.shape in
    let goes = c.unwrap_or-to.ensures ∙ (ap (λ o. unwrap_or o c.address-from.result) c.to.ensures.to ∙ ap to at) in
    omega (
      arith,
      goes,
      at,
      c.address-from.ensures.within,
      m.1.may.plan.down (address_in t.shape c.args.region c.args.offset) (object m.0 t to c.args.region c.args.offset m.1 c.requires.within c.requires.start),
    )

-- Where the object starts, and where it goes.

abbrev from : After-region_of-target → ℕ
from c = address_in c.args.table.now.shape c.args.region c.args.offset

abbrev to : After-region_of-target → ℕ → ℕ
to c = moved_to c.args.moves.now

at : (c : After-region_of-target) → c.address-from.result ≡ from c
at c = c.address-from.ensures.address ∙ ap (λ (s : Shape). address_in s c.args.region c.args.offset) c.geometry-geometry.ensures.shape

goes : (c : After-region_of-target) → c.unwrap_or-to.result ≡ to c (from c)
goes c = c.unwrap_or-to.ensures ∙ (ap (λ o. unwrap_or o c.address-from.result) c.to.ensures.to ∙ ap (to c) (at c))

target : (c : After-region_of-target) → region_of c.args.table.now.shape (to c (from c)) ≡ c.region_of-target.result
target c = sym (c.region_of-target.ensures.region
    ∙ (ap (region_of c.geometry-geometry.result) (goes c) ∙ ap (λ (s : Shape). region_of s (to c (from c))) c.geometry-geometry.ensures.shape))

-- those below it have moved
abbrev Moved : After-region_of-target → Table → Type 0
Moved c before = IsMovedTo before c.args.table.now (to c) c.args.region (from c)

-- It stays in its region.

pub overflow_cast-words : goal.overflow_cast-words
overflow_cast-words c =
    let table = c.geometry-geometry.ensures.limits in
    let region = table.each c.args.region c.requires.within in
    omega (arith, c.object.ensures.within, ap (λ (l : Land). l.used) c.region.ensures, region.land.within, region.words, table.shape.most_words)

slides : (c : After-region_of-target) → c.region_of-target.result ≡ c.args.region → (before : Table) → Moved c before
    → MayMoveDown c.args.table.now (from c) (to c (from c))
slides c same before m = may-slide before c.args.table.now (to c) c.args.region c.args.offset m c.requires.within c.requires.start (target c ∙ same)

pub slide-requires : goal.slide-requires
slide-requires c =
    let d = (goal.at.slide-requires c).After-region_of-target in
    let m = c.requires.moving in
    subst (λ a. MayMoveDown c.args.table.now a c.unwrap_or-to.result) (sym (at d))
    (subst (MayMoveDown c.args.table.now (from d)) (sym (goes d)) (slides d c.if-target-region.true m.0 m.1))

pub returns-then-to-from-clause-moving : goal.returns-then-to-from-clause-moving
returns-then-to-from-clause-moving c before m =
    let d = (goal.at.returns-then-to-from-clause-moving c).After-region_of-target in
    let t = c.args.table.now in
    let q = c.args.region in
    let a = from d in
    let x = there (things_of before a) (object before t (to d) q c.args.offset m c.requires.within c.requires.start) in
    let carried = c.objects_of_a_table_are_moved_one_by_one.ensures.slid (things_of before) t m.may.graph (λ b. true) (to_below (to d) a) (to_below (to d) (a + 1)) a (to d a) x.0
    m.may.shows m.carried x.1 refl (below-left (to d) a a (omega arith)) m.table (slides d c.if-target-region.true before m) (redirected (to d) a) in
    let next = moved-slid before t (to d) q c.args.offset m c.requires.within c.requires.start (target d ∙ c.if-target-region.true) carried in
    let slid : c.slide.new.self ≡ with_slid_object t a (to d a) =
    c.slide.ensures ∙ (ap (λ b. with_slid_object t b c.unwrap_or-to.result) (at d) ∙ ap (with_slid_object t a) (goes d)) in
    subst (λ u. IsMovedTo before u (to d) q (a + 1)) (sym slid) next

-- it is where it was
pub returns-else-to-from-clause-moving : goal.returns-else-to-from-clause-moving
returns-else-to-from-clause-moving c before m =
    let d = (goal.at.returns-else-to-from-clause-moving c).After-region_of-target in
    moved-stays before c.args.table.now (to d) c.args.region c.args.offset m c.requires.within c.requires.start (target d ∙ c.if-target-region.true)
    (sym (goes d) ∙ (c.if-to-from.false ∙ at d))

-- the words that are answered
more : (c : After-object) → region_of c.args.table.now.shape (moved_to c.args.moves.now (address_in c.args.table.now.shape c.args.region c.args.offset)) ≡ c.args.region
    → (before : Table) → IsMovedTo before c.args.table.now (moved_to c.args.moves.now) c.args.region (address_in c.args.table.now.shape c.args.region c.args.offset)
    → words_into before (moved_to c.args.moves.now) (address_in c.args.table.now.shape c.args.region c.args.offset + 1) c.args.region
    ≡ words_into before (moved_to c.args.moves.now) (address_in c.args.table.now.shape c.args.region c.args.offset) c.args.region + length c.object.result.now
more c stays before m =
    let t = c.args.table.now in
    let to = moved_to c.args.moves.now in
    let q = c.args.region in
    let read = ap (λ (l : Land). object_at l c.args.offset) (sym c.region.ensures) ∙ c.object.ensures.words in
    omega (
      arith,
      length-read before t to q c.args.offset m c.requires.within c.requires.start c.object.result.now read,
      words-stays before t to q c.args.offset m c.requires.within c.requires.start stays,
    )

pub returns-then-to-from-clause-words : goal.returns-then-to-from-clause-words
returns-then-to-from-clause-words c =
    let f = goal.at.returns-then-to-from-clause-words c in
    more f.After-object (target f.After-region_of-target ∙ c.if-target-region.true)

pub returns-else-to-from-clause-words : goal.returns-else-to-from-clause-words
returns-else-to-from-clause-words c =
    let f = goal.at.returns-else-to-from-clause-words c in
    more f.After-object (target f.After-region_of-target ∙ c.if-target-region.true)

-- It goes to a lower region.

less : (c : After-region_of-target) → (c.region_of-target.result ≡ c.args.region → ⊥) → (before : Table) → Moved c before → c.region_of-target.result < c.args.region
less c other before m = omega (
  arith,
  target c,
  goes-lower before c.args.table.now (to c) c.args.region c.args.offset m c.requires.within c.requires.start (λ e. other (sym (target c) ∙ e)),
)

old : (c : After-age_of-age) → c.age_of-age.result ≡ age_of (role_at c.args.table.now c.args.region)
old c = c.age_of-age.ensures ∙ ap age_of c.role.ensures

pub join_region-requires-clause-lowest : goal.join_region-requires-clause-lowest
join_region-requires-clause-lowest c =
    let f = goal.at.join_region-requires-clause-lowest c in
    let d = f.After-region_of-target in
    let m = c.requires.moving in
    taken m.0 c.args.table.now (to d) c.args.region c.args.offset m.1 c.requires.within c.requires.start
    c.region_of-target.result c.age_of-age.result (target d) (less d c.if-target-region.false m.0 m.1) (old f.After-age_of-age)

pub carry-requires : goal.carry-requires
carry-requires c =
    let f = goal.at.carry-requires c in
    let d = f.After-region_of-target in
    let m = c.requires.moving in
    let may = may-carry m.0 c.args.table.now (to d) c.args.region c.args.offset m.1 c.requires.within c.requires.start
    c.region_of-target.result c.age_of-age.result (target d) (less d c.if-target-region.false m.0 m.1) (old f.After-age_of-age) in
    subst (λ a. MayCarry c.join_region.new.table a c.region_of-target.result) (sym (at d))
    (subst (λ u. MayCarry u (from d) c.region_of-target.result) (sym c.join_region.ensures) may)

pub returns-clause-moving : goal.returns-clause-moving
returns-clause-moving c before m =
    let f = goal.at.returns-clause-moving c in
    let d = f.After-region_of-target in
    let t = c.args.table.now in
    let q = c.args.region in
    let p = c.region_of-target.result in
    let age = c.age_of-age.result in
    let a = from d in
    let x = there (things_of before a) (object before t (to d) q c.args.offset m c.requires.within c.requires.start) in
    let lower = less d c.if-target-region.false before m in
    let same = old f.After-age_of-age in
    let u = with_joined t p age in
    let may = may-carry before t (to d) q c.args.offset m c.requires.within c.requires.start p age (target d) lower same in
    let new = place before t (to d) q c.args.offset m c.requires.within c.requires.start p age (target d) lower same in
    let table = IsTable-joined before t (to d) q c.args.offset m c.requires.within c.requires.start p age (target d) lower same in
    let carried = c.objects_of_a_table_are_moved_one_by_one.ensures.carried (things_of before) u m.may.graph (λ b. true) (to_below (to d) a) (to_below (to d) (a + 1)) a p x.0
    m.may.shows m.carried x.1 refl (below-left (to d) a a (omega arith)) table may (subst (Redirected (to_below (to d) a) (to_below (to d) (a + 1)) a) (sym new) (redirected (to d) a)) in
    let next = moved-carried before t (to d) q c.args.offset m c.requires.within c.requires.start p age (target d) lower same carried in
    let done : c.carry.new.self ≡ with_carried u a p =
    c.carry.ensures.table ∙ (ap (λ b. with_carried c.join_region.new.table b p) (at d) ∙ ap (λ v. with_carried v a p) c.join_region.ensures) in
    subst (λ v. IsMovedTo before v (to d) q (a + 1)) (sym done) next

pub returns-clause-words : goal.returns-clause-words
returns-clause-words c before m =
    let d = (goal.at.returns-clause-words c).After-region_of-target in
    omega (
      arith,
      words-leaves before c.args.table.now (to d) c.args.region c.args.offset m c.requires.within c.requires.start
          (λ e. c.if-target-region.false (sym (target d) ∙ e)),
    )
