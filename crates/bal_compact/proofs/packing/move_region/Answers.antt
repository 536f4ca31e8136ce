use Rattle.std.proofs.Common.{◌≡◌, ℕ, ◌+◌, ◌*◌, ◌<◌, ◌≤◌, ◌∙◌, Some, ap, arith, subst, sym}
use Rattle.bal_compact.specs.Packing.{IsMovedTo}
use Rattle.bal_compact.proofs.MovedRegion.{first-words, last-moved, last-words, next-counted, next-fits, next-inside, next-moved}
use Rattle.bal_compact.proofs.packing.move_region.Goals as goal
use Rattle.bal_compact.proofs.packing.move_region.Goals.{After-first_from, In-Some}
use Rattle.bal_layout.specs.Addresses.{address_in}
use Rattle.bal_layout.specs.Shape.{Shape}
use Rattle.bal_plan.specs.Plan.{words_into}
use Rattle.bal_region.specs.Land.{Land, first_from}
use Rattle.bal_table.specs.Moves.{moved_to}
use Rattle.bal_table.specs.Table.{Table, land_at}

pub loop-offset-init : goal.loop-offset-init
loop-offset-init c =
    let t = c.args.table.now in
    let q = c.args.region in
    let to = moved_to c.args.moves.now in
    let at : q * t.shape.words ≡ address_in t.shape q 0 = omega arith in
    record {
      moved = λ before m. subst (IsMovedTo before t to q) at m;
      words = λ before m. sym (first-words before t to q m) ∙ ap (λ a. words_into before to a q) at;
      within = omega arith;
      fits = omega arith;
    }

-- the table as it was when the region began
abbrev Begun : After-first_from → Table → Type 0
Begun c before = IsMovedTo before c.args.table.now (moved_to c.args.moves.now) c.args.region (c.args.region * c.args.table.now.shape.words)

-- the table has the same shape still
shape : (c : After-first_from) → c.loop-offset.table.shape ≡ c.args.table.now.shape
shape c = let m = c.requires.moving in (c.loop-offset.invariant.moved m.0 m.1).shape ∙ sym m.1.shape

within : (c : After-first_from) → c.args.region < c.loop-offset.table.shape.regions
within c = omega (arith, c.requires.within, ap (λ (s : Shape). s.regions) (shape c))

-- so far those in front of the offset have moved
moved : (c : After-first_from) (before : Table) → Begun c before
    → IsMovedTo before c.loop-offset.table (moved_to c.args.moves.now) c.args.region (address_in c.loop-offset.table.shape c.args.region c.loop-offset.at)
moved c before m =
    subst (λ (s : Shape). IsMovedTo before c.loop-offset.table (moved_to c.args.moves.now) c.args.region (address_in s c.args.region c.loop-offset.at))
    (sym (shape c)) (c.loop-offset.invariant.moved before m)

counted : (c : After-first_from) (before : Table) → Begun c before
    → c.loop-offset.words ≡ words_into before (moved_to c.args.moves.now) (address_in c.loop-offset.table.shape c.args.region c.loop-offset.at) c.args.region
counted c before m =
    c.loop-offset.invariant.words before m
    ∙ ap (λ (s : Shape). words_into before (moved_to c.args.moves.now) (address_in s c.args.region c.loop-offset.at) c.args.region) (sym (shape c))

-- The next object.

found : (c : In-Some) → first_from (land_at c.loop-offset.table c.args.region) c.loop-offset.at ≡ Some c.in-Some.offset
found c = sym (c.in-Some.ensures.least ∙ ap (λ (l : Land). first_from l c.loop-offset.at) c.region.ensures)

module _ (c : After-first_from) (o : ℕ) (is : first_from (land_at c.loop-offset.table c.args.region) c.loop-offset.at ≡ Some o) where
  abbrev q : ℕ
  q = c.args.region

  abbrev to : ℕ → ℕ
  to = moved_to c.args.moves.now

  abbrev here : ℕ
  here = address_in c.loop-offset.table.shape q o

  inside : o < c.args.table.now.shape.words
  inside = let m = c.requires.moving in
      omega (arith, next-inside m.0 c.loop-offset.table to q c.loop-offset.at (within c) (moved c m.0 m.1) o is, ap (λ (s : Shape). s.words) (shape c))

  next : (before : Table) → Begun c before → IsMovedTo before c.loop-offset.table to q here
  next before m = next-moved before c.loop-offset.table to q c.loop-offset.at (within c) (moved c before m) o is

  -- the address behind it
  behind : here + 1 ≡ address_in c.args.table.now.shape q (o + 1)
  behind = ap (λ (s : Shape). address_in s q o + 1) (shape c) ∙ omega arith

  -- the words of it that stay
  abbrev Gains : Table → ℕ → Type 0
  Gains before gain = words_into before to (here + 1) q ≡ words_into before to here q + gain

  total : (before : Table) → Begun c before → (gain : ℕ) → Gains before gain → c.loop-offset.words + gain ≡ words_into before to (address_in c.args.table.now.shape q (o + 1)) q
  total before m gain more =
      next-counted before c.loop-offset.table to q c.loop-offset.at (within c) (moved c before m) o is c.loop-offset.words gain (counted c before m) more
      ∙ ap (λ a. words_into before to a q) behind

  fits : (before : Table) → Begun c before → (gain : ℕ) → Gains before gain → c.loop-offset.words + gain ≤ c.args.table.now.shape.words
  fits before m gain more =
      let words = ap (λ (s : Shape). s.words) (shape c) in
      omega (
        arith,
        words,
        next-fits before c.loop-offset.table to q c.loop-offset.at (within c) (moved c before m) o is c.loop-offset.words gain (counted c before m) more
            (omega (arith, c.loop-offset.invariant.fits, words)),
      )

pub move_object-words-requires-clause-moving : goal.move_object-words-requires-clause-moving
move_object-words-requires-clause-moving c =
    let at = goal.at.move_object-words-requires-clause-moving c in
    let m = c.requires.moving in
    (m.0, next at.After-first_from c.in-Some.offset (found at.In-Some) m.0 m.1)

pub overflow_add-words : goal.overflow_add-words
overflow_add-words c =
    let at = goal.at.overflow_add-words c in
    let d = at.After-first_from in
    let is = found at.In-Some in
    let m = c.requires.moving in
    let more = c.move_object-words.ensures.words m.0 (next d c.in-Some.offset is m.0 m.1) in
    omega (arith, fits d c.in-Some.offset is m.0 m.1 c.move_object-words.result more, c.geometry-geometry.ensures.limits.shape.most_words)

pub overflow_add-at : goal.overflow_add-at
overflow_add-at c =
    let at = goal.at.overflow_add-at c in
    omega (arith, inside at.After-first_from c.in-Some.offset (found at.In-Some), c.geometry-geometry.ensures.limits.shape.most_words)

pub loop-offset-smaller : goal.loop-offset-smaller
loop-offset-smaller c =
    let at = goal.at.loop-offset-smaller c in
    omega (arith, inside at.After-first_from c.in-Some.offset (found at.In-Some), c.in-Some.ensures.behind)

pub loop-offset-preserved : goal.loop-offset-preserved
loop-offset-preserved c =
    let at = goal.at.loop-offset-preserved c in
    let d = at.After-first_from in
    let o = c.in-Some.offset in
    let is = found at.In-Some in
    let m = c.requires.moving in
    let gain = c.move_object-words.result in
    record {
      moved = λ before begun. subst (IsMovedTo before c.move_object-words.new.table (moved_to c.args.moves.now) c.args.region) (behind d o is)
          (c.move_object-words.ensures.moving before (next d o is before begun));
      words = λ before begun. total d o is before begun gain (c.move_object-words.ensures.words before (next d o is before begun));
      within = omega (arith, inside d o is);
      fits = fits d o is m.0 m.1 gain (c.move_object-words.ensures.words m.0 (next d o is m.0 m.1));
    }

-- The last one.

pub returns-clause-moving : goal.returns-clause-moving
returns-clause-moving c before m =
    let d = (goal.at.returns-clause-moving c).After-first_from in
    let t = c.loop-offset.table in
    let q = c.args.region in
    let to = moved_to c.args.moves.now in
    let none = sym (c.in_default.ensures.least ∙ ap (λ (l : Land). first_from l c.loop-offset.at) c.region.ensures) in
    let inside : c.loop-offset.at ≤ t.shape.words = omega (arith, c.loop-offset.invariant.within, ap (λ (s : Shape). s.words) (shape d)) in
    subst (λ (s : Shape). IsMovedTo before t to q ((q + 1) * s.words)) (shape d)
    (last-moved before t to q c.loop-offset.at (within d) (moved d before m) inside none)

pub returns-clause-words : goal.returns-clause-words
returns-clause-words c before m =
    let d = (goal.at.returns-clause-words c).After-first_from in
    let t = c.loop-offset.table in
    let q = c.args.region in
    let to = moved_to c.args.moves.now in
    let none = sym (c.in_default.ensures.least ∙ ap (λ (l : Land). first_from l c.loop-offset.at) c.region.ensures) in
    let inside : c.loop-offset.at ≤ t.shape.words = omega (arith, c.loop-offset.invariant.within, ap (λ (s : Shape). s.words) (shape d)) in
    counted d before m
    ∙ (sym (last-words before t to q c.loop-offset.at (within d) (moved d before m) inside none)
    ∙ ap (λ (s : Shape). words_into before to ((q + 1) * s.words) q) (shape d))
