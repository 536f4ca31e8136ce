use Rattle.std.proofs.Common.{◌≡◌, ℕ, ◌+◌, ◌*◌, ◌<◌, ◌≤◌, ◌++◌, ◌∷◌, ◌∙◌, [], List, None, Some, ap, arith, length, length-append, subst, sym}
use Rattle.bal_layout.specs.Addresses.{address_in}
use Rattle.bal_layout.specs.Shape.{Shape}
use Rattle.bal_plan.proofs.Lemmas.{region-inside}
use Rattle.bal_region.specs.Land.{Land, first_from}
use Rattle.bal_table.specs.Table.{land_at}
use Rattle.bal_gather.specs.Numbers.{starts_below}
use Rattle.bal_gather.proofs.Numbering.{IsWritten, last-start, next-inside, next-start, numbered-few, written-all, written-next, written-none}
use Rattle.bal_gather.proofs.numbered.number_chosen.Goals as goal
use Rattle.bal_gather.proofs.numbered.number_chosen.Goals.{After-len, In-Some, In_default}

-- the next object of the region starts there
next : (c : In-Some) → first_from (land_at c.args.chosen.now.table c.args.region) c.loop-offset.at ≡ Some c.in-Some.offset
next c = sym (c.in-Some.ensures.least ∙ ap (λ (l : Land). first_from l c.loop-offset.at) c.region.ensures)

inside : (c : In-Some) → (c.loop-offset.at ≤ c.in-Some.offset) × (c.in-Some.offset < c.args.chosen.now.table.shape.words)
inside c =
    next-inside c.args.chosen.now c.args.region c.geometry-geometry.ensures.limits (c.geometry-geometry.ensures.chosen.within c.args.region c.requires.chosen)
    c.loop-offset.at c.requires.chosen c.in-Some.offset (next c)

-- and is listed then
listed : (c : After-len) → c.push.new.self.items ≡ starts_below c.args.chosen.now (c.args.region * c.args.chosen.now.table.shape.words + (c.in-Some.offset + 1))
listed c =
    let at = goal.at.overflow_cast-len c in
    let l = c.args.chosen.now in
    c.in_ok-push.ensures.items
    ∙ (ap (λ (xs : List ℕ). xs ++ c.address.result ∷ []) c.loop-offset.invariant.addresses
    ∙ (ap (λ a. starts_below l (c.args.region * l.table.shape.words + c.loop-offset.at) ++ a ∷ [])
    (c.address.ensures.address ∙ ap (λ (s : Shape). address_in s c.args.region c.in-Some.offset) c.geometry-geometry.ensures.shape)
    ∙ sym (next-start l c.args.region c.geometry-geometry.ensures.limits (c.geometry-geometry.ensures.chosen.within c.args.region c.requires.chosen) c.loop-offset.at c.requires.chosen
    c.in-Some.offset (next at.In-Some))))

pub loop-offset-init : goal.loop-offset-init
loop-offset-init c =
    let l = c.args.chosen.now in
    let q = c.args.region in
    let start : q * l.table.shape.words + 0 ≡ q * l.table.shape.words = omega arith in
    record {
      addresses = c.requires.before ∙ ap (starts_below l) (sym start);
      written = subst (IsWritten l q 0) (sym (c.in_ok-numbers.ensures.items_if_clones_equal (λ y same. same)))
          (written-none l q c.words.result (c.words.ensures.number ∙ ap (λ (s : Shape). s.words) c.geometry-geometry.ensures.shape));
      within = omega arith;
    }

pub address-requires-clause-offset : goal.address-requires-clause-offset
address-requires-clause-offset c =
    omega (arith, (inside (goal.at.address-requires-clause-offset c).In-Some).1, ap (λ (s : Shape). s.words) c.geometry-geometry.ensures.shape)

pub overflow_cast-len : goal.overflow_cast-len
overflow_cast-len c =
    let at = goal.at.overflow_cast-len c in
    let l = c.args.chosen.now in
    let q = c.args.region in
    let table = c.geometry-geometry.ensures.limits in
    omega (
      arith,
      c.len.ensures,
      c.push.new.self.ok.0,
      ap (λ (xs : List ℕ). length xs) (listed c),
      numbered-few l (q * l.table.shape.words + (c.in-Some.offset + 1)),
      (inside at.In-Some).1,
      region-inside l.table q c.loop-offset.at table (c.geometry-geometry.ensures.chosen.within q c.requires.chosen),
      table.shape.words_in_all,
    )

pub index_mut-requires : goal.index_mut-requires
index_mut-requires c = omega (arith, (inside (goal.at.index_mut-requires c).In-Some).1, c.loop-offset.invariant.written.long, c.loop-offset.numbers.ok.0)

pub loop-offset-smaller : goal.loop-offset-smaller
loop-offset-smaller c = let i = inside (goal.at.loop-offset-smaller c).In-Some in omega (arith, i.0, i.1)

pub loop-offset-preserved : goal.loop-offset-preserved
loop-offset-preserved c =
    let at = goal.at.loop-offset-preserved c in
    let l = c.args.chosen.now in
    record {
      addresses = listed at.After-len;
      written = written-next l c.args.region c.loop-offset.at c.loop-offset.numbers.items c.geometry-geometry.ensures.limits
          (c.geometry-geometry.ensures.chosen.within c.args.region c.requires.chosen) c.requires.chosen c.loop-offset.invariant.written c.in-Some.offset c.len.result (next at.In-Some)
          (omega (
            arith,
            c.len.ensures,
            c.push.new.self.ok.0,
            ap (λ (xs : List ℕ). length xs) c.in_ok-push.ensures.items,
            length-append c.loop-offset.addresses.items (c.address.result ∷ []),
            ap (λ (xs : List ℕ). length xs) c.loop-offset.invariant.addresses,
          ));
      within = (let i = inside at.In-Some in omega (arith, i.1));
    }

-- none is found any more
none : (c : In_default) → first_from (land_at c.args.chosen.now.table c.args.region) c.loop-offset.at ≡ None
none c = sym (ap (λ (l : Land). first_from l c.loop-offset.at) c.region.ensures) ∙ (sym c.first_from.ensures.least ∙ c.in_default.is)

pub returns-clause-addresses : goal.returns-clause-addresses
returns-clause-addresses c =
    c.loop-offset.invariant.addresses
    ∙ sym (last-start c.args.chosen.now c.args.region c.geometry-geometry.ensures.limits (c.geometry-geometry.ensures.chosen.within c.args.region c.requires.chosen)
    c.loop-offset.at c.requires.chosen (none c) c.loop-offset.invariant.within)

pub returns-clause-numbers : goal.returns-clause-numbers
returns-clause-numbers c =
    written-all c.args.chosen.now c.args.region c.loop-offset.at c.loop-offset.numbers.items c.geometry-geometry.ensures.limits
    (c.geometry-geometry.ensures.chosen.within c.args.region c.requires.chosen) c.requires.chosen c.loop-offset.invariant.written (none c)
