use Rattle.std.proofs.Common.{◌≡◌, ◌+◌, ◌-◌, ◌≤◌, ◌++◌, [], ◌∷◌, List, ap, append_assoc, append-nil, arith, length, length-append, sym, ◌∙◌}
use Rattle.bal_table.specs.Slots.{slots_between}
use Rattle.bal_table.specs.declared.slots.Slot.{Slot}
use Rattle.bal_table.proofs.ObjectFrom.{run, run-none}
use Rattle.bal_table.proofs.SlotPlaces.{between-join, between-more, between-none}
use Rattle.bal_table.proofs.reading.object_slots.Goals as goal
use Rattle.bal_table.proofs.reading.object_slots.Goals.{After-header-header}

-- nothing more is appended
same : (list more : List Slot) → more ≡ [] → list ≡ list ++ more
same list more none = sym (append-nil list) ∙ ap (λ (l : List Slot). list ++ l) (sym none)

-- no object is left
pub returns-in_default-clause-slots : goal.returns-in_default-clause-slots
returns-in_default-clause-slots g c =
    let t = (g.T.Readable.table c.args.table.now) in
    let table = c.shape.ensures.limits in
    same c.args.into.now.list (slots_between t c.args.place c.args.end)
    (run-none t c.args.place c.args.end table (omega (arith, c.requires.before, c.requires.within)) (sym c.in_default.ensures.object) c.requires.region)

pub overflow_add-behind : goal.overflow_add-behind
overflow_add-behind g c = let r = run (g.T.Readable.table c.args.table.now) c.args.place c.in-Some.holder c.header-header.result.refs c.header-header.result.values c.shape.ensures.limits
    (omega (arith, c.requires.before, c.requires.within)) (sym c.in-Some.ensures.object) c.header-header.ensures.refs c.header-header.ensures.values in omega (arith, r.inside, c.shape.ensures.limits.shape.words_in_all)

-- before its slots there are none
pub loop-at-init : goal.loop-at-init
loop-at-init g c =
    let r = run (g.T.Readable.table c.args.table.now) c.args.place c.in-Some.holder c.header-header.result.refs c.header-header.result.values c.shape.ensures.limits
    (omega (arith, c.requires.before, c.requires.within)) (sym c.in-Some.ensures.object) c.header-header.ensures.refs c.header-header.ensures.values in
    record {
      to = omega arith;
      slots = same c.args.into.now.list (slots_between (g.T.Readable.table c.args.table.now) c.args.place c.min-at.result)
          (between-none (g.T.Readable.table c.args.table.now) c.args.place c.min-at.result (λ q from to. r.before q from (omega (arith, c.max.ensures, c.min-at.ensures))));
      kept = omega arith;
      room = omega arith;
    }

-- the slot at this place is appended
pub loop-at-preserved : goal.loop-at-preserved
loop-at-preserved g c =
    let r = run (g.T.Readable.table c.args.table.now) c.args.place c.in-Some.holder c.header-header.result.refs c.header-header.result.values c.shape.ensures.limits
    (omega (arith, c.requires.before, c.requires.within)) (sym c.in-Some.ensures.object) c.header-header.ensures.refs c.header-header.ensures.values in
    let t = (g.T.Readable.table c.args.table.now) in
    let at = c.loop-at.at in
    let from : c.args.place ≤ at = omega (arith, c.loop-at.auto.at, c.max.ensures, c.min-at.ensures, c.requires.before) in
    let slot : Slot = record { holder = c.in-Some.holder; number = at - (c.in-Some.holder + 2) } in
    let here = r.slot at (omega (arith, c.loop-at.auto.at, c.loop-at-test.true, c.max.ensures, c.min-at.ensures, c.min-at-end.ensures))
    (omega (arith, c.loop-at-test.true, c.min-at-end.ensures)) in
    record {
      to = omega (arith, c.loop-at-test.true, c.min-at-end.ensures);
      slots = c.push.ensures.list
          ∙ (ap (λ (l : List Slot). l ++ slot ∷ []) c.loop-at.invariant.slots
          ∙ (append_assoc c.args.into.now.list (slots_between t c.args.place at) (slot ∷ [])
          ∙ ap (λ (l : List Slot). c.args.into.now.list ++ l) (sym (between-more t c.args.place at slot from here))));
      kept = omega (arith, c.loop-at.invariant.kept, c.push.ensures.spare, ap length c.push.ensures.list, length-append c.loop-at.into.list (slot ∷ []));
      room = omega (arith, c.loop-at.invariant.room, c.push.ensures.spare);
    }

pub overflow_add-behind-2 : goal.overflow_add-behind-2
overflow_add-behind-2 g c = let r = run (g.T.Readable.table c.args.table.now) c.args.place c.in-Some.holder c.header-header.result.refs c.header-header.result.values c.shape.ensures.limits
    (omega (arith, c.requires.before, c.requires.within)) (sym c.in-Some.ensures.object) c.header-header.ensures.refs c.header-header.ensures.values in omega (arith, r.inside, c.shape.ensures.limits.shape.words_in_all)

pub returns-clause-onward : goal.returns-clause-onward
returns-clause-onward g c = let r = run (g.T.Readable.table c.args.table.now) c.args.place c.in-Some.holder c.header-header.result.refs c.header-header.result.values c.shape.ensures.limits
    (omega (arith, c.requires.before, c.requires.within)) (sym c.in-Some.ensures.object) c.header-header.ensures.refs c.header-header.ensures.values in omega (arith, r.ends, c.min.ensures, c.requires.before)

-- and behind its slots there are none
pub returns-clause-slots : goal.returns-clause-slots
returns-clause-slots g c =
    let r = run (g.T.Readable.table c.args.table.now) c.args.place c.in-Some.holder c.header-header.result.refs c.header-header.result.values c.shape.ensures.limits
    (omega (arith, c.requires.before, c.requires.within)) (sym c.in-Some.ensures.object) c.header-header.ensures.refs c.header-header.ensures.values in
    let t = (g.T.Readable.table c.args.table.now) in
    let at = c.loop-at.at in
    let on : at ≤ c.min.result = omega (arith, r.ends, c.loop-at.invariant.to, c.max.ensures, c.min-at.ensures, c.min.ensures) in
    let from : c.args.place ≤ at = omega (arith, c.loop-at.auto.at, c.max.ensures, c.min-at.ensures, c.requires.before) in
    let none = between-none t at c.min.result (λ q least most. r.behind q
    (omega (arith, c.loop-at.auto.at, c.loop-at-test.false, c.max.ensures, c.min-at.ensures, c.min-at-end.ensures, c.min.ensures))
    (omega (arith, c.min.ensures))) in
    c.loop-at.invariant.slots
    ∙ ap (λ (l : List Slot). c.args.into.now.list ++ l)
    (same (slots_between t c.args.place at) (slots_between t at c.min.result) none ∙ sym (between-join t c.args.place at c.min.result from on))

pub returns-clause-room : goal.returns-clause-room
returns-clause-room g c =
    let r = run (g.T.Readable.table c.args.table.now) c.args.place c.in-Some.holder c.header-header.result.refs c.header-header.result.values c.shape.ensures.limits
    (omega (arith, c.requires.before, c.requires.within)) (sym c.in-Some.ensures.object) c.header-header.ensures.refs c.header-header.ensures.values in
    omega (arith, r.ends, c.loop-at.invariant.to, c.loop-at.invariant.room, c.max.ensures, c.min-at.ensures, c.min.ensures, c.requires.before)
