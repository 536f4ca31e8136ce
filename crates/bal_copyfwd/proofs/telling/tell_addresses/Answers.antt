use Rattle.std.proofs.Common.{◌≡◌, ◌++◌, ◌<◌, ◌≤◌, List, ℕ, Option, Some, ap, arith, length, subst, sym, take, take_all, ◌∙◌}
use Rattle.std.specs.Prelude.{◌↔◌, [], ◌∷◌, filter, if◌then◌else◌, option_and_then, slice_get}
use Rattle.std.proofs.lemmas.List.{length-map}
use Rattle.bal_core.specs.declared.event.Decision.{Decision}
use Rattle.bal_copyfwd.specs.Moving.{address_of_copy, is_mark, is_marked_at}
use Rattle.bal_copyfwd.proofs.Told.{copy-all, copy-later, copy-more, copy-none, marked-more}
use Rattle.bal_evacuate.specs.Course.{decision_of}
use Rattle.bal_gather.specs.Lent.{Lent}
use Rattle.bal_gather.specs.Numbers.{number_of, starts_of}
use Rattle.bal_gather.specs.Objects.{age_at}
use Rattle.bal_table.specs.Moves.{moved}
use Rattle.bal_table.specs.Table.{IsTable, things_of}
use Rattle.bal_table.proofs.Lemmas.{object-within, seen}
use Rattle.bal_words.proofs.Lemmas.{there}
use Rattle.bal_copyfwd.proofs.telling.tell_addresses.Goals as goal
use Rattle.bal_copyfwd.proofs.telling.tell_addresses.Goals.{After-geometry}

table : (c : After-geometry) → IsTable c.args.numbered.now.table
table c = subst (λ (l : Lent). IsTable l.table) c.chosen.ensures c.geometry.ensures.limits

-- each number is that of one address
numbers : (c : After-geometry) → (a k : ℕ) → (number_of c.args.numbered.now a ≡ Some k) ↔ (slice_get (starts_of c.args.numbered.now) k ≡ Some a)
numbers c a k = c.objects_are_numbered_by_address.ensures.number c.args.numbered.now a k (table c)

pub loop-object-init : goal.loop-object-init
loop-object-init c =
    let at = (goal.at.loop-object-init c).After-geometry in
    record {
      moves = λ a. c.requires.none a ∙ sym (copy-none c.args.numbered.now (decision_of c.args.evacuated.now) (numbers at) a);
      marked = c.requires.empty;
      room = omega (arith, c.requires.room);
      heap = λ i. length c.args.moves.now.words;
    }

pub tell_address-requires-clause-address : goal.tell_address-requires-clause-address
tell_address-requires-clause-address c =
    let t = c.args.numbered.now.table in
    let a = c.address_of-address.result in
    let x = there (things_of t a) c.address_of-address.ensures.start in
    let z = seen t a x.0 c.address_of-address.ensures.limits x.1 in
    let within = (object-within t a z.object c.address_of-address.ensures.limits z.is).0 in
    subst (λ n. a < n) (sym (c.loop-object.invariant.heap ∙ c.requires.heap)) within

pub tell_address-requires-clause-none : goal.tell_address-requires-clause-none
tell_address-requires-clause-none c =
    let at = (goal.at.tell_address-requires-clause-none c).After-geometry in
    c.loop-object.invariant.moves c.address_of-address.result
    ∙ copy-later c.args.numbered.now (decision_of c.args.evacuated.now) (numbers at) c.loop-object.object c.address_of-address.result c.address_of-address.ensures.address

pub loop-object-preserved : goal.loop-object-preserved
loop-object-preserved c =
    let at = (goal.at.loop-object-preserved c).After-geometry in
    let l = c.args.numbered.now in
    let decisions = decision_of c.args.evacuated.now in
    let n = c.loop-object.object in
    let a = c.address_of-address.result in
    let i = c.loop-object.invariant in
    let here = c.address_of-address.ensures.address in
    let told = c.tell_address.ensures in
    record {
      moves = copy-more l decisions (numbers at) (moved c.loop-object.moves) (moved c.tell_address.new.moves) n a i.moves here
          (told.here ∙ ap (λ (o : Option Decision). option_and_then address_of_copy o) c.decision.ensures) told.others;
      marked =
          told.marked
          ∙ (ap (λ (xs : List ℕ). xs ++ (if is_mark c.decision.result then a ∷ [] else [])) i.marked
          ∙ (ap (λ (o : Option Decision). filter (is_marked_at l decisions) (take n (starts_of l)) ++ (if is_mark o then a ∷ [] else [])) c.decision.ensures
          ∙ sym (marked-more l decisions (numbers at) n a here)));
      room = omega (arith, i.room, told.room);
      heap = told.heap ∙ i.heap;
    }

pub returns-clause-moves : goal.returns-clause-moves
returns-clause-moves c = λ a.
    let at = (goal.at.returns-clause-moves c).After-geometry in
    let l = c.args.numbered.now in
    let all : length (starts_of l) ≤ c.loop-object.object = omega (arith, c.loop-object-test.false, c.count-object-end.ensures, length-map (starts_of l) (age_at l.table)) in
    c.loop-object.invariant.moves a ∙ copy-all l (decision_of c.args.evacuated.now) (numbers at) c.loop-object.object all a

pub returns-clause-marked : goal.returns-clause-marked
returns-clause-marked c =
    let l = c.args.numbered.now in
    let all : length (starts_of l) ≤ c.loop-object.object = omega (arith, c.loop-object-test.false, c.count-object-end.ensures, length-map (starts_of l) (age_at l.table)) in
    c.loop-object.invariant.marked
    ∙ ap (filter (is_marked_at l (decision_of c.args.evacuated.now))) (take_all c.loop-object.object (starts_of l) all)
