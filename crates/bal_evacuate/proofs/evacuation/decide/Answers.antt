use Rattle.std.proofs.Common.{ap, ◌<◌, ◌≤◌, ◌^◌, ◌∙◌, ◌∷◌, ◌++◌, [], arith, length, refl, subst, sym}
use Rattle.bal_core.specs.declared.event.Decision.TheVariants as decision
use Rattle.bal_core.specs.Steps.{told}
use Rattle.bal_evacuate.specs.Course.{Course, decision_of}
use Rattle.bal_evacuate.proofs.Deciding.{age-young, calm-is, goes-none, here-few, here-largest, here-smallest, here-within, open-is, sought, sought-copied, sought-copies, sought-few, sought-idle, sought-marked, sought-marks, sought-object, sought-room, sought-within}
use Rattle.bal_evacuate.proofs.Order.{order-more, order-same}
use Rattle.bal_evacuate.proofs.UnderWay.{spares-bare}
use Rattle.bal_evacuate.proofs.evacuation.decide.Goals as goal

pub returns-then-has_decided-clause-goes : goal.returns-then-has_decided-clause-goes
returns-then-has_decided-clause-goes g c p going asked = goes-none p c.args.course.now going.2 going.3

pub words-words-requires : goal.words-words-requires
words-words-requires g c =
    here-within c.requires.0 (g.F.FromGraph.graph c.args.graph.now) c.args.limit c.args.course.now c.args.object c.requires.1 c.requires.2

pub age-requires : goal.age-requires
age-requires g c =
    here-within c.requires.0 (g.F.FromGraph.graph c.args.graph.now) c.args.limit c.args.course.now c.args.object c.requires.1 c.requires.2

pub overflow_cast-words : goal.overflow_cast-words
overflow_cast-words g c =
    let few : length c.words-words.result.now < 2 ^ 32
    = here-few c.requires.0 (g.F.FromGraph.graph c.args.graph.now) c.args.limit c.args.course.now c.args.object c.requires.1 c.words-words.result.now c.words-words.ensures in
    omega (arith, few)

pub seek_room-requires-clause-words : goal.seek_room-requires-clause-words
seek_room-requires-clause-words g c =
    here-largest c.requires.0 (g.F.FromGraph.graph c.args.graph.now) c.args.limit c.args.course.now c.args.object c.requires.1 c.words-words.result.now c.words-words.ensures

pub seek_room-requires-clause-pool : goal.seek_room-requires-clause-pool
seek_room-requires-clause-pool g c = spares-bare c.requires.0 c.args.course.now c.requires.1.2

pub copy-requires-clause-object : goal.copy-requires-clause-object
copy-requires-clause-object g c =
    sought-within c.requires.0 (g.F.FromGraph.graph c.args.graph.now) c.args.limit c.args.course.now c.args.object c.requires.1
    c.next_age-age.result (length c.words-words.result.now) c.seek_room.new.self (subst (λ n. n ≤ 24) (sym c.next_age-age.ensures) (age-young c.age.result)) c.seek_room.ensures.tries
    c.requires.2 (open-is (decision_of c.args.course.now c.args.object) (sym c.has_decided.ensures ∙ c.if-has_decided.false))

pub copy-requires-clause-some : goal.copy-requires-clause-some
copy-requires-clause-some g c =
    let two : 2 ≤ length c.words-words.result.now = here-smallest c.requires.0 (g.F.FromGraph.graph c.args.graph.now) c.args.limit c.args.course.now c.args.object c.requires.1 c.words-words.result.now c.words-words.ensures in
    omega (arith, two)

pub copy-requires-clause-is : goal.copy-requires-clause-is
copy-requires-clause-is g c =
    sought-object c.requires.0 (g.F.FromGraph.graph c.args.graph.now) c.args.limit c.args.course.now c.args.object c.requires.1
    c.next_age-age.result (length c.words-words.result.now) c.seek_room.new.self (subst (λ n. n ≤ 24) (sym c.next_age-age.ensures) (age-young c.age.result)) c.seek_room.ensures.tries
    c.words-words.result.now c.words-words.ensures

pub copy-requires-clause-room : goal.copy-requires-clause-room
copy-requires-clause-room g c =
    sought-room c.requires.0 (g.F.FromGraph.graph c.args.graph.now) c.args.limit c.args.course.now c.args.object c.requires.1
    c.next_age-age.result (length c.words-words.result.now) c.seek_room.new.self (subst (λ n. n ≤ 24) (sym c.next_age-age.ensures) (age-young c.age.result)) c.seek_room.ensures.tries
    c.requires.2 (open-is (decision_of c.args.course.now c.args.object) (sym c.has_decided.ensures ∙ c.if-has_decided.false))

pub copy-requires-clause-copied : goal.copy-requires-clause-copied
copy-requires-clause-copied g c =
    sought-few c.requires.0 (g.F.FromGraph.graph c.args.graph.now) c.args.limit c.args.course.now c.args.object c.requires.1
    c.next_age-age.result (length c.words-words.result.now) c.seek_room.new.self (subst (λ n. n ≤ 24) (sym c.next_age-age.ensures) (age-young c.age.result)) c.seek_room.ensures.tries
    c.requires.2 (open-is (decision_of c.args.course.now c.args.object) (sym c.has_decided.ensures ∙ c.if-has_decided.false))

pub copy-requires-clause-idle : goal.copy-requires-clause-idle
copy-requires-clause-idle g c =
    sought-idle c.requires.0 (g.F.FromGraph.graph c.args.graph.now) c.args.limit c.args.course.now c.args.object c.requires.1
    c.next_age-age.result (length c.words-words.result.now) c.seek_room.new.self (subst (λ n. n ≤ 24) (sym c.next_age-age.ensures) (age-young c.age.result)) c.seek_room.ensures.tries

pub mark-requires-clause-object : goal.mark-requires-clause-object
mark-requires-clause-object g c =
    sought-within c.requires.0 (g.F.FromGraph.graph c.args.graph.now) c.args.limit c.args.course.now c.args.object c.requires.1
    c.next_age-age.result (length c.words-words.result.now) c.seek_room.new.self (subst (λ n. n ≤ 24) (sym c.next_age-age.ensures) (age-young c.age.result)) c.seek_room.ensures.tries
    c.requires.2 (open-is (decision_of c.args.course.now c.args.object) (sym c.has_decided.ensures ∙ c.if-has_decided.false))

pub mark-requires-clause-room : goal.mark-requires-clause-room
mark-requires-clause-room g c =
    sought-room c.requires.0 (g.F.FromGraph.graph c.args.graph.now) c.args.limit c.args.course.now c.args.object c.requires.1
    c.next_age-age.result (length c.words-words.result.now) c.seek_room.new.self (subst (λ n. n ≤ 24) (sym c.next_age-age.ensures) (age-young c.age.result)) c.seek_room.ensures.tries
    c.requires.2 (open-is (decision_of c.args.course.now c.args.object) (sym c.has_decided.ensures ∙ c.if-has_decided.false))

pub returns-then-seek_room-clause-decided : goal.returns-then-seek_room-clause-decided
returns-then-seek_room-clause-decided g c =
    sought-copied c.requires.0 (g.F.FromGraph.graph c.args.graph.now) c.args.limit c.args.course.now c.args.object c.requires.1
    c.next_age-age.result (length c.words-words.result.now) c.seek_room.new.self (subst (λ n. n ≤ 24) (sym c.next_age-age.ensures) (age-young c.age.result)) c.seek_room.ensures.tries
    c.requires.2 (open-is (decision_of c.args.course.now c.args.object) (sym c.has_decided.ensures ∙ c.if-has_decided.false)) c.copy.new.self c.words-words.result.now c.copy.ensures

pub returns-else-seek_room-clause-decided : goal.returns-else-seek_room-clause-decided
returns-else-seek_room-clause-decided g c =
    sought-marked c.requires.0 (g.F.FromGraph.graph c.args.graph.now) c.args.limit c.args.course.now c.args.object c.requires.1
    c.next_age-age.result (length c.words-words.result.now) c.seek_room.new.self (subst (λ n. n ≤ 24) (sym c.next_age-age.ensures) (age-young c.age.result)) c.seek_room.ensures.tries
    c.requires.2 (open-is (decision_of c.args.course.now c.args.object) (sym c.has_decided.ensures ∙ c.if-has_decided.false)) c.mark.new.self c.mark.ensures

pub returns-then-seek_room-clause-goes : goal.returns-then-seek_room-clause-goes
returns-then-seek_room-clause-goes g c p going asked =
    sought-copies p (g.F.FromGraph.graph c.args.graph.now) c.args.limit c.args.course.now c.args.object going
    c.next_age-age.result (length c.words-words.result.now) c.seek_room.new.self (subst (λ n. n ≤ 24) (sym c.next_age-age.ensures) (age-young c.age.result)) c.seek_room.ensures.tries
    asked (open-is (decision_of c.args.course.now c.args.object) (sym c.has_decided.ensures ∙ c.if-has_decided.false)) c.copy.new.self c.words-words.result.now c.age.result refl
    (calm-is c.seek_room.new.self.cause (sym c.seek_room.ensures.answer ∙ c.if-seek_room.true)) c.next_age-age.ensures c.age.ensures c.words-words.ensures c.copy.ensures

pub returns-else-seek_room-clause-goes : goal.returns-else-seek_room-clause-goes
returns-else-seek_room-clause-goes g c p going asked =
    sought-marks p (g.F.FromGraph.graph c.args.graph.now) c.args.limit c.args.course.now c.args.object going
    c.next_age-age.result (length c.words-words.result.now) c.seek_room.new.self (subst (λ n. n ≤ 24) (sym c.next_age-age.ensures) (age-young c.age.result)) c.seek_room.ensures.tries
    asked (open-is (decision_of c.args.course.now c.args.object) (sym c.has_decided.ensures ∙ c.if-has_decided.false)) c.mark.new.self c.words-words.result.now c.age.result c.next_age-age.ensures c.age.ensures c.words-words.ensures refl
    (sym c.seek_room.ensures.answer ∙ c.if-seek_room.false) c.mark.ensures

pub returns-then-has_decided-clause-order : goal.returns-then-has_decided-clause-order
returns-then-has_decided-clause-order g c =
    order-same c.requires.0 c.args.course.now c.args.object c.requires.1.2 (sym c.has_decided.ensures ∙ c.if-has_decided.true)

pub returns-then-seek_room-clause-order : goal.returns-then-seek_room-clause-order
returns-then-seek_room-clause-order g c =
    let won = (sought c.requires.0 (g.F.FromGraph.graph c.args.graph.now) c.args.limit c.args.course.now c.args.object c.requires.1
    c.next_age-age.result (length c.words-words.result.now) c.seek_room.new.self (subst (λ n. n ≤ 24) (sym c.next_age-age.ensures) (age-young c.age.result)) c.seek_room.ensures.tries).won in
    order-more c.requires.0 c.args.course.now c.copy.new.self c.args.object (decision.Copied c.copy.ensures.address) c.requires.1.2
    (open-is (decision_of c.args.course.now c.args.object) (sym c.has_decided.ensures ∙ c.if-has_decided.false))
    (ap (λ (x : Course). x.won) c.copy.ensures.exact ∙ ap (λ l. l ++ told c.args.object (decision.Copied c.copy.ensures.address) ∷ []) won)

pub returns-else-seek_room-clause-order : goal.returns-else-seek_room-clause-order
returns-else-seek_room-clause-order g c =
    let won = (sought c.requires.0 (g.F.FromGraph.graph c.args.graph.now) c.args.limit c.args.course.now c.args.object c.requires.1
    c.next_age-age.result (length c.words-words.result.now) c.seek_room.new.self (subst (λ n. n ≤ 24) (sym c.next_age-age.ensures) (age-young c.age.result)) c.seek_room.ensures.tries).won in
    order-more c.requires.0 c.args.course.now c.mark.new.self c.args.object decision.Marked c.requires.1.2
    (open-is (decision_of c.args.course.now c.args.object) (sym c.has_decided.ensures ∙ c.if-has_decided.false))
    (ap (λ (x : Course). x.won) c.mark.ensures ∙ ap (λ l. l ++ told c.args.object decision.Marked ∷ []) won)
