use Rattle.std.proofs.Common.{◌<◌, Option, length, ap, arith, subst, sym}
use Rattle.bal_barrier.specs.Flush.{LeadToObjects}
use Rattle.bal_compact.specs.Trials.{IsTrial}
use Rattle.bal_compact.proofs.Trials.{trial-referred}
use Rattle.bal_table.specs.Table.{refs_in, things_of}
use Rattle.bal_words.specs.Shown.{Finds}
use Rattle.bal_words.specs.Things.{Thing}
use Rattle.bal_words.proofs.Lemmas.{there}
use Rattle.bal_compact.proofs.tests.point.Goals as goal

pub returns-then-slots-gt0 : goal.returns-then-slots-gt0
returns-then-slots-gt0 c =
    let t = c.args.table.now in
    let a = c.args.from in
    let x = there (things_of t a) (c.starts.ensures.start c.if-starts.true) in
    let within : 0 < length x.0.refs = omega (arith, c.if-slots-gt0.true, c.slots.ensures, ap (λ (o : Option Thing). length (refs_in o)) x.1) in
    let finds = subst (Finds (things_of t)) (sym c.word_of.ensures) (c.starts-then-starts.ensures.start c.if-starts-2.true) in
    subst IsTrial (sym c.store_ref.ensures.table)
    (trial-referred t a 0 c.word_of.result x.0 c.starts.ensures.table x.1 within
    (subst LeadToObjects c.store_ref.ensures.table (c.store_ref.ensures.found finds c.requires.trial.found)) c.requires.trial)
