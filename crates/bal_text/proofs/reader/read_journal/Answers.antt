use Rattle.std.proofs.Common.{[], ◌∷◌, ◌∙◌, ap, map, sym}
use Rattle.std.proofs.lemmas.List.{map-append}
use Rattle.bal_model.specs.Entries.{entry_of}
use Rattle.bal_text.proofs.TextFacts.{bad_line, behind_shorter, none_begins, read_more}
use Rattle.bal_text.proofs.reader.read_journal.Goals as goal

pub returns-in_default : goal.returns-in_default
returns-in_default c =
    bad_line c.args.bytes.now c.loop-rest.events.list c.loop-rest.rest.now c.len.result c.loop-rest.invariant c.len.ensures c.loop-rest-test.ensures
    (none_begins c.loop-rest.rest.now (sym (rw c.in_default.is at c.in_ok-event.ensures)))

pub loop-rest-smaller : goal.loop-rest-smaller
loop-rest-smaller c =
    behind_shorter c.loop-rest.rest.now (entry_of c.in-Some.event) c.in-Some.behind.now (sym (rw c.in-Some.is at c.in_ok-event.ensures))

pub loop-rest-preserved : goal.loop-rest-preserved
loop-rest-preserved c =
    let first = sym (rw c.in-Some.is at c.in_ok-event.ensures) in
    let grown = ap (map entry_of) c.in_ok-append.ensures.ok ∙ map-append entry_of c.loop-rest.events.list (c.in-Some.event ∷ []) in
    read_more c.args.bytes.now _ _ (entry_of c.in-Some.event) c.loop-rest.rest.now c.in-Some.behind.now c.loop-rest.invariant first grown
