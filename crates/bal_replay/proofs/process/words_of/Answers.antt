use Rattle.std.proofs.Common.{◌≡◌, ◌∙◌, drop, ap}
use Rattle.std.specs.Vec.Iter.{into_iter_items, into_iter_len}
use Rattle.std.proofs.lemmas.Iterator.{items_from_collect}
use Rattle.std.proofs.lemmas.Iterator.Adapters.{YieldsList-from_skip, YieldsList-from_vec}
use Rattle.bal_replay.proofs.process.words_of.Goals as goal

pub returns-in-Ok-collect-clause-given : goal.returns-in-Ok-collect-clause-given
returns-in-Ok-collect-clause-given c =
    let source = c.skip.ensures.source in
    let items = items_from_collect c.collect.result c.collect.ensures.ran
    (YieldsList-from_skip 1 (YieldsList-from_vec _ (ap into_iter_items source) (ap into_iter_len source ∙ c.in-Ok.given.rest.ok.0)) c.skip.ensures.count) in
    let words : c.in-Ok-collect.words.items ≡ drop 1 (into_iter_items c.in-Ok.given) = rw c.in-Ok-collect.is at items in
    rw c.in-Ok.is words
