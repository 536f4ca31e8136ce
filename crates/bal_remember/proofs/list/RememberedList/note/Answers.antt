use Rattle.std.proofs.Common.{◌≡◌, ◌∙◌, ℕ, List, Bool, length, ap, sym, arith, false}
use Rattle.std.proofs.lemmas.Bool.{false≢true}
use Rattle.std.proofs.lemmas.List.Edits.{length-insert}
use Rattle.bal_remember.specs.Remembered.{Remembered, cards, remembered_by}
use Rattle.bal_remember.proofs.Ascending.{place-absent, search-found, search-place, with-ascends, with-at}
use Rattle.bal_remember.proofs.Noting.{when-added, when-full, when-known}
use Rattle.bal_remember.proofs.list.RememberedList.note.Goals as goal

-- a list that has not overflowed is its cards
still : (cs : List ℕ) (over : Bool) (r : Remembered) → over ≡ false → remembered_by cs over ≡ r → cards cs ≡ r
still cs over r not_over view = sym (ap (remembered_by cs) not_over) ∙ view

pub returns-in-Ok-clause-answer : goal.returns-in-Ok-clause-answer
returns-in-Ok-clause-answer c =
    let cs = c.self.inside.cards.list in
    let there = search-found cs _ _ _ c.as_slice.ensures c.self.invariant.ascending c.in-Ok.ensures.position in
    rw (← still cs _ _ c.if-self.false c.self.view_is) (sym (when-known c.args.limit _ cs there).0)

pub returns-in-Ok-clause-list : goal.returns-in-Ok-clause-list
returns-in-Ok-clause-list c =
    let cs = c.self.inside.cards.list in
    let there = search-found cs _ _ _ c.as_slice.ensures c.self.invariant.ascending c.in-Ok.ensures.position in
    rw (← still cs _ _ c.if-self.false c.self.view_is) (sym (when-known c.args.limit _ cs there).1)

pub returns-then-len-limit-clause-answer : goal.returns-then-len-limit-clause-answer
returns-then-len-limit-clause-answer c =
    let cs = c.self.inside.cards.list in
    let place = search-place cs _ _ _ c.as_slice.ensures c.self.invariant.ascending c.in-Err.ensures.position in
    rw (← still cs _ _ c.if-self.false c.self.view_is) (sym (when-full c.args.limit _ cs (place-absent cs _ _ place) (omega arith)).0)

pub returns-then-len-limit-clause-list : goal.returns-then-len-limit-clause-list
returns-then-len-limit-clause-list c =
    let cs = c.self.inside.cards.list in
    let place = search-place cs _ _ _ c.as_slice.ensures c.self.invariant.ascending c.in-Err.ensures.position in
    rw (← still cs _ _ c.if-self.false c.self.view_is) (sym (when-full c.args.limit _ cs (place-absent cs _ _ place) (omega arith)).1)

pub invariant_of-self-2 : goal.invariant_of-self-2
invariant_of-self-2 c =
    let cs = c.self.inside.cards.list in
    let place = search-place cs _ _ _ c.as_slice.ensures c.self.invariant.ascending c.in-Err.ensures.position in
    let more = ap (λ (l : List ℕ). length l) c.insert.ensures.list ∙ length-insert cs c.in-Err.place c.args.card place.within in
    record {
      ascending = rw (c.insert.ensures.list, ← with-at cs _ _ place) (with-ascends c.args.card cs c.self.invariant.ascending);
      few = omega arith;
      room = omega arith;
      none = λ over. absurd (false≢true (sym c.if-self.false ∙ over));
    }

pub returns-clause-answer : goal.returns-clause-answer
returns-clause-answer c =
    let cs = c.self.inside.cards.list in
    let place = search-place cs _ _ _ c.as_slice.ensures c.self.invariant.ascending c.in-Err.ensures.position in
    rw (← still cs _ _ c.if-self.false c.self.view_is) (sym (when-added c.args.limit _ cs (place-absent cs _ _ place) (omega arith)).0)

pub returns-clause-list : goal.returns-clause-list
returns-clause-list c =
    let cs = c.self.inside.cards.list in
    let place = search-place cs _ _ _ c.as_slice.ensures c.self.invariant.ascending c.in-Err.ensures.position in
    rw (← still cs _ _ c.if-self.false c.self.view_is, c.if-self.false, c.insert.ensures.list, ← with-at cs _ _ place) (sym (when-added c.args.limit _ cs (place-absent cs _ _ place) (omega arith)).1)
