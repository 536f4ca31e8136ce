use Rattle.std.proofs.Common.{◌≡◌, ◌+◌, ◌<◌, ℕ, List, length, true, Some, refl, ap, arith, subst, sym, ◌∙◌}
use Rattle.std.specs.Prelude.{IfSome, slice_get}
use Rattle.bal_base.specs.Bits.{is_member}
use Rattle.bal_cards.specs.Cards.{Cards}
use Rattle.bal_layout.specs.Addresses.{cards_of}
use Rattle.bal_layout.specs.Shape.{Shape}
use Rattle.bal_table.specs.Table.{Table}
use Rattle.bal_barrier.specs.Flush.{LeadToObjects, with_notes}
use Rattle.bal_barrier.proofs.Flushed.{begins-not, flushed-card, flushed-none, remembered-all, rest-of}
use Rattle.bal_barrier.proofs.Order.{next-first}
use Rattle.bal_barrier.proofs.Targets.{lead-states}
use Rattle.bal_barrier.proofs.flushing.flush.Goals as goal

pub loop-next-init : goal.loop-next-init
loop-next-init c =
    let next = c.next_list-next.ensures in
    record {
      flushed = flushed-none c.args.limit c.args.table.now c.args.cards.now c.args.notes.now.list;
      shape = c.requires.shape;
      ascending = next.ascending;
      next = next-first c.args.cards.now.list 0 c.next_list-next.result next.ascending (λ n _. omega arith) next.next;
      within = subst (λ (s : Shape). IfSome c.next_list-next.result (λ card. card < cards_of s)) c.requires.shape next.within;
      scratch = refl;
      room = refl;
      covered = λ h. h;
    }

pub flush_card-requires-clause-found : goal.flush_card-requires-clause-found
flush_card-requires-clause-found c =
    let t = c.args.table.now in
    let f = c.loop-next.invariant.flushed in
    subst LeadToObjects (sym f.remembered) (lead-states t (with_notes c.args.limit t.regions f.made) t.current c.requires.found)

pub loop-next-smaller : goal.loop-next-smaller
loop-next-smaller c =
    let i = c.loop-next.invariant in
    let first : slice_get c.loop-next.cards.list 0 ≡ Some c.in-Some.card = i.next ∙ c.in-Some.is in
    let r = rest-of c.loop-next.cards.list c.in-Some.card i.ascending first in
    let now : c.flush_card.new.cards.list ≡ r.0 = ap (λ (x : Cards). x.list) c.flush_card.ensures.cards ∙ r.1.without in
    omega (arith, ap (λ (l : List ℕ). length l) now, ap (λ (l : List ℕ). length l) r.1.whole)

pub loop-next-preserved : goal.loop-next-preserved
loop-next-preserved c =
    let i = c.loop-next.invariant in
    let flushed = c.flush_card.ensures in
    let next = c.next_list-next-in-Some.ensures in
    let first : slice_get c.loop-next.cards.list 0 ≡ Some c.in-Some.card = i.next ∙ c.in-Some.is in
    let r = rest-of c.loop-next.cards.list c.in-Some.card i.ascending first in
    let now : c.flush_card.new.cards.list ≡ r.0 = ap (λ (x : Cards). x.list) flushed.cards ∙ r.1.without in
    let shape : c.flush_card.new.cards.shape ≡ c.flush_card.new.table.shape =
    ap (λ (x : Cards). x.shape) flushed.cards ∙ (i.shape ∙ sym (ap (λ (w : Table). w.shape) flushed.table)) in
    record {
      flushed = flushed-card c.args.limit c.args.table.now c.loop-next.table c.flush_card.new.table c.args.cards.now c.loop-next.cards c.flush_card.new.cards
          c.args.notes.now.list c.loop-next.notes.list c.flush_card.new.notes.list c.in-Some.card
          c.geometry.ensures.limits c.next_list-next.ensures.ascending i.flushed i.ascending first flushed.notes flushed.table flushed.cards;
      shape = shape;
      ascending = next.ascending;
      next = next-first c.flush_card.new.cards.list (c.in-Some.card + 1) c.next_list-next-in-Some.result next.ascending
          (λ n among. omega (arith, r.1.after n (subst (λ l. is_member l n ≡ true) now among))) next.next;
      within = subst (λ (s : Shape). IfSome c.next_list-next-in-Some.result (λ card. card < cards_of s)) shape next.within;
      scratch = flushed.scratch ∙ i.scratch;
      room = flushed.room ∙ i.room;
      covered = λ h. flushed.covered (i.covered h);
    }

pub returns-clause-all : goal.returns-clause-all
returns-clause-all c = (λ _. begins-not c.loop-next.cards.list (c.loop-next.invariant.next ∙ c.in_default.is), λ _. refl)

pub returns-clause-remembered : goal.returns-clause-remembered
returns-clause-remembered c = λ _ h.
    let i = c.loop-next.invariant in
    remembered-all c.loop-next.table c.loop-next.cards (begins-not c.loop-next.cards.list (i.next ∙ c.in_default.is)) (i.covered h)
