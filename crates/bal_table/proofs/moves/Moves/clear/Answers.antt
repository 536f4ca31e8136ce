use Rattle.std.proofs.Common.{◌∙◌, List, ℕ, ap, arith, length, length-set, sym}
use Rattle.bal_base.specs.Items.{Seq}
use Rattle.bal_layout.specs.Regions.{is_in}
use Rattle.bal_table.specs.Moves.{Forwarding, no_moves}
use Rattle.bal_table.proofs.KeptMoving.{IsKept-none, from-written, last-among, long, null-beside, null-still, rest-among, words-null}
use Rattle.bal_table.proofs.Marking.{one-more}
use Rattle.bal_table.proofs.moves.Moves.clear.Goals as goal

pub loop-address-init : goal.loop-address-init
loop-address-init c =
    let a = c.self.inside in
    let kept = c.self.invariant in
    record {
      null = null-beside a kept;
      written = from-written a kept;
      words = sym (long a kept) ∙ ap (λ (m : Forwarding). length m.words) c.self.view_is;
      within = kept.within;
      capacity = kept.words;
      room = kept.room;
      few = omega (arith, kept.forwarding.few, long a kept);
    }

pub index_mut-requires : goal.index_mut-requires
index_mut-requires c =
    let a = c.loop-address.self-inside in
    let last = last-among a.moved.list c.pop.new.self.list c.in-Some.address c.in-Some.ensures.last.0 in
    omega (arith, c.loop-address.invariant.written c.in-Some.address last, a.table.ok.0)

pub loop-address-preserved : goal.loop-address-preserved
loop-address-preserved c =
    let a = c.loop-address.self-inside in
    let i = c.loop-address.invariant in
    let address = c.in-Some.address in
    let list = c.in-Some.ensures.last.0 in
    let inside = i.written address (last-among a.moved.list c.pop.new.self.list address list) in
    record {
      null = null-still a.table.items a.moved.list c.pop.new.self.list address list inside i.null;
      written = λ n among. omega (arith, i.written n (rest-among a.moved.list c.pop.new.self.list address n list among), length-set a.table.items address 0);
      words = i.words;
      within = omega (arith, i.within, length-set a.table.items address 0);
      capacity = i.capacity;
      room = omega (arith, i.room, ap (λ (l : List ℕ). length l) list, one-more c.pop.new.self.list address, c.in-Some.ensures.last.1);
      few = i.few;
    }

pub invariant_of-self : goal.invariant_of-self
invariant_of-self c =
    let a = c.loop-address.self-inside in
    let i = c.loop-address.invariant in
    let none = c.in_default.ensures.last in
    let null = words-null a.words a.table.items i.within (λ n. i.null n (ap (is_in n) none.0)) in
    IsKept-none _ i.few (ap (λ (ws : List ℕ). record { words = ws }) null) i.within i.capacity (ap (λ (s : Seq ℕ). s.list) none.1 ∙ none.0)
    (omega (arith, i.room, ap (λ (l : List ℕ). length l) none.0, ap (λ (s : Seq ℕ). s.spare) none.1))

pub returns : goal.returns
returns c =
    let a = c.loop-address.self-inside in
    let i = c.loop-address.invariant in
    let null = words-null a.words a.table.items i.within (λ n. i.null n (ap (is_in n) c.in_default.ensures.last.0)) in
    ap (λ (ws : List ℕ). record { words = ws }) null ∙ ap no_moves i.words
