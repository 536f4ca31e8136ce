use Rattle.std.proofs.Common.{◌+◌, ◌*◌, ◌/◌, ◌%◌, ◌^◌, ◌<◌, get_or, ◌∙◌, ap, arith, length, length-set, List, ℕ, set}
use Rattle.std.specs.Prelude.{bit_or}
use Rattle.std.proofs.lemmas.Grind.{get_or_default_zero}
use Rattle.bal_base.specs.Bits.{Members, with_member}
use Rattle.bal_base.specs.KeptBits.{members_in}
use Rattle.bal_base.proofs.SetBits.{members-more}
use Rattle.bal_base.proofs.Padded.{grown-within, length-grown}
use Rattle.bal_base.proofs.bits.Bits.insert.Goals as goal

pub index_mut-requires : goal.index_mut-requires
index_mut-requires c =
    omega (arith, (length-grown (c.args.number / 64 + 1) c.self.inside.words.items).0, ap (λ (ws : List ℕ). length ws) c.grow.ensures.items, c.grow.new.items.ok.0)

pub invariant_of-self : goal.invariant_of-self
invariant_of-self c =
    let end = c.args.number / 64 + 1 in
    omega (
      arith,
      grown-within (2 ^ 26) end c.self.inside.words.items (omega (arith, c.ranges.number)) c.self.invariant,
      ap (λ (ws : List ℕ). length ws) c.grow.ensures.items,
      length-set c.grow.new.items.items (c.args.number / 64) (bit_or c.index_mut.result.now (1 * 2 ^ (c.args.number % 64) % 2 ^ 64)),
    )

pub returns-clause-members : goal.returns-clause-members
returns-clause-members c =
    let bits = c.self.inside.words.items in
    let bit = 1 * 2 ^ (c.args.number % 64) % 2 ^ 64 in
    let within : c.args.number / 64 < length c.grow.new.items.items =
    omega (arith, (length-grown (c.args.number / 64 + 1) bits).0, ap (λ (ws : List ℕ). length ws) c.grow.ensures.items) in
    let read = c.index_mut.ensures.value ∙ (get_or_default_zero c.grow.new.items.items (c.args.number / 64) c.index_mut.result.now within
    ∙ ap (λ (ws : List ℕ). get_or ws (c.args.number / 64) 0) c.grow.ensures.items) in
    ap (λ (ws : List ℕ). members_in (set ws (c.args.number / 64) (bit_or c.index_mut.result.now bit))) c.grow.ensures.items
    ∙ (members-more bits c.args.number _ (ap (λ w. bit_or w bit) read)
    ∙ ap (λ (p : Members). with_member c.args.number p.members) c.self.view_is)
