use Rattle.std.proofs.Common.{◌+◌, ◌<◌, ◌∙◌, ap, arith, length, refl, set, subst, sym, List, ℕ}
use Rattle.bal_region.specs.Changes.{with_word}
use Rattle.bal_region.specs.Land.{IsBehindHeaders, Land}
use Rattle.bal_base.proofs.Lemmas.{length-grown}
use Rattle.bal_region.proofs.Regions.{IsRegion-written, land-written, region-long}
use Rattle.bal_region.proofs.region.Region.set_word.Goals as goal

pub grow-requires : goal.grow-requires
grow-requires c =
    let fits = subst (λ (l : Land). c.args.offset < length l.words) (sym c.self.view_is) c.requires.within in
    omega (arith, fits, region-long c.self.inside c.self.invariant, c.self.invariant.words)

pub index_mut-requires : goal.index_mut-requires
index_mut-requires c =
    omega (arith, (length-grown (c.args.offset + 1) c.self.inside.words.items).0, ap (λ (ws : List ℕ). length ws) c.grow.ensures.items, c.grow.new.items.ok.0)

pub invariant_of-self : goal.invariant_of-self
invariant_of-self c =
    let behind = subst (λ (l : Land). IsBehindHeaders l c.args.offset) (sym c.self.view_is) c.requires.behind in
    let fits = subst (λ (l : Land). c.args.offset < length l.words) (sym c.self.view_is) c.requires.within in
    let words = ap (λ (ws : List ℕ). set ws c.args.offset c.args.value) c.grow.ensures.items in
    IsRegion-written c.self.inside c.self.invariant _ refl refl c.grow.ensures.capacity (omega arith) c.args.offset c.args.value behind fits words refl refl

pub returns : goal.returns
returns c =
    let fits = subst (λ (l : Land). c.args.offset < length l.words) (sym c.self.view_is) c.requires.within in
    let words = ap (λ (ws : List ℕ). set ws c.args.offset c.args.value) c.grow.ensures.items in
    land-written c.self.inside c.self.invariant c.args.offset c.args.value _ fits words ∙ ap (λ (l : Land). with_word l c.args.offset c.args.value) c.self.view_is
