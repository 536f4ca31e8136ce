use Rattle.std.proofs.Common.{◌+◌, ◌≤◌, ◌∙◌, ap, arith, length, refl, subst, sym, List, ℕ}
use Rattle.std.proofs.lemmas.List.{with_items_is}
use Rattle.bal_words.specs.Pieces.{header_in}
use Rattle.bal_region.specs.Changes.{overwrite, with_object}
use Rattle.bal_region.specs.Land.{IsObject, Land}
use Rattle.bal_region.proofs.Lands.{size_by-two}
use Rattle.bal_base.proofs.Lemmas.{length-grown}
use Rattle.bal_region.proofs.Regions.{IsRegion-placed, land-placed, region-long, room-left, starts-more}
use Rattle.bal_region.proofs.region.Region.place.Goals as goal

pub grow-requires : goal.grow-requires
grow-requires c =
    let fits = subst (λ (l : Land). l.used + length c.args.words.now ≤ length l.words) (sym c.self.view_is) c.requires.fits in
    omega (arith, fits, region-long c.self.inside c.self.invariant, c.self.invariant.words)

pub write_at-requires : goal.write_at-requires
write_at-requires c =
    let grown = (length-grown (c.self.inside.used + length c.args.words.now) c.self.inside.words.items).0 in
    omega (arith, grown, ap (λ (ws : List ℕ). length ws) (c.deref_mut.ensures.value ∙ c.grow.ensures.items))

pub insert-requires : goal.insert-requires
insert-requires c =
    let object = c.args.words.now in
    let fits = subst (λ (l : Land). l.used + length object ≤ length l.words) (sym c.self.view_is) c.requires.fits in
    room-left c.self.inside (length object) c.self.invariant
    (omega (arith, size_by-two (length c.args.self.now.words) (header_in object) c.requires.object.header, c.requires.object.size)) fits

pub overflow_cast-self : goal.overflow_cast-self
overflow_cast-self c =
    let fits = subst (λ (l : Land). l.used + length c.args.words.now ≤ length l.words) (sym c.self.view_is) c.requires.fits in
    omega (arith, fits, region-long c.self.inside c.self.invariant, c.self.invariant.few)

pub overflow_add-self : goal.overflow_add-self
overflow_add-self c =
    let fits = subst (λ (l : Land). l.used + length c.args.words.now ≤ length l.words) (sym c.self.view_is) c.requires.fits in
    omega (arith, fits, region-long c.self.inside c.self.invariant, c.self.invariant.few)

pub invariant_of-self : goal.invariant_of-self
invariant_of-self c =
    let object = c.args.words.now in
    let fits = subst (λ (l : Land). l.used + length object ≤ length l.words) (sym c.self.view_is) c.requires.fits in
    let is = subst (λ (l : Land). IsObject (length l.words) object) (sym c.self.view_is) c.requires.object in
    let words = with_items_is c.grow.new.items c.write_at.new.words (c.write_at.auto.words ∙ c.deref_mut.ensures.len)
    ∙ (c.write_at.ensures ∙ ap (λ ws. overwrite ws c.self.inside.used object) (c.deref_mut.ensures.value ∙ c.grow.ensures.items)) in
    IsRegion-placed c.self.inside c.self.invariant _ refl refl c.grow.ensures.capacity c.insert.ensures.room object is fits words (starts-more c.self.inside _ c.self.invariant c.insert.ensures.members) refl

pub returns-clause-land : goal.returns-clause-land
returns-clause-land c =
    let object = c.args.words.now in
    let fits = subst (λ (l : Land). l.used + length object ≤ length l.words) (sym c.self.view_is) c.requires.fits in
    let words = with_items_is c.grow.new.items c.write_at.new.words (c.write_at.auto.words ∙ c.deref_mut.ensures.len)
    ∙ (c.write_at.ensures ∙ ap (λ ws. overwrite ws c.self.inside.used object) (c.deref_mut.ensures.value ∙ c.grow.ensures.items)) in
    land-placed c.self.inside c.self.invariant object _ _ _ fits words (starts-more c.self.inside _ c.self.invariant c.insert.ensures.members) refl ∙ ap (λ (l : Land). with_object l object) c.self.view_is
