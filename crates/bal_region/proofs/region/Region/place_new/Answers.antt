use Rattle.std.proofs.Common.{◌≡◌, ◌+◌, ◌≤◌, ◌∙◌, ap, arith, length, subst, sym, refl}
use Rattle.bal_region.specs.Changes.{blank_words, overwrite, with_object}
use Rattle.bal_region.specs.Land.{IsObject, Land}
use Rattle.bal_base.specs.Filling.{padded}
use Rattle.bal_region.proofs.Lists.{length-blank}
use Rattle.bal_region.proofs.Regions.{IsRegion-placed, land-placed, region-long, room-left, starts-more}
use Rattle.bal_region.proofs.region.Region.place_new.Goals as goal

pub write_blank-requires-clause-within : goal.write_blank-requires-clause-within
write_blank-requires-clause-within c =
    let fits = subst (λ (l : Land). l.used + c.args.words ≤ length l.words) (sym c.self.view_is) c.requires.fits in
    omega (arith, fits, region-long c.self.inside c.self.invariant, c.self.invariant.words)

pub insert-requires : goal.insert-requires
insert-requires c =
    room-left c.self.inside c.args.words c.self.invariant c.requires.two
    (subst (λ (l : Land). l.used + c.args.words ≤ length l.words) (sym c.self.view_is) c.requires.fits)

pub overflow_add-self : goal.overflow_add-self
overflow_add-self c =
    let fits = subst (λ (l : Land). l.used + c.args.words ≤ length l.words) (sym c.self.view_is) c.requires.fits in
    omega (arith, fits, region-long c.self.inside c.self.invariant, c.self.invariant.few)

pub invariant_of-self : goal.invariant_of-self
invariant_of-self c =
    let object = blank_words c.args.first c.args.second c.args.words in
    let size : length object ≡ c.args.words = length-blank c.args.first c.args.second c.args.words c.requires.two in
    let fits = subst (λ (l : Land). l.used + c.args.words ≤ length l.words) (sym c.self.view_is) c.requires.fits in
    let is = subst (λ (l : Land). IsObject (length l.words) object) (sym c.self.view_is) c.requires.object in
    let words = c.write_blank.ensures.words
    ∙ ap (λ n. overwrite (padded (c.self.inside.used + n) c.self.inside.words.items) c.self.inside.used object) (sym size) in
    IsRegion-placed c.self.inside c.self.invariant _ refl refl c.write_blank.ensures.capacity c.insert.ensures.room object is (omega (arith, fits, size)) words
    (starts-more c.self.inside _ c.self.invariant c.insert.ensures.members) (ap (λ n. c.self.inside.used + n) (sym size))

pub returns-clause-land : goal.returns-clause-land
returns-clause-land c =
    let object = blank_words c.args.first c.args.second c.args.words in
    let size : length object ≡ c.args.words = length-blank c.args.first c.args.second c.args.words c.requires.two in
    let fits = subst (λ (l : Land). l.used + c.args.words ≤ length l.words) (sym c.self.view_is) c.requires.fits in
    let words = c.write_blank.ensures.words
    ∙ ap (λ n. overwrite (padded (c.self.inside.used + n) c.self.inside.words.items) c.self.inside.used object) (sym size) in
    land-placed c.self.inside c.self.invariant object _ _ _ (omega (arith, fits, size)) words (starts-more c.self.inside _ c.self.invariant c.insert.ensures.members) (ap (λ n. c.self.inside.used + n) (sym size))
    ∙ ap (λ (l : Land). with_object l object) c.self.view_is
