use Rattle.std.proofs.Common.{◌∙◌, ap, arith, length, refl, subst, sym, List, ℕ}
use Rattle.bal_base.specs.Bits.{with_member}
use Rattle.bal_region.specs.Changes.{MaySlide, with_slid}
use Rattle.bal_region.specs.Land.{Land}
use Rattle.bal_region.proofs.Moving.{IsRegion-slid, land-slid, room-slid, words-slid}
use Rattle.bal_region.proofs.Regions.{object-within, size-read}
use Rattle.bal_region.proofs.region.Region.slide.Goals as goal

pub size_of-size-requires-clause-within : goal.size_of-size-requires-clause-within
size_of-size-requires-clause-within c =
    let may = subst (λ (l : Land). MaySlide l c.args.from c.args.to) (sym c.self.view_is) c.requires in
    let found = object-within c.self.inside c.args.from c.self.invariant may.start in
    omega (arith, found.0, found.1, ap (λ (ws : List ℕ). length ws) c.deref.ensures.value)

pub overflow_add-at : goal.overflow_add-at
overflow_add-at c =
    let may = subst (λ (l : Land). MaySlide l c.args.from c.args.to) (sym c.self.view_is) c.requires in
    let found = object-within c.self.inside c.args.from c.self.invariant may.start in
    let size = c.size_of-size.ensures ∙ size-read c.self.inside c.args.from c.deref.result.now c.self.invariant c.deref.ensures.value in
    omega (arith, found.1, size, c.self.invariant.within, c.self.invariant.few)

pub copy_within-requires-clause-in_bounds : goal.copy_within-requires-clause-in_bounds
copy_within-requires-clause-in_bounds c =
    let may = subst (λ (l : Land). MaySlide l c.args.from c.args.to) (sym c.self.view_is) c.requires in
    let found = object-within c.self.inside c.args.from c.self.invariant may.start in
    let size = c.size_of-size.ensures ∙ size-read c.self.inside c.args.from c.deref.result.now c.self.invariant c.deref.ensures.value in
    omega (arith, found.1, size)

pub copy_within-requires-clause-dest_in_bounds : goal.copy_within-requires-clause-dest_in_bounds
copy_within-requires-clause-dest_in_bounds c =
    let may = subst (λ (l : Land). MaySlide l c.args.from c.args.to) (sym c.self.view_is) c.requires in
    let found = object-within c.self.inside c.args.from c.self.invariant may.start in
    let size = c.size_of-size.ensures ∙ size-read c.self.inside c.args.from c.deref.result.now c.self.invariant c.deref.ensures.value in
    omega (arith, may.down, found.1, size)

pub insert-requires : goal.insert-requires
insert-requires c =
    let may = subst (λ (l : Land). MaySlide l c.args.from c.args.to) (sym c.self.view_is) c.requires in
    omega (arith, c.remove.ensures.room, room-slid c.self.inside c.self.invariant c.args.from c.args.to may)

pub invariant_of-self : goal.invariant_of-self
invariant_of-self c =
    let a = c.self.inside in
    let may = subst (λ (l : Land). MaySlide l c.args.from c.args.to) (sym c.self.view_is) c.requires in
    let size = c.size_of-size.ensures ∙ size-read a c.args.from c.deref.result.now c.self.invariant c.deref.ensures.value in
    let words = words-slid a c.self.invariant c.args.from c.args.to may c.size_of-size.result _ size c.copy_within.ensures.items in
    let starts = c.insert.ensures.members ∙ ap (with_member c.args.to) c.remove.ensures.members in
    IsRegion-slid a c.self.invariant c.args.from c.args.to may _ (land-slid a c.self.invariant c.args.from c.args.to may _ _ words starts) refl refl
    (omega (arith, c.copy_within.ensures.capacity)) (omega (arith, c.remove.ensures.room, c.insert.ensures.room)) words

pub returns : goal.returns
returns c =
    let a = c.self.inside in
    let may = subst (λ (l : Land). MaySlide l c.args.from c.args.to) (sym c.self.view_is) c.requires in
    let size = c.size_of-size.ensures ∙ size-read a c.args.from c.deref.result.now c.self.invariant c.deref.ensures.value in
    let words = words-slid a c.self.invariant c.args.from c.args.to may c.size_of-size.result _ size c.copy_within.ensures.items in
    let starts = c.insert.ensures.members ∙ ap (with_member c.args.to) c.remove.ensures.members in
    land-slid a c.self.invariant c.args.from c.args.to may _ _ words starts ∙ ap (λ (l : Land). with_slid l c.args.from c.args.to) c.self.view_is
